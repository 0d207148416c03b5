use Rattle.std.proofs.Common.{◌≡◌, ◌≤◌, ◌∷◌, [], ◌++◌, take, drop}
use Rattle.f77_parse.specs.Progress.{Stands}
use Rattle.f77_parse.proofs.unit.parse_unit.Given as goal

abbrev pub invariant-loop-line : goal.invariant-loop-line
invariant-loop-line l = record {
  small : l.progress.tokens ≤ 20001;
  kind : l.progress.context.kind ≡ l.kind;
  stands : Stands (take l.line-index l.front) (drop l.line-index l.front ++ l.last ∷ []) l.progress;
}
