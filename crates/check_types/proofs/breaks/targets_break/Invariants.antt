use Rattle.std.proofs.Common.{◌≡◌, drop}
use Rattle.std.specs.List.{list_any}
use Rattle.check_types.specs.Breaks.{target_breaks}
use Rattle.check_types.proofs.breaks.targets_break.Given as goal

abbrev pub invariant-loop-target : goal.invariant-loop-target
invariant-loop-target l = list_any (target_breaks l.facts l.constants l.rule l.ty) (drop l.target-index l.target-items) ≡ list_any (target_breaks l.facts l.constants l.rule l.ty) l.target-items
