use Rattle.std.proofs.Common.{◌≡◌, ◌++◌, None, drop, map}
use Rattle.f77_names.specs.Declarations.{declared}
use Rattle.f77_names.proofs.declarations.push_all.Given as goal

abbrev pub invariant-loop-declarator : goal.invariant-loop-declarator
invariant-loop-declarator l = l.found ++ map (declared l.constants l.word None) (drop l.declarator-index l.declarator-items) ≡ l.initial.found ++ map (declared l.constants l.word None) l.declarator-items
