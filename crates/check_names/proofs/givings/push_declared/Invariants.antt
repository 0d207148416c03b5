use Rattle.std.proofs.Common.{◌≡◌, ◌++◌, drop, map}
use Rattle.check_names.specs.Givings.{declared}
use Rattle.check_names.proofs.givings.push_declared.Given as goal

abbrev pub invariant-loop-declarator : goal.invariant-loop-declarator
invariant-loop-declarator l = l.found ++ map (declared l.attribute) (drop l.declarator-index l.declarator-items) ≡ l.initial.found ++ map (declared l.attribute) l.declarator-items
