use Rattle.std.proofs.Common.{◌≡◌, ◌++◌, Some, None, drop, map}
use Rattle.f77_names.specs.Declarations.{declared}
use Rattle.f77_names.proofs.declarations.push_block.Given as goal

abbrev pub invariant-loop-declarator : goal.invariant-loop-declarator
invariant-loop-declarator l = l.found ++ map (declared l.constants None (Some l.block.0)) (drop l.declarator-index l.declarator-items) ≡ l.initial.found ++ map (declared l.constants None (Some l.block.0)) l.declarator-items
