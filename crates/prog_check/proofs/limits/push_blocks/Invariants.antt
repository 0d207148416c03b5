use Rattle.std.proofs.Common.{◌≡◌, ◌++◌, drop}
use Rattle.prog_check.proofs.limits.push_blocks.Given as goal

abbrev pub invariant-loop-block : goal.invariant-loop-block
invariant-loop-block l = l.all ++ drop l.block-index l.block-items ≡ l.initial.all ++ l.block-items
