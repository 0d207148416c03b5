use Rattle.std.proofs.Common.{◌≡◌, [], reverse, map, vec_len}
use Rattle.interp_code.specs.Steps.{passed_above}
use Rattle.interp_steps.specs.Frames.{interval_of}
use Rattle.interp_steps.specs.Stacks.{stack_of}
use Rattle.interp_steps.proofs.operand.pop_passed.Given as goal

abbrev pub invariant-loop-top : goal.invariant-loop-top
invariant-loop-top l = passed_above (stack_of l.initial.stack.items) [] ≡ passed_above (stack_of l.stack.items) (map interval_of (reverse l.found.items))

abbrev pub decreases-loop-top : goal.decreases-loop-top
decreases-loop-top l = vec_len l.stack
