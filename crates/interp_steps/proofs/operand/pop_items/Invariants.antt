use Rattle.std.proofs.Common.{◌≡◌, [], reverse, vec_len}
use Rattle.interp_code.specs.Steps.{items_above}
use Rattle.interp_steps.specs.Stacks.{stack_of}
use Rattle.interp_steps.proofs.operand.pop_items.Given as goal

abbrev pub invariant-loop-top : goal.invariant-loop-top
invariant-loop-top l = items_above (stack_of l.initial.stack.items) [] ≡ items_above (stack_of l.stack.items) (reverse l.found.items)

abbrev pub decreases-loop-top : goal.decreases-loop-top
decreases-loop-top l = vec_len l.stack
