-- A step is taken: what stands on the stack and in the world after it is what its acts say.
use Rattle.std.specs.Prelude.{List, Result}
use Rattle.run_model.specs.Acts.{Act, Handler, play}
use Rattle.interp_code.specs.Steps.{Operands}
use Rattle.interp_steps.specs.declared.stop.Stop.{Stop}
use Rattle.interp_steps.specs.declared.operand.Operand.{Operand}
use Rattle.interp_steps.specs.declared.state.State.{State}
use Rattle.interp_steps.specs.Stops.{Ends}
use Rattle.interp_steps.specs.Stacks.{stack_of}
use Rattle.interp_steps.specs.Worlds.{world_of}

abbrev pub Moves : Result (Unit {0}) Stop → List Operand → (old new : State) → Act Operands → Type 0
Moves r stack old new act = (h : Handler) → Ends r (λ _. stack_of stack) (world_of new) (play h act (world_of old))
