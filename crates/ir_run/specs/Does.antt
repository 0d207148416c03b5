-- What is done does with the values of a block and with the world what acts do.
use Rattle.std.specs.Prelude.{Result}
use Rattle.run_model.specs.Acts.{Act, Handler, play}
use Rattle.ir_core.specs.Runs as runs
use Rattle.interp_steps.specs.declared.stop.Stop.{Stop}
use Rattle.interp_steps.specs.declared.state.State.{State}
use Rattle.interp_steps.specs.Stops.{Ends}
use Rattle.interp_steps.specs.Worlds.{world_of}
use Rattle.ir_run.specs.declared.values.Values.{Values}
use Rattle.ir_run.specs.Images.{values_of}

-- whatever calls do
abbrev pub Does : Result (Unit {0}) Stop → Values → (old new : State) → Act runs.Values → Type 0
Does r v old new act = (h : Handler) → Ends r (λ _. values_of v) (world_of new) (play h act (world_of old))
