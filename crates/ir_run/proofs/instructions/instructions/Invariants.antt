use Rattle.std.proofs.Common.{◌≡◌, drop}
use Rattle.run_model.specs.Acts.{play}
use Rattle.interp_steps.specs.Worlds.{world_of}
use Rattle.ir_core.specs.Runs.{instructions}
use Rattle.ir_run.specs.Images.{activation_of, values_of}
use Rattle.ir_run.proofs.instructions.instructions.Given as goal

-- the instructions still to come do with these values what all do with the first
abbrev pub invariant-loop-one : goal.invariant-loop-one
invariant-loop-one g l = play (g.C.Callees.handler l.callees) (instructions (activation_of l.activation) (drop l.one-index l.code) (values_of l.values)) (world_of l.state)
    ≡ play (g.C.Callees.handler l.callees) (instructions (activation_of l.activation) l.code (values_of l.initial.values)) (world_of l.initial.state)
