use Rattle.std.proofs.Common.{◌≡◌, suc}
use Rattle.run_model.specs.Turns.{turns}
use Rattle.interp_steps.specs.Worlds.{world_of}
use Rattle.ir_core.specs.Runs.{body_turn, run_body}
use Rattle.ir_run.specs.Images.{activation_of, temporaries_of}
use Rattle.ir_run.proofs.runs.run.Given as goal

-- as many turns more as steps were left at the beginning, and one, do what all do
abbrev pub invariant-turns : goal.invariant-turns
invariant-turns g l = turns (g.C.Callees.handler l.callees) (body_turn (activation_of l.activation) l.body) (suc l.more) (record { block = l.at; temporaries = temporaries_of l.values.temporaries.items }) (world_of l.state)
    ≡ run_body (g.C.Callees.handler l.callees) (activation_of l.activation) l.body (world_of l.initial.state)

abbrev pub decreases-turns : goal.decreases-turns
decreases-turns g l = l.more
