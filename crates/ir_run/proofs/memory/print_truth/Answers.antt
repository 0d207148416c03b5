use Rattle.std.proofs.Common.{rules, ◌≡◌, ◌∷◌, [], subst, ℕ}
use Rattle.run_model.specs.Acts.{Done, Say, play}
use Rattle.interp_steps.specs.Stops.{Ends}
use Rattle.interp_steps.specs.Worlds.{world_of}
use Rattle.interp_steps.proofs.Plays.{done_goes}
use Rattle.ir_core.specs.Runs as r
use Rattle.ir_run.specs.Images.{values_of}
use Rattle.ir_run.proofs.memory.print_truth.Goals as goal

pub returns-in-Ok : goal.returns-in-Ok
returns-in-Ok c = λ a h.
    let vs = values_of c.args.values.now in
    let before = world_of c.args.state.now in
    let after = world_of c.say.new.state in
    let is : r.truth vs.temporaries c.args.from ≡ Done c.in-Ok.truth = search rules in
    done_goes h (r.truth vs.temporaries c.args.from) (λ b. Say (r.letter b ∷ []) (Done vs)) before c.say.result (λ _. vs) after c.in-Ok.truth is
    (subst (λ (byte : ℕ). Ends c.say.result (λ _. vs) after (play h (Say (byte ∷ []) (Done vs)) before)) c.letter.ensures (c.say.ensures h))
