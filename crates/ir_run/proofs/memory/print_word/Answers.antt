use Rattle.std.proofs.Common.{rules, ◌≡◌, subst, List, ℕ}
use Rattle.std.specs.Fmt.{signed_decimal}
use Rattle.run_model.specs.Acts.{Done, Say, play}
use Rattle.interp_steps.specs.Stops.{Ends}
use Rattle.interp_steps.specs.Worlds.{world_of}
use Rattle.interp_steps.proofs.Plays.{done_goes}
use Rattle.ir_core.specs.Runs as r
use Rattle.ir_run.specs.Images.{values_of}
use Rattle.ir_run.proofs.memory.print_word.Goals as goal

pub returns-in-Ok : goal.returns-in-Ok
returns-in-Ok c = λ a h.
    let vs = values_of c.args.values.now in
    let before = world_of c.args.state.now in
    let after = world_of c.say.new.state in
    let same : c.as_bytes.result.now ≡ signed_decimal c.in-Ok.x = search rules in
    let is : r.word vs.temporaries c.args.from ≡ Done c.in-Ok.x = search rules in
    done_goes h (r.word vs.temporaries c.args.from) (λ x. Say (signed_decimal x) (Done vs)) before c.say.result (λ _. vs) after c.in-Ok.x is
    (subst (λ (bytes : List ℕ). Ends c.say.result (λ _. vs) after (play h (Say bytes (Done vs)) before)) same (c.say.ensures h))
