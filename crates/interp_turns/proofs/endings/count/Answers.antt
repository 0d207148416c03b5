use Rattle.std.proofs.Common.{◌≡◌, w64, to_z, of_z, SFits, rules, subst}
use Rattle.std.proofs.lemmas.Int.{to_z-of_z}
use Rattle.run_model.specs.Acts.{Act, play}
use Rattle.run_model.specs.Turns.{After}
use Rattle.f77_semantics.specs.Statements.{Here}
use Rattle.interp_code.specs.Endings.{begun}
use Rattle.interp_steps.specs.Frames.{frame_of}
use Rattle.interp_steps.specs.Stacks.{stack_of}
use Rattle.interp_steps.specs.Stops.{Ends}
use Rattle.interp_steps.specs.Worlds.{world_of}
use Rattle.interp_steps.proofs.Plays.{done_goes, fails}
use Rattle.interp_turns.specs.Operands.{three}
use Rattle.interp_turns.specs.Places.{here_of}
use Rattle.interp_turns.specs.Turns.{after_of}
use Rattle.interp_turns.proofs.endings.count.Goals as goal

pub returns-in-Ok-clause-turn : goal.returns-in-Ok-clause-turn
returns-in-Ok-clause-turn c = λ h.
    let f = frame_of c.args.frame.now in
    let s = here_of c.args.here.now in
    let b = c.args.base.now in
    let fits1 : SFits w64 c.in-Ok.numbers.0 = search rules in
    let fits2 : SFits w64 c.in-Ok.numbers.1 = search rules in
    let fits3 : SFits w64 c.in-Ok.numbers.2 = search rules in
    let same : begun f s c.args.k b (to_z w64 (of_z w64 c.in-Ok.numbers.0)) (to_z w64 (of_z w64 c.in-Ok.numbers.1)) (to_z w64 (of_z w64 c.in-Ok.numbers.2)) ≡ begun f s c.args.k b c.in-Ok.numbers.0 c.in-Ok.numbers.1 c.in-Ok.numbers.2 =
    λ i. begun f s c.args.k b (to_z-of_z w64 c.in-Ok.numbers.0 fits1 i) (to_z-of_z w64 c.in-Ok.numbers.1 fits2 i) (to_z-of_z w64 c.in-Ok.numbers.2 fits3 i) in
    done_goes h (three (stack_of c.args.stack.now)) (λ m. begun (frame_of c.args.frame.now) (here_of c.args.here.now) c.args.k c.args.base.now m.0 m.1 m.2) (world_of c.args.state.now)
    c.begin.result (λ t. after_of t c.begin.new.here) (world_of c.begin.new.state) c.in-Ok.numbers c.in-Ok.ensures
    (subst (λ (act : Act (After Here)). Ends c.begin.result (λ t. after_of t c.begin.new.here) (world_of c.begin.new.state) (play h act (world_of c.args.state.now))) same (c.begin.ensures.turn h))

pub returns-in-Err-clause-turn : goal.returns-in-Err-clause-turn
returns-in-Err-clause-turn c = λ h.
    fails h (three (stack_of c.args.stack.now)) (λ m. begun (frame_of c.args.frame.now) (here_of c.args.here.now) c.args.k c.args.base.now m.0 m.1 m.2) (world_of c.args.state.now) c.in-Err.stop c.in-Err.ensures
