use Rattle.std.proofs.Common.{sym, ◌∙◌, subst}
use Rattle.run_model.specs.Acts.{play}
use Rattle.f77_semantics.specs.Program.{Statement}
use Rattle.f77_semantics.specs.Statements.{advance, statement}
use Rattle.interp_steps.specs.Frames.{frame_of}
use Rattle.interp_steps.specs.Stops.{Ends}
use Rattle.interp_steps.specs.Worlds.{world_of}
use Rattle.interp_turns.specs.Places.{here_of}
use Rattle.interp_turns.specs.Turns.{after_of}
use Rattle.interp_calls.proofs.Lining.{counts}
use Rattle.interp_calls.proofs.lines.advance_at.Goals as goal

pub returns-in-Count-clause-turn : goal.returns-in-Count-clause-turn
returns-in-Count-clause-turn c = λ find u is h.
    let f = frame_of c.args.frame.now in
    let s = here_of c.args.here.now in
    let k = c.args.k in
    let piece = c.in-Some.ensures.piece find u is in
    let d = counts (statement u k) c.in-Count.base (sym piece.ending ∙ c.in-Count.is) in
    subst (λ (t : Statement). Ends c.advance.result (λ x. after_of x c.advance.new.here) (world_of c.advance.new.state) (play h (advance u f s k t) (world_of c.args.state.now))) (sym d.is)
    (c.advance.ensures.turn u is.follows d.first d.last d.step h)
