-- A turn is taken: where the activation is after it, and what it ends with, is what its acts say.
use Rattle.std.specs.Prelude.{Result, option_map}
use Rattle.run_model.specs.Acts.{Act, Handler, play}
use Rattle.run_model.specs.Turns as turns
use Rattle.f77_semantics.specs.Statements as running
use Rattle.f77_semantics.specs.Values.{stored}
use Rattle.interp_steps.specs.declared.stop.Stop.{Stop}
use Rattle.interp_steps.specs.declared.state.State.{State}
use Rattle.interp_steps.specs.Stops.{Ends}
use Rattle.interp_steps.specs.Worlds.{world_of}
use Rattle.interp_turns.specs.declared.here.Here.{Here}
use Rattle.interp_turns.specs.declared.turn.Turn.{Turn}
use Rattle.interp_turns.specs.declared.turn.Turn.TheVariants.{Again, Result as Returns}
use Rattle.interp_turns.specs.Places.{here_of}

abbrev pub after_of : Turn → Here → turns.After running.Here
after_of Again h = turns.Again (here_of h)
after_of (Returns v) h = turns.Result (option_map stored v)

abbrev pub Turns : Result Turn Stop → Here → (old new : State) → Act (turns.After running.Here) → Type 0
Turns r here old new act = (h : Handler) → Ends r (λ t. after_of t here) (world_of new) (play h act (world_of old))
