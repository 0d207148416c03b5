-- Calls of the units of a program.
use Rattle.std.specs.Prelude.{ℕ, List, [], Result, Option, option_map}
use Rattle.run_model.specs.Acts.{World, Outcome, Fine, Act, Ask, Answer, Handler, play}
use Rattle.f77_tree.specs.declared.unit.Value.{Value}
use Rattle.f77_semantics.specs.Program.{Routine}
use Rattle.f77_semantics.specs.Units.{Program, at_sites, meaning}
use Rattle.f77_semantics.specs.Values.{stored}
use Rattle.interp_code.specs.Steps.{Operands, with_some, passed_above}
use Rattle.interp_calls.specs.declared.caller.Caller.{Caller}
use Rattle.interp_calls.specs.declared.halt.Halt.{Halt}
use Rattle.interp_calls.specs.Procedures.{IsOf}
use Rattle.interp_calls.specs.Sending.{Sends}

-- what is called at the sites of a unit, where calls may go so deep
abbrev pub handler : Program → (depth : ℕ) → Routine → Handler
handler units depth u = at_sites u (meaning units depth)

-- a call whose actual arguments end the stack, and what goes on with its answer
abbrev pub asking : (site : ℕ) → Operands → (Answer → Operands → Act Operands) → Act Operands
asking site s go = with_some (passed_above s []) (λ p. Ask site p.0 (λ r. go r p.1))

-- A call answered, whatever goes on with its answer, or the run left there.
abbrev pub Answers : Result (Option Value) Halt → Handler → (site : ℕ) → (old new : Operands) → (before after : World) → (then now : Option (List ℕ)) → Type 0
Answers r h site old new before after then now = (go : Answer → Operands → Act Operands) → Sends r (λ v w. play h (go (option_map stored v) new) w) before after then now (play h (asking site old go))

-- in whatever unit of a program the caller is, with what is called from there
abbrev pub InUnit : Caller → (Routine → Handler → Type 0) → Type 0
InUnit c P = (units : Program) (u : Routine) → IsOf c.procedures.now c.procedure.now units u → P u (handler units c.depth u)

-- A part of the caller's run does what the unit's text says of it, while the sink got more.
abbrev pub Runs : {T A : Type 0} → Result T Halt → (T → A) → Caller → (old new : World) → (before after : Option (List ℕ)) → (Routine → Handler → World → Outcome A) → Type 0
Runs r view c old new before after run = InUnit c (λ u h. Sends r (λ x. Fine (view x)) old new before after (run u h))
