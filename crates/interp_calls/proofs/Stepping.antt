-- Steps and dummy arrays one after another, played.
use Rattle.std.proofs.Common.{◌≡◌, ℕ, ◌+◌, List, [], ◌∷◌, drop, map, sym, ap, ◌∙◌}
use Rattle.run_model.specs.Acts.{World, Fine, then_do, Act, and_then, Handler, play}
use Rattle.run_model.proofs.Order.{play-and_then}
use Rattle.f77_semantics.specs.Program as program
use Rattle.f77_semantics.specs.Expressions.{Frame}
use Rattle.f77_semantics.specs.Units.{entry}
use Rattle.interp_code.specs.declared.step.Step.{Step}
use Rattle.interp_code.specs.Steps.{Operands, step, steps}
use Rattle.interp_code.proofs.Acts.{assoc}
use Rattle.interp_lower.specs.declared.arrays.DummyArray.{DummyArray}
use Rattle.interp_lower.specs.declared.routine.Routine.{Routine}
use Rattle.interp_lower.specs.Routines.{Dimensioned, dummy_of}
use Rattle.interp_lower.specs.Units.{StandsFor}
use Rattle.interp_calls.specs.Entries.{fixed, entry_by}
use Rattle.interp_calls.proofs.Entering.{entry_is}

module _ (h : Handler) (f : Frame) (cs : List Step) (i : ℕ) (c : Step) (s : Operands) (here : drop i cs ≡ c ∷ drop (i + 1) cs) where
  -- the steps from one on are that one, and then the others
  pub step_and_rest : (w : World) → play h (steps f (drop i cs) s) w ≡ then_do (play h (step f c s) w) (λ t v. play h (steps f (drop (i + 1) cs) t) v)
  step_and_rest w = ap (λ (l : List Step). play h (steps f l s) w) here ∙ play-and_then h (step f c s) (steps f (drop (i + 1) cs)) w

module _ (h : Handler) (f : Frame) (arrays : List DummyArray) (i : ℕ) (a : DummyArray) (here : drop i arrays ≡ a ∷ drop (i + 1) arrays) where
  abbrev others : Frame → Act Frame
  others g = entry_by g (map dummy_of (drop (i + 1) arrays))

  abbrev pub this : Act Frame
  this = and_then (steps f a.bounds []) (fixed f a.dummy)

  -- the arrays from one on are that one, and then the others
  pub array_and_rest : (w : World) → play h (entry_by f (map dummy_of (drop i arrays))) w ≡ then_do (play h this w) (λ g v. play h (entry_by g (map dummy_of (drop (i + 1) arrays))) v)
  array_and_rest w =
      ap (λ (l : List DummyArray). play h (entry_by f (map dummy_of l)) w) here
      ∙ (ap (λ (act : Act Frame). play h act w) (sym (assoc (steps f a.bounds []) (fixed f a.dummy) others))
      ∙ play-and_then h this others w)

-- the dummy arrays of a unit by the steps of their bounds
pub entry_of : (r : Routine) (u : program.Routine) → StandsFor r u → (f : Frame) → entry f u.dummy_arrays ≡ entry_by f (map dummy_of r.dummy_arrays)
entry_of r u stands f = entry_is f u.dummy_arrays ∙ ap (λ (l : List Dimensioned). entry_by f l) (sym stands.dummy_arrays)

-- no step, or no array, is left
pub steps_done : (h : Handler) (f : Frame) (cs : List Step) (i : ℕ) (s : Operands) (w : World) → drop i cs ≡ [] → play h (steps f (drop i cs) s) w ≡ Fine s w
steps_done h f cs i s w e = ap (λ (l : List Step). play h (steps f l s) w) e

pub arrays_done : (h : Handler) (f : Frame) (arrays : List DummyArray) (i : ℕ) (w : World) → drop i arrays ≡ [] → play h (entry_by f (map dummy_of (drop i arrays))) w ≡ Fine f w
arrays_done h f arrays i w e = ap (λ (l : List DummyArray). play h (entry_by f (map dummy_of l)) w) e
