-- A turn by acts that are the same, or that leave the world alone.
use Rattle.std.proofs.Common.{◌≡◌, ap, subst, Result, Ok, Err, OnOk, Option, ◌+ℤ◌, ◌-◌, ℕ, ℤ, pos, Bool, true, false, if◌then◌else◌}
use Rattle.std.specs.Ordering.{int_eq}
use Rattle.run_model.specs.Acts.{Act, Done, Fail, Undefined, and_then}
use Rattle.run_model.specs.Turns.{After, Again}
use Rattle.f77_tree.specs.declared.unit.Ty.TheVariants as ty
use Rattle.f77_tree.specs.declared.unit.Value.TheVariants.{Integer}
use Rattle.f77_values.specs.Arithmetic.{wrap}
use Rattle.f77_semantics.specs.Program.{Term, Do, Routine}
use Rattle.f77_semantics.specs.declared.storage.Base.{Base}
use Rattle.f77_semantics.specs.Expressions.{Frame, fetch, store, scalar}
use Rattle.f77_semantics.specs.Statements as running
use Rattle.f77_semantics.specs.Statements.{as_number, set_loop, tested, advance, trips}
use Rattle.f77_flow.specs.Graph.{Test}
use Rattle.interp_code.specs.Endings.{begun}
use Rattle.interp_code.proofs.Acts.{assoc}
use Rattle.interp_steps.specs.declared.stop.Stop.{Stop}
use Rattle.interp_steps.specs.declared.state.State.{State}
use Rattle.interp_steps.specs.Stops.{Gives}
use Rattle.interp_steps.specs.Worlds.{world_of}
use Rattle.interp_steps.proofs.Plays.{moved}
use Rattle.interp_turns.specs.declared.here.Here.{Here}
use Rattle.interp_turns.specs.declared.turn.Turn.{Turn}
use Rattle.interp_turns.specs.Turns.{Turns, after_of}

pub always : {T E P : Type 0} → (r : Result T E) → P → OnOk r P
always (Ok x) p = p
always (Err e) p = tt

module _ (r : Result Turn Stop) (here : Here) where
  pub by_path : (old new : State) (a b : Act (After running.Here)) → a ≡ b → Turns r here old new a → Turns r here old new b
  by_path old new a b e turns = subst (λ (act : Act (After running.Here)). Turns r here old new act) e turns

  pub by_pure : (state : State) (a b : Act (After running.Here)) → a ≡ b → Gives r (λ t. after_of t here) a → Turns r here state state b
  by_pure state a b e gives = λ h. moved r (λ t. after_of t here) b (subst (λ (act : Act (After running.Here)). Gives r (λ t. after_of t here) act) e gives) h (world_of state)

-- the DO at k after its advance
abbrev pub stepped : ℕ → running.Here → running.Here
stepped k s = record s { loops = set_loop k (record { count = (s.loops k).count - 1; step = (s.loops k).step }) s.loops }

pub advance_is : (u : Routine) (f : Frame) (s : running.Here) (k : ℕ) (b : Base) (first last : Term) (step : Option Term)
    → and_then (and_then (fetch ty.Integer (scalar f b)) (λ x. and_then (as_number x) (λ n. store (scalar f b) (Integer (wrap (n +ℤ (s.loops k).step)))))) (λ _. tested u k (stepped k s)) ≡ advance u f s k (Do b first last step)
advance_is u f s k b first last step = simp assoc

module _ (f : Frame) (s : running.Here) (k : ℕ) (b : Base) (m1 m2 m3 : ℤ) where
  abbrev pub begins : Act (After running.Here)
  begins = and_then (store (scalar f b) (Integer m1)) (λ _. Done (Again (record { point = Test k; loops = set_loop k (record { count = trips m1 m2 m3; step = m3 }) s.loops })))

  pub begun_not : int_eq m3 (pos 0) ≡ true → begun f s k b m1 m2 m3 ≡ Fail (Undefined 6)
  begun_not e = ap (λ (z : Bool). if z then Fail (Undefined 6) else begins) e

  pub begun_does : int_eq m3 (pos 0) ≡ false → begun f s k b m1 m2 m3 ≡ begins
  begun_does e = ap (λ (z : Bool). if z then Fail (Undefined 6) else begins) e
