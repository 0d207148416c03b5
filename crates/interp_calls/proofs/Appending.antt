-- Runs say their own behind what was said before.
use Rattle.std.proofs.Common.{◌≡◌, ℕ, zero, suc, List, [], ◌∷◌, Option, Some, None, ℤ, refl, sym, ap, ◌∙◌, subst}
use Rattle.std.proofs.lemmas.List.{append_assoc}
use Rattle.run_model.specs.Storage.{Value, Interval}
use Rattle.run_model.specs.Acts.{World, Outcome, Fine, Stop, then_do, Act, Done, Get, Put, Say, Take, Ask, Fail, Answer, Handler, play, with_cell, with_input}
use Rattle.run_model.specs.Runs.{Begins}
use Rattle.run_model.specs.Turns.{After, Again, Result, ticked, follow, turns, run_from}
use Rattle.f77_values.specs.Tables.{Name}
use Rattle.f77_semantics.specs.Program.{Routine}
use Rattle.f77_semantics.specs.Statements.{turn}
use Rattle.f77_semantics.specs.Units.{entry, entered, beginning, cleared, run_unit, callee, at_sites, Program, meaning}
use Rattle.interp_calls.specs.Calls.{handler}
use Rattle.interp_calls.specs.Behind.{behind, outcome_behind, said_in, Appending, AllAppend}

-- one run and then another
pub then_appends : {A B : Type 0} → (s : List ℕ) (o : Outcome A) (f : A → World → Outcome B) → ((x : A) → Appending (f x)) → then_do (outcome_behind s o) f ≡ outcome_behind s (then_do o f)
then_appends s (Fine x w) f e = e x s w
then_appends s (Stop r w) f e = refl

-- one after another, from worlds
pub both_append : {A B : Type 0} → (run : World → Outcome A) (f : A → World → Outcome B) → Appending run → ((x : A) → Appending (f x)) → Appending (λ w. then_do (run w) f)
both_append run f e g s w = ap (λ o. then_do o f) (e s w) ∙ then_appends s (run w) f g

module _ (h : Handler) (all : AllAppend h) where
  with_cell_appends : {A : Type 0} → (o : Option Value) (k : Value → Act A) (s : List ℕ) (w : World) → ((v : Value) → Appending (play h (k v))) → with_cell o (behind s w) (λ v. play h (k v) (behind s w)) ≡ outcome_behind s (with_cell o w (λ v. play h (k v) w))
  with_cell_appends None k s w e = refl
  with_cell_appends (Some v) k s w e = e v s w

  with_input_appends : {A : Type 0} → (xs : List ℤ) (k : ℤ → Act A) (s : List ℕ) (w : World) → ((x : ℤ) → Appending (play h (k x))) → with_input xs (behind s w) (λ x w1. play h (k x) w1) ≡ outcome_behind s (with_input xs w (λ x w1. play h (k x) w1))
  with_input_appends [] k s w e = refl
  with_input_appends (x ∷ xs) k s w e = e x s (record w { input = xs })

  pub acts_append : {A : Type 0} → (a : Act A) → Appending (play h a)
  acts_append (Done x) s w = refl
  acts_append (Get l k) s w = with_cell_appends (w.cells l) k s w (λ v. acts_append (k v))
  acts_append (Put l v a) s w = acts_append a s _
  acts_append (Say bs a) s w = ap (λ (out : List ℕ). play h a (record w { out = out })) (append_assoc s w.out bs) ∙ acts_append a s _
  acts_append (Take k) s w = with_input_appends w.input k s w (λ x. acts_append (k x))
  acts_append (Ask site ds k) s w = ap (λ o. then_do o (λ r w1. play h (k r) w1)) (all site ds s w) ∙ then_appends s (h site ds w) (λ r w1. play h (k r) w1) (λ r. acts_append (k r))
  acts_append (Fail r) s w = refl

  -- a turn, where a step is left
  ticked_appends : (left : ℕ) (run : World → Outcome Answer) (s : List ℕ) (w : World) → Appending run → ticked left (behind s w) run ≡ outcome_behind s (ticked left w run)
  ticked_appends zero run s w e = refl
  ticked_appends (suc n) run s w e = e s (record w { left = n })

  pub follow_appends : {S : Type 0} → (a : After S) (run : S → World → Outcome Answer) → ((t : S) → Appending (run t)) → Appending (λ v. follow a v run)
  follow_appends (Again t) run e = e t
  follow_appends (Result r) run e = λ s v. refl

  pub turns_append : {S : Type 0} → (turn : S → Act (After S)) (n : ℕ) (t : S) → Appending (turns h turn n t)
  turns_append turn zero t s w = refl
  turns_append turn (suc n) t s w =
      ticked_appends w.left (λ w1. then_do (play h (turn t) w1) (λ a w2. follow a w2 (turns h turn n))) s w
      (both_append (play h (turn t)) (λ a w2. follow a w2 (turns h turn n)) (acts_append (turn t)) (λ a. follow_appends a (turns h turn n) (λ u. turns_append turn n u)))

  pub run_appends : {S : Type 0} → (turn : S → Act (After S)) (t : S) → Appending (run_from h turn t)
  run_appends turn t s w = turns_append turn (suc w.left) t s w

pub unit_appends : (h : Handler) → AllAppend h → (u : Routine) (ds : List Interval) → Appending (run_unit h u ds)
unit_appends h all u ds = both_append (λ w. play h (entry (entered u ds) u.dummy_arrays) (cleared u w)) (λ f w. run_from h (turn u f) (beginning u) w) (λ s w. acts_append h all (entry (entered u ds) u.dummy_arrays) s (cleared u w)) (λ f. run_appends h all (turn u f) (beginning u))

pub meaning_appends : (units : Program) (depth : ℕ) (q : Name) (ds : List Interval) → Appending (meaning units depth q ds)
meaning_appends units zero q ds s w = refl
meaning_appends units (suc d) q ds s w = unit_appends (at_sites (units q) (meaning units d)) (λ site actuals. meaning_appends units d (callee (units q) site) actuals) (units q) ds s w

pub handler_appends : (units : Program) (depth : ℕ) (u : Routine) → AllAppend (handler units depth u)
handler_appends units depth u site actuals = meaning_appends units depth (callee u site) actuals

-- what a run says begins with what was said before
pub begins_behind : {A : Type 0} → (s : List ℕ) (o : Outcome A) → Begins s (said_in (outcome_behind s o))
begins_behind s (Fine x w) = record { more = w.out; whole = refl }
begins_behind s (Stop r w) = record { more = w.out; whole = refl }

pub begins_so : {A : Type 0} → (run : World → Outcome A) → Appending run → (s : List ℕ) (w : World) → Begins s (said_in (run (behind s w)))
begins_so run e s w = subst (λ o. Begins s (said_in o)) (sym (e s w)) (begins_behind s (run w))
