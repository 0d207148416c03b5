-- The step at which a run stops: what was left of its steps tells it.
use Rattle.std.proofs.Common.{◌≡◌, ℕ, zero, suc, ◌+◌, ◌-◌, ◌<◌, ◌≤◌, List, [], ◌∷◌, length, Option, Some, None, Bool, true, false, cond, ℤ, ◌⊎◌, inl, inr, refl, sym, ap, ◌∙◌, subst, arith, map, slice_get}
use Rattle.std.specs.Cmp.Lexicographic.{same_text}
use Rattle.run_model.specs.Acts.{World, Spent, Ended, Undefined, Stuck, Outcome, Fine, Stop, then_do, Answer, Handler, play}
use Rattle.run_model.specs.Turns.{run_from}
use Rattle.run_model.specs.Runs.{Run, Going, Finished, UndefinedAt, Wrong, answer}
use Rattle.run_model.proofs.Extend.{with_more}
use Rattle.f77_tree.specs.declared.unit.Unit.{Unit as SourceUnit}
use Rattle.f77_values.specs.Tables.{Name, name_eq}
use Rattle.f77_store.specs.Layouts.{layout_of}
use Rattle.f77_names.specs.Roles as roles
use Rattle.f77_semantics.specs.Program.{Routine}
use Rattle.f77_semantics.specs.Statements.{turn}
use Rattle.f77_semantics.specs.Units.{entry, cleared, entered, beginning, run_unit, at_sites, meaning, named, fresh_world}
use Rattle.f77_semantics.specs.Source.{meant_in, dummy_arrays_from, is_main, main_of, routine, with_main, Source}
use Rattle.run_laws.specs.Laws.{IsGoing, IsFrom, HasNoDummies}
use Rattle.run_laws.proofs.Left.{left_of, IsSpent, Tells, meaning_falls, meaning_tells}

abbrev more : ℕ → Outcome Answer → Outcome Answer
more k (Fine x v) = Fine x (with_more k v)
more k (Stop r v) = Stop r (with_more k v)

spent_or_more : (k : ℕ) (o o' : Outcome Answer) → Tells k o o' → IsSpent o ⊎ (o' ≡ more k o)
spent_or_more k (Fine x v) o' t = inr t
spent_or_more k (Stop Spent v) o' t = inl tt
spent_or_more k (Stop (Ended e) v) o' t = inr t
spent_or_more k (Stop (Undefined c) v) o' t = inr t
spent_or_more k (Stop Stuck v) o' t = inr t

of_spent : (k : ℕ) (o o' : Outcome Answer) → Tells k o o' → IsSpent o → IsSpent o' ⊎ (left_of o' < k)
of_spent k (Fine x v) o' t p = absurd p
of_spent k (Stop Spent v) o' t p = t
of_spent k (Stop (Ended e) v) o' t p = absurd p
of_spent k (Stop (Undefined c) v) o' t p = absurd p
of_spent k (Stop Stuck v) o' t p = absurd p

spent_or_not : (o : Outcome Answer) → IsSpent o ⊎ (IsSpent o → ⊥)
spent_or_not (Fine x v) = inr (λ p. p)
spent_or_not (Stop Spent v) = inl tt
spent_or_not (Stop (Ended e) v) = inr (λ p. p)
spent_or_not (Stop (Undefined c) v) = inr (λ p. p)
spent_or_not (Stop Stuck v) = inr (λ p. p)

spent_goes : (n : ℕ) (o : Outcome Answer) → IsSpent o → IsGoing (answer n o)
spent_goes n (Fine x v) p = p
spent_goes n (Stop Spent v) p = tt
spent_goes n (Stop (Ended e) v) p = p
spent_goes n (Stop (Undefined c) v) p = p
spent_goes n (Stop Stuck v) p = p

left_more : (k : ℕ) (o : Outcome Answer) → left_of (more k o) ≡ left_of o + k
left_more k (Fine x v) = refl
left_more k (Stop r v) = refl

answer_more : (s k : ℕ) (o : Outcome Answer) → answer (s + k) (more k o) ≡ answer s o
answer_more s k (Fine x v) = refl
answer_more s k (Stop Spent v) = refl
answer_more s k (Stop (Ended e) v) = refl
answer_more s k (Stop (Undefined c) v) = let z : (s + k) - (v.left + k) ≡ s - v.left = omega arith in ap (λ j. UndefinedAt j c v.out) z
answer_more s k (Stop Stuck v) = refl

abbrev step_told : Run → ℕ
step_told (UndefinedAt s c out) = s
step_told _ = 0

-- the step that an undefined run tells
undefined_step : (n : ℕ) (o : Outcome Answer) (s c : ℕ) (out : List ℕ) → answer n o ≡ UndefinedAt s c out → (IsSpent o → ⊥) × (s ≡ n - left_of o)
undefined_step n (Fine x v) s c out e = let z : Wrong ≡ UndefinedAt s c out = e in cc
undefined_step n (Stop Spent v) s c out e = let z : Going v.out ≡ UndefinedAt s c out = e in cc
undefined_step n (Stop (Ended k) v) s c out e = let z : Finished k v.out ≡ UndefinedAt s c out = e in cc
undefined_step n (Stop (Undefined d) v) s c out e = ((λ p. p), sym (ap step_told e))
undefined_step n (Stop Stuck v) s c out e = let z : Wrong ≡ UndefinedAt s c out = e in cc

-- outcomes at each number of steps, each as one with fewer tells
module _ (outcome : ℕ → Outcome Answer) (falls : (n : ℕ) → left_of (outcome n) ≤ n) (tells : (n k : ℕ) → Tells k (outcome n) (outcome (n + k))) where
  abbrev runs : ℕ → Run
  runs n = answer n (outcome n)

  told : (m n : ℕ) → m ≤ n → Tells (n - m) (outcome m) (outcome n)
  told m n le = let z : m + (n - m) ≡ n = omega arith in subst (λ j. Tells (n - m) (outcome m) (outcome j)) z (tells m (n - m))

  module _ (n : ℕ) (not : IsSpent (outcome n) → ⊥) where
    -- no run with fewer steps than that has stopped
    spent_before : (m : ℕ) → m < n - left_of (outcome n) → IsSpent (outcome m)
    spent_before m lt = go (spent_or_more (n - m) (outcome m) (outcome n) (told m n (omega arith)))
      where
        go : IsSpent (outcome m) ⊎ (outcome n ≡ more (n - m) (outcome m)) → IsSpent (outcome m)
        go (inl p) = p
        go (inr e) =
            let a : left_of (outcome n) ≡ left_of (outcome m) + (n - m) = ap left_of e ∙ left_more (n - m) (outcome m) in
            let b : left_of (outcome n) ≤ n = falls n in
            absurd (omega arith)

    -- at that step the run has stopped
    stopped : IsSpent (outcome (n - left_of (outcome n))) → ⊥
    stopped p = go (of_spent (n - (n - left_of (outcome n))) (outcome (n - left_of (outcome n))) (outcome n) (told (n - left_of (outcome n)) n (omega arith)) p)
      where
        go : IsSpent (outcome n) ⊎ (left_of (outcome n) < n - (n - left_of (outcome n))) → ⊥
        go (inl p) = not p
        go (inr lt) = let b : left_of (outcome n) ≤ n = falls n in omega arith

    same_from : (m : ℕ) → n - left_of (outcome n) ≤ m → runs m ≡ runs (n - left_of (outcome n))
    same_from m le = go (n - left_of (outcome n)) le stopped
      where
        go : (s : ℕ) → s ≤ m → (IsSpent (outcome s) → ⊥) → runs m ≡ runs s
        go s le not_spent = at (spent_or_more (m - s) (outcome s) (outcome m) (told s m le))
          where
            at : IsSpent (outcome s) ⊎ (outcome m ≡ more (m - s) (outcome s)) → runs m ≡ runs s
            at (inl p) = absurd (not_spent p)
            at (inr e) = let z : s + (m - s) ≡ m = omega arith in ap (answer m) e ∙ (subst (λ j. answer j (more (m - s) (outcome s)) ≡ answer s (outcome s)) z (answer_more s (m - s) (outcome s)))

    is_from : IsFrom runs (n - left_of (outcome n)) (runs n)
    is_from = record {
      before = λ m lt. spent_goes m (outcome m) (spent_before m lt);
      from = λ m le. same_from m le ∙ sym (same_from n (omega arith));
    }

  stops : (n : ℕ) → IsGoing (runs n) ⊎ ((step : ℕ) × (step ≤ n) × IsFrom runs step (runs n))
  stops n = go (spent_or_not (outcome n))
    where
      go : IsSpent (outcome n) ⊎ (IsSpent (outcome n) → ⊥) → IsGoing (runs n) ⊎ ((step : ℕ) × (step ≤ n) × IsFrom runs step (runs n))
      go (inl p) = inl (spent_goes n (outcome n) p)
      go (inr not_spent) = inr (n - left_of (outcome n), omega arith, is_from n not_spent)

  undefined : (n s c : ℕ) (out : List ℕ) → runs n ≡ UndefinedAt s c out → (s ≤ n) × IsFrom runs s (UndefinedAt s c out)
  undefined n s c out e =
      let u = undefined_step n (outcome n) s c out e in
      let z : s ≡ n - left_of (outcome n) = u.1 in
      (omega arith, subst (λ r. IsFrom runs s r) e (subst (λ j. IsFrom runs j (runs n)) (sym z) (is_from n u.0)))

-- ---- programs

module _ (units : List SourceUnit) (input : List ℤ) where
  abbrev routines : List Routine
  routines = map routine units

  abbrev at_start : SourceUnit → ℕ → Outcome Answer
  at_start main n = meaning (named routines (routine main)) (length routines) main.name [] (fresh_world routines input n)

  falls_from : (main : SourceUnit) (n : ℕ) → left_of (at_start main n) ≤ n
  falls_from main n = meaning_falls (named routines (routine main)) (length routines) main.name [] (fresh_world routines input n)

  tells_from : (main : SourceUnit) (n k : ℕ) → Tells k (at_start main n) (at_start main (n + k))
  tells_from main n k = meaning_tells k (named routines (routine main)) (length routines) main.name [] (fresh_world routines input n)

  pub source_stops : (n : ℕ) → IsGoing (Source units input n) ⊎ ((step : ℕ) × (step ≤ n) × IsFrom (Source units input) step (Source units input n))
  source_stops n = go (main_of units)
    where
      go : (main : Option SourceUnit) → IsGoing (with_main routines main input n) ⊎ ((step : ℕ) × (step ≤ n) × IsFrom (with_main routines main input) step (with_main routines main input n))
      go None = inr (0, omega arith, record { before = λ m lt. absurd (omega arith); from = λ m le. refl })
      go (Some main) = stops (at_start main) (falls_from main) (tells_from main) n

  pub source_undefined : (n step cause : ℕ) (out : List ℕ) → Source units input n ≡ UndefinedAt step cause out → (step ≤ n) × IsFrom (Source units input) step (UndefinedAt step cause out)
  source_undefined n step cause out e = go (main_of units) e
    where
      go : (main : Option SourceUnit) → with_main routines main input n ≡ UndefinedAt step cause out → (step ≤ n) × IsFrom (with_main routines main input) step (UndefinedAt step cause out)
      go None e = let z : Wrong ≡ UndefinedAt step cause out = e in cc
      go (Some main) e = undefined (at_start main) (falls_from main) (tells_from main) n step cause out e

  pub source_ends : (n status : ℕ) (out : List ℕ) → Source units input n ≡ Finished status out → (step : ℕ) × (step ≤ n) × IsFrom (Source units input) step (Finished status out)
  source_ends n status out e = go (source_stops n)
    where
      go : IsGoing (Source units input n) ⊎ ((step : ℕ) × (step ≤ n) × IsFrom (Source units input) step (Source units input n)) → (step : ℕ) × (step ≤ n) × IsFrom (Source units input) step (Finished status out)
      go (inl g) = absurd (subst IsGoing e g)
      go (inr s) = (s.0, s.1, subst (λ r. IsFrom (Source units input) s.0 r) e s.2)

-- ---- the beginning

record Stands (units : List SourceUnit) (u : SourceUnit) : Type 0 where
  place : ℕ
  is : slice_get units place ≡ Some u

main_stands : (units : List SourceUnit) (main : SourceUnit) → main_of units ≡ Some main → Stands units main
main_stands [] main e = let z : None ≡ Some main = e in cc
main_stands (u ∷ us) main e = go (is_main u.kind) e (main_stands us main)
  where
    go : (b : Bool) → cond b (Some u) (main_of us) ≡ Some main → (main_of us ≡ Some main → Stands us main) → Stands (u ∷ us) main
    go true e ih = record { place = 0; is = e }
    go false e ih = let s = ih e in record { place = suc s.place; is = s.is }

no_arrays : (u : SourceUnit) → u.dummies ≡ [] → (routine u).dummy_arrays ≡ []
no_arrays u e = ap (dummy_arrays_from (roles.facts u) (meant_in (roles.facts u) (layout_of u).slots) 0) e

named_takes_none : (units : List SourceUnit) (other : Routine) (name : Name) → other.dummy_arrays ≡ [] → HasNoDummies units name → (named (map routine units) other name).dummy_arrays ≡ []
named_takes_none [] other name e none = e
named_takes_none (u ∷ us) other name e none = go (name_eq u.name name) refl (named_takes_none us other name e (λ k v s m. none (suc k) v s m))
  where
    go : (b : Bool) → name_eq u.name name ≡ b → (named (map routine us) other name).dummy_arrays ≡ [] → (cond b (routine u) (named (map routine us) other name)).dummy_arrays ≡ []
    go true t ih = no_arrays u (none 0 u refl (same_text u.name name (sym t)))
    go false t ih = ih

-- A unit without dummy arrays begins no step where none is left.
unit_waits : (h : Handler) (u : Routine) (w : World) → u.dummy_arrays ≡ [] → answer 0 (run_unit h u [] (record w { left = 0 })) ≡ Going w.out
unit_waits h u w e = ap (λ as_. answer 0 (then_do (play h (entry (entered u []) as_) (cleared u (record w { left = 0 }))) (λ f w1. run_from h (turn u f) (beginning u) w1))) e

pub begins : (units : List SourceUnit) (main : SourceUnit) → main_of units ≡ Some main → HasNoDummies units main.name → (input : List ℤ) → Source units input 0 ≡ Going []
begins [] main is none input = let z : None ≡ Some main = is in cc
begins (u ∷ us) main is none input =
    let s = main_stands (u ∷ us) main is in
    let routines : List Routine = map routine (u ∷ us) in
    let program = named routines (routine main) in
    ap (λ m. with_main routines m input 0) is
    ∙ unit_waits (at_sites (program main.name) (meaning program (length (map routine us)))) (program main.name) (fresh_world routines input 0) (named_takes_none (u ∷ us) (routine main) main.name (no_arrays main (none s.place main s.is refl)) none)

pub stops_in_a_step : (units : List SourceUnit) (main : SourceUnit) → main_of units ≡ Some main → HasNoDummies units main.name → (input : List ℤ) (step : ℕ) (r : Run) → IsFrom (Source units input) step r → IsGoing r ⊎ (0 < step)
stops_in_a_step units main is none input zero r from = inl (subst IsGoing (sym (begins units main is none input) ∙ from.from 0 (omega arith)) tt)
stops_in_a_step units main is none input (suc step) r from = inr (omega arith)
