-- Tables of flags, as one more is added.
use Rattle.std.proofs.Common.{◌≡◌, ℕ, ◌+◌, ◌<◌, ◌⊎◌, inl, inr, Bool, true, false, List, [], ◌∷◌, ◌++◌, length, get_or, set, refl, sym, ◌∙◌, subst, arith, length-append, length-set, get_or-set_same, get_or-set_other, ⊎_elim}
use Rattle.std.proofs.lemmas.Bool.{cases_eq}
use Rattle.std.proofs.lemmas.Option.{slice_get_within, slice_get-get_or}
use Rattle.f77_tree.specs.declared.unit.Stmt.{Stmt}
use Rattle.fault_marks.specs.Places.{Decides}
use Rattle.check_jumps.specs.Telling.{Tells, AreFlags, Marks}
use Rattle.check_jumps.proofs.Chains.{pushed_by}

pub flags_more : (Holds : ℕ → Type 0) (k : ℕ) (b : Bool) (flags : List Bool) → AreFlags Holds k flags → Tells b (Holds k) → AreFlags Holds (k + 1) (flags ++ b ∷ [])
flags_more Holds k b flags are is = record {
  long = omega (arith, are.long, length-append flags (b ∷ []));
  each = pushed_by (λ j d. Tells d (Holds j)) false k b flags are.long are.each is;
}

pub flags_decide : (u : List Stmt) (Holds : ℕ → Type 0) (flags : List Bool) → AreFlags Holds (length u) flags → Decides u Holds flags
flags_decide u Holds flags are k s stands =
    let within : k < length u = slice_get_within u k s stands in
    (get_or flags k false, slice_get-get_or flags k false (omega (arith, are.long)), are.each k within)

-- ---- flags that are set one by one

pub marks_none : (Holds : ℕ → Type 0) (flags : List Bool) → ((k : ℕ) → Holds k → ⊥) → Marks Holds flags flags
marks_none Holds flags never = record { long = refl; kept = λ k h. h; set = λ k small h. absurd (never k h); only = λ k h. inl h }

pub marks_as : (P Q : ℕ → Type 0) (old new : List Bool) → ((k : ℕ) → P k → Q k) → ((k : ℕ) → Q k → P k) → Marks P old new → Marks Q old new
marks_as P Q old new to from h = record { long = h.long; kept = h.kept; set = λ k small q. h.set k small (from k q); only = λ k e. ⊎_elim inl (λ p. inr (to k p)) (h.only k e) }

pub marks_then : (P Q R : ℕ → Type 0) (a b c : List Bool) → ((k : ℕ) → P k → R k) → ((k : ℕ) → Q k → R k) → ((k : ℕ) → R k → P k ⊎ Q k) → Marks P a b → Marks Q b c → Marks R a c
marks_then P Q R a b c p q r h g = record {
  long = g.long ∙ h.long;
  kept = λ k e. g.kept k (h.kept k e);
  set = λ k small x. ⊎_elim (λ (y : P k). g.kept k (h.set k small y)) (λ (y : Q k). g.set k (omega (arith, h.long)) y) (r k x);
  only = λ k e. ⊎_elim (λ (was : get_or b k false ≡ true). ⊎_elim inl (λ (y : P k). inr (p k y)) (h.only k was)) (λ (y : Q k). inr (q k y)) (g.only k e);
}

pub marks_set : (Holds : ℕ → Type 0) (flags : List Bool) (at : ℕ) → at < length flags → Holds at → ((k : ℕ) → Holds k → k ≡ at) → Marks Holds flags (set flags at true)
marks_set Holds flags at within here sole = record {
  long = simp length-set refl;
  kept = λ k e. ⊎_elim (λ (same : k ≡ at). at_set k same) (λ (ne : k ≡ at → ⊥). rw get_or-set_other e) (cases_eq k at);
  set = λ k small h. at_set k (sole k h);
  only = λ k e. ⊎_elim (λ (same : k ≡ at). inr (subst Holds (sym same) here)) (λ (ne : k ≡ at → ⊥). inl (rw get_or-set_other at e)) (cases_eq k at);
}
  where
    at_set : (k : ℕ) → k ≡ at → get_or (set flags at true) k false ≡ true
    at_set k same = subst (λ j. get_or (set flags at true) j false ≡ true) (sym same) (rw get_or-set_same refl)
