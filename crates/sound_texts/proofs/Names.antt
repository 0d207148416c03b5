-- The names that are told of, each once.
use Rattle.std.proofs.Common.{◌≡◌, ℕ, zero, suc, Bool, true, false, cond, Some, List, [], ◌∷◌, fold, slice_get, refl, sym, ap, ◌∙◌}
use Rattle.std.proofs.lemmas.Cmp.{nat_list_eq_equiv}
use Rattle.f77_values.specs.Tables.{Name, name_eq, Told, with_told, with_pair}
use Rattle.sound_units.specs.Sites.{Each}
use Rattle.sound_units.proofs.Tables.{some_is, each_at}

-- ---- names that are apart

not_apart : (q r : Name) → q ≡ r → name_eq q r ≡ false → ⊥
not_apart q r e h = both (name_eq q q) (nat_list_eq_equiv.refl q) (ap (name_eq q) e ∙ h)
  where
    both : (b : Bool) → b ≡ true → b ≡ false → ⊥
    both b s t = cc

module _ {A : Type 0} where
  abbrev Lacks : Name → Told A → Type 0
  Lacks q es = Each (λ (e : Name × A). name_eq q e.0 ≡ false) es

  abbrev pub Distinct : Told A → Type 0
  Distinct [] = Unit {0}
  Distinct (e ∷ es) = Lacks e.0 es × Distinct es

  lacks_one : (q : Name) (es : Told A) (k : Name) (v : A) → name_eq q k ≡ false → Lacks q es → Lacks q (with_told es k v)
  lacks_one q [] k v n h = (n, tt)
  lacks_one q (e ∷ es) k v n h = go (name_eq k e.0) (lacks_one q es k v n h.1)
    where
      go : (b : Bool) → Lacks q (with_told es k v) → Lacks q (cond b ((e.0, v) ∷ es) (e ∷ with_told es k v))
      go true rest = (h.0, h.1)
      go false rest = (h.0, rest)

  distinct_one : (es : Told A) (k : Name) (v : A) → Distinct es → Distinct (with_told es k v)
  distinct_one [] k v h = (tt, tt)
  distinct_one (e ∷ es) k v h = go (name_eq k e.0) refl (distinct_one es k v h.1)
    where
      go : (b : Bool) → name_eq k e.0 ≡ b → Distinct (with_told es k v) → Distinct (cond b ((e.0, v) ∷ es) (e ∷ with_told es k v))
      go true t rest = (h.0, h.1)
      go false t rest = (lacks_one e.0 es k v (nat_list_eq_equiv.symm e.0 k ∙ t) h.0, rest)

  pub distinct_all : (pairs : List (Name × A)) (es : Told A) → Distinct es → Distinct (fold with_pair es pairs)
  distinct_all [] es h = h
  distinct_all (p ∷ pairs) es h = distinct_all pairs (with_pair es p) (distinct_one es p.0 p.1 h)

  pub apart : (es : Told A) (i j : ℕ) (a b : Name × A) → Distinct es → slice_get es i ≡ Some a → slice_get es j ≡ Some b → a.0 ≡ b.0 → i ≡ j
  apart [] i j a b h e g same = absurd (cc)
  apart (x ∷ es) zero zero a b h e g same = refl
  apart (x ∷ es) zero (suc j) a b h e g same =
      absurd (not_apart x.0 b.0 (ap (λ (z : Name × A). z.0) (some_is x a e) ∙ same) (each_at (λ (z : Name × A). name_eq x.0 z.0 ≡ false) es j b h.0 g))
  apart (x ∷ es) (suc i) zero a b h e g same =
      absurd (not_apart x.0 a.0 (ap (λ (z : Name × A). z.0) (some_is x b g) ∙ sym same) (each_at (λ (z : Name × A). name_eq x.0 z.0 ≡ false) es i a h.0 e))
  apart (x ∷ es) (suc i) (suc j) a b h e g same = ap suc (apart es i j a b h.1 e g same)
