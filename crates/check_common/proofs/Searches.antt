-- The search finds the first statement that initialises something again.
use Rattle.std.proofs.Common.{◌≡◌, ℕ, ◌<◌, ◌≤◌, ◌⊎◌, inl, inr, Bool, true, false, cond, ◌&&◌, List, [], ◌∷◌, Some, None, fold, refl, ap, ap₂, sym, ◌∙◌, arith}
use Rattle.std.specs.declared.option.Option.{Option}
use Rattle.std.specs.Prelude.{nat_lt, nat_le, ◌==◌}
use Rattle.std.proofs.lemmas.Bool.{false≢true}
use Rattle.std.proofs.lemmas.Bool.Decides.{nat_tests}
use Rattle.check_common.specs.declared.initials.Initial.{Initial}
use Rattle.check_common.specs.declared.again.Again.{Again}
use Rattle.check_common.specs.Again.{overlap, mark_of, IsAgain, FirstAgain}
use Rattle.check_common.specs.Searching.{meets_later, meets, comes_first, is_found, with_later, search}
use Rattle.check_common.proofs.Members.{In, in_of, contains_of, any_of, passing}

-- ---- the order

abbrev ordered : ℕ → ℕ → ℕ → ℕ → Bool
ordered p l q m = cond (p == q) (nat_le l m) (nat_lt p q)

itself : (p l : ℕ) → ordered p l p l ≡ true
itself p l = grind (arith, nat_tests)

other_way : (p l q m : ℕ) → ordered p l q m ≡ false → ordered q m p l ≡ true
other_way p l q m h = grind (arith, nat_tests)

chained : (p l q m r n : ℕ) → ordered p l q m ≡ true → ordered q m r n ≡ true → ordered p l r n ≡ true
chained p l q m r n h k = grind (arith, nat_tests)

place_first : (p l q m : ℕ) → ordered p l q m ≡ true → p ≤ q
place_first p l q m h = grind (arith, nat_tests)

line_first : (p l q m : ℕ) → ordered p l q m ≡ true → q ≡ p → l ≤ m
line_first p l q m h e = grind (arith, nat_tests)

first_itself : (a : Again) → comes_first a a ≡ true
first_itself a = itself a.place a.line

first_other : (a b : Again) → comes_first a b ≡ false → comes_first b a ≡ true
first_other a b h = other_way a.place a.line b.place b.line h

first_then : (a b c : Again) → comes_first a b ≡ true → comes_first b c ≡ true → comes_first a c ≡ true
first_then a b c h k = chained a.place a.line b.place b.line c.place c.line h k

same_some : (a b : Again) → Some a ≡ Some b → a ≡ b
same_some a b e = cc

module _ (all : List Initial) where
  -- ---- a step

  abbrev chosen : Bool → Bool → Option Again → Again → Option Again
  chosen p q found mark = cond p found (cond q (Some mark) found)

  step_is : (found : Option Again) (y : Initial) (p q : Bool) → is_found found (mark_of y) ≡ p → meets all y ≡ q → with_later all found y ≡ chosen p q found (mark_of y)
  step_is found y p q e f = ap₂ (λ s t. chosen s t found (mark_of y)) e f

  -- What is found stays, or something before it takes its place.
  step_keeps : (y : Initial) (b : Again) (p q : Bool) → is_found (Some b) (mark_of y) ≡ p → meets all y ≡ q → (c : Again) × (with_later all (Some b) y ≡ Some c) × (comes_first c b ≡ true)
  step_keeps y b true q e f = (b, step_is (Some b) y true q e f, first_itself b)
  step_keeps y b false true e f = (mark_of y, step_is (Some b) y false true e f, first_other b (mark_of y) e)
  step_keeps y b false false e f = (b, step_is (Some b) y false false e f, first_itself b)

  keeps : (rest : List Initial) (b : Again) → (a : Again) × (fold (with_later all) (Some b) rest ≡ Some a) × (comes_first a b ≡ true)
  keeps [] b = (b, refl, first_itself b)
  keeps (y ∷ ys) b =
      let s = step_keeps y b (comes_first b (mark_of y)) (meets all y) refl refl in
      let r = keeps ys s.0 in
      (r.0, ap (λ found. fold (with_later all) found ys) s.1 ∙ r.1, first_then r.0 s.0 b r.2 s.2)

  -- Something is found that stands no later than what a step is about.
  step_finds : (found : Option Again) (y : Initial) (p : Bool) → is_found found (mark_of y) ≡ p → meets all y ≡ true → (c : Again) × (with_later all found y ≡ Some c) × (comes_first c (mark_of y) ≡ true)
  step_finds None y true e f = absurd (false≢true e)
  step_finds (Some b) y true e f = (b, step_is (Some b) y true true e f, e)
  step_finds found y false e f = (mark_of y, step_is found y false true e f, first_itself (mark_of y))

  finds : (x : Initial) (rest : List Initial) (found : Option Again) → In x rest → meets all x ≡ true → (a : Again) × (fold (with_later all) found rest ≡ Some a) × (comes_first a (mark_of x) ≡ true)
  finds x [] found h m = absurd h
  finds x (y ∷ ys) found (inl e) m =
      let s = step_finds found y (is_found found (mark_of y)) refl (ap (meets all) e ∙ m) in
      let r = keeps ys s.0 in
      (r.0, ap (λ f. fold (with_later all) f ys) s.1 ∙ r.1, first_then r.0 s.0 (mark_of x) r.2 (ap (λ z. comes_first s.0 (mark_of z)) (sym e) ∙ s.2))
  finds x (y ∷ ys) found (inr h) m = finds x ys (with_later all found y) h m

  -- Only what meets something earlier is found.
  abbrev Found : List Initial → Again → Type 0
  Found rest a = (x : Initial) × In x rest × (meets all x ≡ true) × (a ≡ mark_of x)

  step_found : (found : Option Again) (y : Initial) (a : Again) (p q : Bool) → is_found found (mark_of y) ≡ p → meets all y ≡ q → chosen p q found (mark_of y) ≡ Some a → (found ≡ Some a) ⊎ ((meets all y ≡ true) × (a ≡ mark_of y))
  step_found found y a true q e f h = inl h
  step_found found y a false true e f h = inr (f, sym (same_some (mark_of y) a h))
  step_found found y a false false e f h = inl h

  is_from : (rest : List Initial) (found : Option Again) (a : Again) → fold (with_later all) found rest ≡ Some a → (found ≡ Some a) ⊎ Found rest a
  is_from [] found a h = inl h
  is_from (y ∷ ys) found a h = behind (is_from ys (with_later all found y) a h)
    where
      here : (found ≡ Some a) ⊎ ((meets all y ≡ true) × (a ≡ mark_of y)) → (found ≡ Some a) ⊎ Found (y ∷ ys) a
      here (inl e) = inl e
      here (inr p) = inr (y, inl refl, p.0, p.1)

      behind : (with_later all found y ≡ Some a) ⊎ Found ys a → (found ≡ Some a) ⊎ Found (y ∷ ys) a
      behind (inl e) = here (step_found found y a (is_found found (mark_of y)) (meets all y) refl refl e)
      behind (inr f) = inr (f.0, inr f.1, f.2, f.3)

  -- ---- the whole

  both_true : (p q : Bool) → p ≡ true → q ≡ true → (p && q) ≡ true
  both_true p q e f = ap₂ (λ s t. s && t) e f

  of_both : (p q : Bool) → (p && q) ≡ true → (p ≡ true) × (q ≡ true)
  of_both true q h = (refl, h)
  of_both false q h = absurd (false≢true h)

  is_below : (m n : ℕ) → m < n → nat_lt m n ≡ true
  is_below m n h = grind (arith, nat_tests)

  below : (m n : ℕ) → nat_lt m n ≡ true → m < n
  below m n h = grind (arith, nat_tests)

  meeting : (again : Again) (h : IsAgain all again) → meets all h.later ≡ true
  meeting again h =
      any_of (meets_later h.later) h.earlier all (in_of h.earlier all h.earlier_is)
      (both_true (nat_lt h.earlier.unit h.later.unit) (overlap h.earlier.run h.later.run) (is_below h.earlier.unit h.later.unit h.order) h.shared)

  is_again : (a : Again) → Found all a → IsAgain all a
  is_again a f =
      let p = passing (meets_later f.0) all f.2 in
      let b = of_both (nat_lt p.0.unit f.0.unit) (overlap p.0.run f.0.run) p.2 in
      record {
        earlier = p.0;
        earlier_is = contains_of p.0 all p.1;
        later = f.0;
        later_is = contains_of f.0 all f.1;
        order = below p.0.unit f.0.unit b.0;
        shared = b.1;
        told = f.3;
      }

  found_for : (again : Again) (h : IsAgain all again) → (a : Again) × (search all ≡ Some a) × (comes_first a again ≡ true)
  found_for again h =
      let r = finds h.later all None (in_of h.later all h.later_is) (meeting again h) in
      (r.0, r.1, ap (comes_first r.0) h.told ∙ r.2)

  none_none : (a : Again) → None ≡ Some a → ⊥
  none_none a e = cc

  from_none : (a : Again) → (None ≡ Some a) ⊎ Found all a → Found all a
  from_none a (inl e) = absurd (none_none a e)
  from_none a (inr f) = f

  pub search_finds : FirstAgain all (search all)
  search_finds = go (search all) refl
    where
      first : (a : Again) → search all ≡ Some a → (other : Again) → IsAgain all other → comes_first a other ≡ true
      first a e other h =
          let r = found_for other h in
          ap (λ z. comes_first z other) (same_some a r.0 (sym e ∙ r.1)) ∙ r.2

      go : (r : Option Again) → search all ≡ r → FirstAgain all r
      go None e = λ again h. let r = found_for again h in none_none r.0 (sym e ∙ r.1)
      go (Some a) e = record {
        initialises = is_again a (from_none a (is_from all None a e));
        first_unit = λ other h. place_first a.place a.line other.place other.line (first a e other h);
        first_line = λ other h same. line_first a.place a.line other.place other.line (first a e other h) same;
      }
