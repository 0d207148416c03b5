-- One run as a set, and what sets that meet have in common.
use Rattle.std.proofs.Common.{◌≡◌, ℕ, ◌+◌, ◌<◌, ◌≤◌, ◌^◌, Bool, true, false, not, ◌&&◌, IsTrue, IsFalse, List, refl, ap, sym, ◌∙◌, cond, nat_lt, arith}
use Rattle.std.specs.declared.cmp.Ordering.{Ordering}
use Rattle.std.specs.declared.cmp.Ordering.TheVariants.{Less, Equal, Greater}
use Rattle.std.specs.Ordering.{MatchOrdering, ordering_then, ordering_reverse, nat_cmp, is_gt, is_lt}
use Rattle.std.proofs.lemmas.Cmp.{ranked, tied_itself}
use Rattle.std.proofs.lemmas.Bool.{and_from}
use Rattle.f77_tree.specs.declared.unit.Item.{Item}
use Rattle.iv_set.specs.declared.bound.Bound.{Bound}
use Rattle.iv_set.specs.Toggles.{both, is_empty}
use Rattle.iv_set.specs.Places.{cmp, area_cmp, area_total, place_of, next_place, is_item, IsRun, between, run, by_items}
use Rattle.iv_set.specs.Sets.{has, has_item, made, IsSet, made_has, made_none, both_rule, none_is}

behind_by : (m n : ℕ) (r s : Ordering) → MatchOrdering r (m + 1 < n) (m + 1 ≡ n) (n < m + 1) → MatchOrdering s (n < m) (n ≡ m) (m < n) → is_gt r ≡ not (is_gt s)
behind_by m n Less Less h k = absurd (omega arith)
behind_by m n Less Equal h k = absurd (omega arith)
behind_by m n Less Greater h k = refl
behind_by m n Equal Less h k = absurd (omega arith)
behind_by m n Equal Equal h k = absurd (omega arith)
behind_by m n Equal Greater h k = refl
behind_by m n Greater Less h k = refl
behind_by m n Greater Equal h k = refl
behind_by m n Greater Greater h k = absurd (omega arith)

in_area : (r x y : Ordering) → is_gt x ≡ not (is_gt y) → is_gt (ordering_then r x) ≡ not (is_gt (ordering_then (ordering_reverse r) y))
in_area Less x y e = refl
in_area Equal x y e = e
in_area Greater x y e = refl

-- a place stands before the one behind an item where it doesn't stand behind the item
behind : (to : Item) (p : Bound) → is_gt (cmp (next_place to) p) ≡ not (is_gt (cmp p (place_of to)))
behind to p =
    let b = place_of to in
    in_area (area_cmp b.area p.area) (nat_cmp (b.offset + 1) p.offset) (nat_cmp p.offset b.offset)
    (behind_by b.offset p.offset (nat_cmp (b.offset + 1) p.offset) (nat_cmp p.offset b.offset) (ranked (b.offset + 1) p.offset _ refl) (ranked p.offset b.offset _ refl))
    ∙ ap (λ r. not (is_gt (ordering_then r (nat_cmp p.offset b.offset)))) (sym (area_total.antisymm p.area b.area))

two_ends : (g h k : Bool) → h ≡ not k → cond g false (cond h true false) ≡ (not g && not k)
two_ends true h k e = refl
two_ends false true true e = absurd (cc)
two_ends false true false e = refl
two_ends false false true e = refl
two_ends false false false e = absurd (cc)

pub run_has : (from to i : Item) → has_item (run from to) i ≡ between from to i
run_has from to i = two_ends (is_gt (cmp (place_of from) (place_of i))) (is_gt (cmp (next_place to) (place_of i))) (is_gt (cmp (place_of i) (place_of to))) (behind to (place_of i))

below_by : (m n : ℕ) (r : Ordering) → n ≤ m → MatchOrdering r (n < m + 1) (n ≡ m + 1) (m + 1 < n) → is_lt r ≡ true
below_by m n Less b h = refl
below_by m n Equal b h = absurd (omega arith)
below_by m n Greater b h = absurd (omega arith)

above_by : (m n : ℕ) (r : Ordering) → is_gt r ≡ true → MatchOrdering r (m < n) (m ≡ n) (n < m) → n < m
above_by m n Less e h = absurd (cc)
above_by m n Equal e h = absurd (cc)
above_by m n Greater e h = h

level_by : (r x y : Ordering) → is_gt (ordering_then r x) ≡ false → is_gt (ordering_then r y) ≡ true → is_gt y ≡ true
level_by Less x y e h = absurd (cc)
level_by Equal x y e h = h
level_by Greater x y e h = absurd (cc)

both_ends : (g h : Bool) → cond g false (cond h true false) ≡ true → (g ≡ false) × (h ≡ true)
both_ends true h e = absurd (cc)
both_ends false true e = (refl, refl)
both_ends false false e = absurd (cc)

small : (n m : ℕ) → n < m + 1 → nat_lt m (2 ^ 32) ≡ true → nat_lt n (2 ^ 32) ≡ true
small n m b h = grind arith

module _ (from to : Item) (r : IsRun from to) where
  first_below : is_lt (cmp (place_of from) (next_place to)) ≡ true
  first_below =
      let a = place_of from in
      let b = place_of to in
      ap (λ (q : Ordering). is_lt (ordering_then q (nat_cmp a.offset (b.offset + 1)))) (ap (area_cmp a.area) (sym r.area) ∙ tied_itself area_total a.area)
      ∙ below_by b.offset a.offset _ r.order (ranked a.offset (b.offset + 1) _ refl)

  inner : is_item (place_of to) ≡ true → (p : Bound) → has (run from to) p ≡ true → is_item p ≡ true
  inner fits p h =
      let a = place_of from in
      let b = place_of to in
      let ends = both_ends (is_gt (cmp a p)) (is_gt (cmp (next_place to) p)) h in
      let over : is_gt (ordering_then (area_cmp a.area p.area) (nat_cmp (b.offset + 1) p.offset)) ≡ true = ap (λ z. is_gt (ordering_then (area_cmp z p.area) (nat_cmp (b.offset + 1) p.offset))) r.area ∙ ends.1 in
      small p.offset b.offset (above_by (b.offset + 1) p.offset _ (level_by (area_cmp a.area p.area) (nat_cmp a.offset p.offset) (nat_cmp (b.offset + 1) p.offset) ends.0 over) (ranked (b.offset + 1) p.offset _ refl)) fits

  pub run_set : IsTrue (is_item (place_of to)) → IsSet (run from to)
  run_set fits = record {
    rising = and_from _ _ first_below refl;
    items = inner fits;
  }

denied : (b : Bool) → false ≡ not b → b ≡ true
denied true e = refl
denied false e = absurd (cc)

module _ {ps qs : List Bound} (one : IsSet ps) (other : IsSet qs) (b : Bool) (e : b ≡ not (is_empty (made both ps qs))) where
  pub apart : IsFalse b → (i : Item) → both (has_item ps i) (has_item qs i) ≡ false
  apart h i = sym (made_has both_rule one other (place_of i)) ∙ ap (λ l. has l (place_of i)) (none_is (made both ps qs) (denied (is_empty (made both ps qs)) (sym h ∙ e)))

  pub apart_only : ((i : Item) → both (has_item ps i) (has_item qs i) ≡ false) → IsFalse b
  apart_only h = e ∙ ap (λ l. not (is_empty l)) (made_none both_rule one other (by_items (λ p. both (has ps p) (has qs p) ≡ false) h))
