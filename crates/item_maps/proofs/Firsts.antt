-- The first pair that a relation has and another lacks, entry by entry.
use Rattle.std.proofs.Common.{◌≡◌, ℕ, ◌<◌, ◌≤◌, Bool, true, false, not, ◌&&◌, IsTrue, List, [], ◌∷◌, Option, Some, None, unwrap_or, nat_le, refl, ap, sym, ◌∙◌, cond, subst, arith}
use Rattle.std.specs.declared.cmp.Ordering.{Ordering}
use Rattle.std.specs.declared.cmp.Ordering.TheVariants.{Less, Equal, Greater}
use Rattle.std.specs.Ordering.{MatchOrdering, is_eq, is_gt, nat_cmp}
use Rattle.std.specs.Map.{keys_of}
use Rattle.std.specs.BTreeMap.{is_at}
use Rattle.std.specs.List.Sorted.{IsStrictlySortedBy}
use Rattle.std.proofs.lemmas.Cmp.{ranked, nat_cmp_total}
use Rattle.std.proofs.lemmas.Map.{lookup-none}
use Rattle.std.proofs.lemmas.Map.Entries.{none_below_head}
use Rattle.std.proofs.lemmas.Map.Keys.{sorted_tail}
use Rattle.std.proofs.lemmas.Map.Lookups.{exact_unsigned}
use Rattle.f77_tree.specs.declared.unit.Item.{Item}
use Rattle.rn_lattice.specs.Maps.{get, map_leq, IsMap}
use Rattle.rn_lattice.specs.MapOrders.{at_value}
use Rattle.iv_set.specs.declared.bound.Bound.{Bound}
use Rattle.iv_set.specs.Toggles.{first_alone}
use Rattle.iv_set.specs.Places.{place_of}
use Rattle.iv_set.specs.Sets.{has_item, leq, IsSet, inside, set_order}
use Rattle.iv_set.specs.Least.{IsLeast}
use Rattle.item_maps.specs.Relation.{of_dummy, within, lacks, IsPairs, IsLeastPair}
use Rattle.item_maps.proofs.Entries.{AllFound, AllSets, all_found, all_sets}

-- what is known where the entries that are left are these
pub record Seeking (m n left : List (ℕ × List Bound)) : Type 0 where
  pub ordered : IsStrictlySortedBy nat_cmp (keys_of left)
  pub found : AllFound m left
  pub sets : AllSets left
  pub ahead : (q : ℕ) (j : Item) → IsTrue (lacks m n q j) → IsTrue (has_item (of_dummy left q) j)
  pub same : within m n ≡ within left n

alone_parts : (s t : Bool) → first_alone s t ≡ true → (s ≡ true) × (t ≡ false)
alone_parts true true e = absurd (cc)
alone_parts true false e = (refl, refl)
alone_parts false t e = absurd (cc)

pub seeking_starts : (m n : List (ℕ × List Bound)) → IsMap nat_cmp IsSet [] m → Seeking m n m
seeking_starts m n hm = record {
  ordered = hm.ordered;
  found = all_found m hm.ordered;
  sets = all_sets m hm;
  ahead = λ q j h. (alone_parts (has_item (of_dummy m q) j) (has_item (of_dummy n q) j) h).0;
  same = refl;
}

and_true : (s t : Bool) → s ≡ true → (s && t) ≡ t
and_true true t e = refl
and_true false t e = absurd (cc)

differ : (s : Bool) {G : Type 0} → s ≡ true → s ≡ false → G
differ true e h = absurd (cc)
differ false e h = absurd (cc)

module _ (m n rest : List (ℕ × List Bound)) (e : ℕ × List Bound) (hn : IsMap nat_cmp IsSet [] n) (s : Seeking m n (e ∷ rest)) where
  pub seeking_goes_on : IsTrue (leq e.1 (of_dummy n e.0)) → Seeking m n rest
  seeking_goes_on below = record {
    ordered = sorted_tail nat_cmp e.0 (keys_of rest) s.ordered;
    found = s.found.1;
    sets = s.sets.1;
    ahead = λ q j h. elim (nat_cmp q e.0) as (λ r. nat_cmp q e.0 ≡ r → IsTrue (has_item (unwrap_or (cond (is_eq r) (Some e.1) (get nat_cmp rest q)) []) j) → IsTrue (has_item (of_dummy rest q) j)) [
      | Less ↦ λ _ k. k
      | Equal ↦ λ here k.
          let same : q ≡ e.0 = exact_unsigned q e.0 here in
          let has_it : has_item (of_dummy n q) j ≡ true = subst (λ d. has_item (of_dummy n d) j ≡ true) (sym same) (inside s.sets.0 (at_value nat_cmp_total exact_unsigned set_order n hn e.0) below (place_of j) k) in
          differ (has_item (of_dummy n q) j) has_it (alone_parts (has_item (of_dummy m q) j) (has_item (of_dummy n q) j) h).1
      | Greater ↦ λ _ k. k
    ] refl (s.ahead q j h);
    same = s.same ∙ and_true (leq e.1 (of_dummy n e.0)) (within rest n) below;
  }

  le_by : (k q : ℕ) (r : Ordering) → MatchOrdering r (q < k) (q ≡ k) (k < q) → (r ≡ Less → nat_le k q ≡ true) → nat_le k q ≡ true
  le_by k q Less h f = f refl
  le_by k q Equal h f = grind arith
  le_by k q Greater h f = grind arith

  not_before : (q : ℕ) (j : Item) → IsTrue (has_item (of_dummy (e ∷ rest) q) j) → IsTrue (nat_le e.0 q)
  not_before q j h = le_by e.0 q (nat_cmp q e.0) (ranked q e.0 _ refl) (λ below.
      let gone : get nat_cmp (e ∷ rest) q ≡ None = lookup-none (is_at (nat_cmp q)) (e ∷ rest) (none_below_head nat_cmp_total q e rest s.ordered below) in
      differ (has_item (of_dummy (e ∷ rest) q) j) h (ap (λ r. has_item (unwrap_or r []) j) gone))

  pub seeking_finds : (i : Item) → IsLeast (λ i. first_alone (has_item e.1 i) (has_item (of_dummy n e.0) i)) i → IsLeastPair m n e.0 i
  seeking_finds i least = record {
    at = subst (λ l. IsLeast (λ j. first_alone (has_item l j) (has_item (of_dummy n e.0) j)) i) (sym (ap (λ r. unwrap_or r []) s.found.0)) least;
    before = λ q j h. not_before q j (s.ahead q j h);
  }
