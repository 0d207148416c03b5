-- The entries of a relation, one by one, and what the relation has at a dummy.
use Rattle.std.proofs.Common.{◌≡◌, ℕ, suc, ◌+◌, ◌<◌, length, Bool, true, false, not, IsTrue, List, [], ◌∷◌, Option, Some, None, unwrap_or, get_or, refl, ap, sym, ◌∙◌, cond, subst, arith}
use Rattle.std.specs.declared.cmp.Ordering.{Ordering}
use Rattle.std.specs.declared.cmp.Ordering.TheVariants.{Less, Equal, Greater}
use Rattle.std.specs.Ordering.{is_eq, is_gt, nat_cmp}
use Rattle.std.specs.Map.{keys_of}
use Rattle.std.specs.List.{AllByRecursion}
use Rattle.std.specs.List.Sorted.{IsStrictlySortedBy}
use Rattle.std.proofs.lemmas.Cmp.{tied_itself, nat_cmp_total, eq_by_cmp_equiv}
use Rattle.std.proofs.lemmas.Option.{slice_get-get_or}
use Rattle.std.proofs.lemmas.Map.Keys.{sorted_head, sorted_tail, IsDistinct-from_sorted}
use Rattle.std.proofs.lemmas.Map.Entries.{lookup_from_place}
use Rattle.std.proofs.lemmas.Map.Lookups.{exact_unsigned}
use Rattle.f77_tree.specs.declared.unit.Item.{Item}
use Rattle.f77_tree.specs.declared.unit.Item.TheVariants.{Dummy, Local, Common}
use Rattle.rn_lattice.specs.Maps.{get, IsMap}
use Rattle.iv_set.specs.declared.bound.Bound.{Bound}
use Rattle.iv_set.specs.Toggles.{either, both}
use Rattle.iv_set.specs.ToggleLaws.{tested}
use Rattle.iv_set.specs.Places.{place_of}
use Rattle.iv_set.specs.Sets.{has_item, IsSet}
use Rattle.item_maps.specs.Relation.{of_dummy, leads, paired}
use Rattle.item_maps.specs.Passes.{any_at, keeps, any_keeps}

pub either_none : (s : Bool) → either s false ≡ s
either_none true = refl
either_none false = refl

-- ---- what the entries have at a dummy

none_at : (k : ℕ) (es : List (ℕ × List Bound)) (i : Item) → AllByRecursion (λ y. nat_cmp k y ≡ Less) (keys_of es) → any_at es k i ≡ false
none_at k [] i h = refl
none_at k (e ∷ es) i h = ap (λ r. either (both (is_eq r) (has_item e.1 i)) (any_at es k i)) h.0 ∙ none_at k es i h.1

pub any_at_is : (m : List (ℕ × List Bound)) (q : ℕ) (i : Item) → IsStrictlySortedBy nat_cmp (keys_of m) → any_at m q i ≡ has_item (of_dummy m q) i
any_at_is [] q i h = refl
any_at_is (e ∷ es) q i h = elim (nat_cmp q e.0) as (λ r. nat_cmp q e.0 ≡ r → either (both (is_eq r) (has_item e.1 i)) (any_at es q i) ≡ has_item (unwrap_or (cond (is_eq r) (Some e.1) (get nat_cmp es q)) []) i) [
  | Less ↦ λ _. any_at_is es q i (sorted_tail nat_cmp e.0 (keys_of es) h)
  | Equal ↦ λ here.
      let same : q ≡ e.0 = exact_unsigned q e.0 here in
      ap (either (has_item e.1 i)) (ap (λ k. any_at es k i) same ∙ none_at e.0 es i (sorted_head nat_cmp e.0 (keys_of es) h)) ∙ either_none (has_item e.1 i)
  | Greater ↦ λ _. any_at_is es q i (sorted_tail nat_cmp e.0 (keys_of es) h)
] refl

-- ---- each entry is what the map has at its dummy

abbrev pub AllFound : List (ℕ × List Bound) → List (ℕ × List Bound) → Type 0
AllFound m [] = Unit
AllFound m (e ∷ es) = (get nat_cmp m e.0 ≡ Some e.1) × AllFound m es

found_by_index : (m es : List (ℕ × List Bound)) → ((k : ℕ) (d : ℕ × List Bound) → k < length es → get nat_cmp m (get_or es k d).0 ≡ Some (get_or es k d).1) → AllFound m es
found_by_index m [] h = tt
found_by_index m (e ∷ es) h = (h 0 e (omega arith), found_by_index m es (λ k d l. h (suc k) d (omega arith)))

pub all_found : (m : List (ℕ × List Bound)) → IsStrictlySortedBy nat_cmp (keys_of m) → AllFound m m
all_found m sorted = found_by_index m m (λ k d below.
    let e = get_or m k d in
    lookup_from_place (eq_by_cmp_equiv nat_cmp_total) m k e.0 e.1 (IsDistinct-from_sorted nat_cmp (keys_of m) sorted) (slice_get-get_or m k d below))

-- ---- each entry has a set

abbrev pub AllSets : List (ℕ × List Bound) → Type 0
AllSets [] = Unit
AllSets (e ∷ es) = IsSet e.1 × AllSets es

sets_found : (m es : List (ℕ × List Bound)) → IsMap nat_cmp IsSet [] m → AllFound m es → AllSets es
sets_found m [] hm found = tt
sets_found m (e ∷ es) hm found = ((hm.kept e.0 e.1 found.0).0, sets_found m es hm found.1)

pub all_sets : (m : List (ℕ × List Bound)) → IsMap nat_cmp IsSet [] m → AllSets m
all_sets m hm = sets_found m m hm (all_found m hm.ordered)

-- ---- the pairs with both members in a set

kept_here : (h o p k : Bool) → either (both h (both o p)) (both k (both o p)) ≡ both (either h k) (both o p)
kept_here true true true k = refl
kept_here true true false true = refl
kept_here true true false false = refl
kept_here true false p true = refl
kept_here true false p false = refl
kept_here false o p k = refl

pub any_keeps_is : (own : List Bound) (m : List (ℕ × List Bound)) (q : ℕ) (i : Item) → any_keeps own m q i ≡ both (any_at m q i) (both (has_item own (Dummy q)) (has_item own i))
any_keeps_is own [] q i = refl
any_keeps_is own (e ∷ es) q i = ap (either (keeps own e.0 e.1 q i)) (any_keeps_is own es q i) ∙ elim (nat_cmp q e.0) as (λ r. nat_cmp q e.0 ≡ r → either (both (both (is_eq r) (has_item e.1 i)) (both (has_item own (Dummy e.0)) (has_item own i))) (both (any_at es q i) (both (has_item own (Dummy q)) (has_item own i))) ≡ both (either (both (is_eq r) (has_item e.1 i)) (any_at es q i)) (both (has_item own (Dummy q)) (has_item own i))) [
  | Less ↦ λ _. refl
  | Equal ↦ λ here.
      let same : q ≡ e.0 = exact_unsigned q e.0 here in
      ap (λ d. either (both (has_item e.1 i) (both (has_item own (Dummy d)) (has_item own i))) (both (any_at es q i) (both (has_item own (Dummy q)) (has_item own i)))) (sym same)
      ∙ kept_here (has_item e.1 i) (has_item own (Dummy q)) (has_item own i) (any_at es q i)
  | Greater ↦ λ _. refl
] refl
