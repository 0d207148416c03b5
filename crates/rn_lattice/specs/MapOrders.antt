-- The order of maps is a partial order with the empty map below all.
use Rattle.std.specs.Prelude.{◌≡◌, ◌≢◌, Bool, IsTrue, List, [], ◌∷◌, Option, Some, None, unwrap_or, refl}
use Rattle.std.specs.Cmp.{IsTotalOrder}
use Rattle.std.proofs.lemmas.Cmp.{eq_by_cmp_equiv}
use Rattle.std.specs.List.Sorted.{IsStrictlySortedBy}
use Rattle.std.specs.Map.{keys_of}
use Rattle.std.specs.declared.cmp.Ordering.{Ordering}
use Rattle.std.specs.declared.cmp.Ordering.TheVariants.{Less, Equal, Greater}
use Rattle.std.specs.Ordering.{is_eq}
use Rattle.std.proofs.Common.{ap, sym, subst, cond, get_or, inl}
use Rattle.std.proofs.lemmas.Bool.{and_parts}
use Rattle.std.proofs.lemmas.List.Sums.{list_all-from_AllPass}
use Rattle.std_collections.specs.Layout.BTreeMap.{btree_map}
use Rattle.std.proofs.lemmas.Option.{slice_get-get_or}
use Rattle.std.proofs.lemmas.Map.Entries.{lookup_from_place}
use Rattle.std.proofs.lemmas.Map.Keys.{IsDistinct-from_sorted}
use Rattle.std.proofs.lemmas.Map.Lookups.{CmpEqualImpliesEq, btree_map_from_get}
use Rattle.rn_lattice.specs.Order.{IsOrderFrom, IsJoin}
use Rattle.rn_lattice.specs.Maps.{get, value_at, map_leq, IsMap}

module _ {K L : Type 0} {cmp : K → K → Ordering} (total : IsTotalOrder cmp) (exact : CmpEqualImpliesEq cmp) {is_value : L → Type 0} {leq : L → L → Bool} {bottom : L} (o : IsOrderFrom is_value leq bottom) where
  -- a value at any key is a value of the type
  pub at_value : (m : List (K × L)) → IsMap cmp is_value bottom m → (q : K) → is_value (value_at cmp bottom m q)
  at_value m h q = elim (get cmp m q) as (λ r. get cmp m q ≡ r → is_value (unwrap_or r bottom)) [
    | None ↦ λ _. o.bottom_value
    | Some v ↦ λ e. (h.kept q v e).0
  ] refl

  -- at each key the value of the first is below that of the second
  pub below_at : (m n : List (K × L)) → IsMap cmp is_value bottom n → IsTrue (map_leq cmp leq bottom m n) → (q : K) → IsTrue (leq (value_at cmp bottom m q) (value_at cmp bottom n q))
  below_at [] n hn below q = o.bottom_least _ (at_value n hn q)
  below_at (e ∷ es) n hn below q =
      let parts = and_parts _ _ below in
      elim (cmp q e.0) as (λ r. cmp q e.0 ≡ r → IsTrue (leq (unwrap_or (cond (is_eq r) (Some e.1) (get cmp es q)) bottom) (value_at cmp bottom n q))) [
        | Less ↦ λ _. below_at es n hn parts.1 q
        | Equal ↦ λ here. subst (λ k. IsTrue (leq e.1 (value_at cmp bottom n k))) (sym (exact q e.0 here)) parts.0
        | Greater ↦ λ _. below_at es n hn parts.1 q
      ] refl

  -- and the way back
  pub below_from : (m n : List (K × L)) → IsMap cmp is_value bottom m → ((q : K) → IsTrue (leq (value_at cmp bottom m q) (value_at cmp bottom n q))) → IsTrue (map_leq cmp leq bottom m n)
  below_from m n hm at = list_all-from_AllPass (λ (e : K × L). leq e.1 (value_at cmp bottom n e.0)) m (λ i d below.
      let e = get_or m i d in
      let found : get cmp m e.0 ≡ Some e.1 = lookup_from_place (eq_by_cmp_equiv total) m i e.0 e.1 (IsDistinct-from_sorted cmp (keys_of m) hm.ordered) (slice_get-get_or m i d below) in
      subst (λ r. IsTrue (leq (unwrap_or r bottom) (value_at cmp bottom n e.0))) found (at e.0))

  same_kept : (r s : Option L) → ((v : L) → r ≡ Some v → v ≢ bottom) → ((v : L) → s ≡ Some v → v ≢ bottom) → unwrap_or r bottom ≡ unwrap_or s bottom → r ≡ s
  same_kept None None hr hs e = refl
  same_kept None (Some w) hr hs e = absurd (hs w refl (sym e))
  same_kept (Some v) None hr hs e = absurd (hr v refl e)
  same_kept (Some v) (Some w) hr hs e = ap Some e

  same_map : (x y : List (K × L)) → IsMap cmp is_value bottom x → IsMap cmp is_value bottom y → ((q : K) → value_at cmp bottom x q ≡ value_at cmp bottom y q) → x ≡ y
  same_map x y hx hy at =
      btree_map_from_get total (btree_map x (inl tt)) (btree_map y (inl tt)) hx.ordered hy.ordered (λ q. same_kept _ _ (λ v e. (hx.kept q v e).1) (λ v e. (hy.kept q v e).1) (at q)) exact

  pub empty_map : IsMap cmp is_value bottom []
  unfolding IsStrictlySortedBy
  empty_map = record { ordered = tt; kept = λ q v e. absurd cc }

  pub map_order : IsOrderFrom (IsMap cmp is_value bottom) (map_leq cmp leq bottom) []
  map_order = record {
    reflexive = λ m h. below_from m m h (λ q. o.reflexive _ (at_value m h q));
    transitive = λ x y z hx hy hz xy yz. below_from x z hx (λ q. o.transitive _ _ _ (at_value x hx q) (at_value y hy q) (at_value z hz q) (below_at x y hy xy q) (below_at y z hz yz q));
    antisymmetric = λ x y hx hy xy yx. same_map x y hx hy (λ q. o.antisymmetric _ _ (at_value x hx q) (at_value y hy q) (below_at x y hy xy q) (below_at y x hx yx q));
    bottom_value = empty_map;
    bottom_least = λ m h. refl;
  }

  -- joined at each key, maps are joined
  pub join_at : (m n r : List (K × L)) → IsMap cmp is_value bottom m → IsMap cmp is_value bottom n → IsMap cmp is_value bottom r → ((q : K) → IsJoin is_value leq (value_at cmp bottom m q) (value_at cmp bottom n q) (value_at cmp bottom r q)) → IsJoin (IsMap cmp is_value bottom) (map_leq cmp leq bottom) m n r
  join_at m n r hm hn hr at = record {
    value = hr;
    above_first = below_from m r hm (λ q. (at q).above_first);
    above_second = below_from n r hn (λ q. (at q).above_second);
    least = λ w hw mw nw. below_from r w hr (λ q. (at q).least _ (at_value w hw q) (below_at m w hw mw q) (below_at n w hw nw q));
  }
