-- A map is joined to another one key after another.
use Rattle.std.specs.Prelude.{◌≡◌, ◌≢◌, Bool, true, false, not, ◌||◌, IsTrue, List, [], ◌∷◌, Some, None, is_some, unwrap_or, All, refl}
use Rattle.std.specs.Cmp.{IsTotalOrder}
use Rattle.std.specs.List.Sorted.{IsStrictlySortedBy}
use Rattle.std.specs.Map.{keys_of}
use Rattle.std.specs.BTreeMap.{is_at}
use Rattle.std.specs.declared.cmp.Ordering.{Ordering}
use Rattle.std.specs.declared.cmp.Ordering.TheVariants.{Less, Equal, Greater}
use Rattle.std.specs.Ordering.{is_eq}
use Rattle.std.proofs.Common.{suc, ap, sym, subst, cond, ◌∙◌, arith}
use Rattle.std.proofs.lemmas.Bool.{true≢false}
use Rattle.std.proofs.lemmas.Cmp.{eq_by_cmp_equiv, tied_itself}
use Rattle.std.proofs.lemmas.Map.{lookup-none}
use Rattle.std.proofs.lemmas.Map.Entries.{none_past_head, lookup_head, lookup_tail}
use Rattle.std.proofs.lemmas.Map.Keys.{IsDistinct-from_sorted, sorted_tail}
use Rattle.std.proofs.lemmas.Map.Lookups.{CmpEqualImpliesEq}
use Rattle.rn_lattice.specs.Order.{IsOrderFrom, IsJoin}
use Rattle.rn_lattice.specs.Maps.{get, value_at, map_leq, IsMap}
use Rattle.rn_lattice.specs.MapOrders.{at_value, below_at, below_from, map_order, join_at}

same_test : (a b : Bool) → (a ≡ true → b ≡ true) → (b ≡ true → a ≡ true) → a ≡ b
same_test true b f g = sym (f refl)
same_test false true f g = g refl
same_test false false f g = refl

module _ {L : Type 0} {is_value : L → Type 0} {leq : L → L → Bool} {bottom : L} (o : IsOrderFrom is_value leq bottom) where
  -- a value joined to the bottom stays
  join_bottom : (x : L) → is_value x → IsJoin is_value leq x bottom x
  join_bottom x hx = record { value = hx; above_first = o.reflexive x hx; above_second = o.bottom_least x hx; least = λ w hw xw bw. xw }

  join_bottom_same : (x z : L) → is_value x → IsJoin is_value leq x bottom z → z ≡ x
  join_bottom_same x z hx j = o.antisymmetric z x j.value hx (j.least x hx (o.reflexive x hx) (o.bottom_least x hx)) j.above_first

  -- a value rose over two steps where it rose at one of them
  rose_twice : (x y z : L) → is_value x → is_value y → is_value z → IsTrue (leq x y) → IsTrue (leq y z) → (not (leq y x) || not (leq z y)) ≡ not (leq z x)
  rose_twice x y z hx hy hz xy yz = same_test _ _
      (λ some. grind (arith, o.transitive z x y hz hx hy, o.transitive y z x hy hz hx))
      (λ whole. grind (arith, o.transitive z y x hz hy hx))

module _ {K L : Type 0} (cmp : K → K → Ordering) (is_value : L → Type 0) (leq : L → L → Bool) (bottom : L) where
  -- the map `now` has at each key what `init` and the entries of `other` that are not left have
  pub record Joining (init other left now : List (K × L)) (rose : Bool) : Type 0 where
    pub began : IsMap cmp is_value bottom init
    pub joined : IsMap cmp is_value bottom other
    pub value : IsMap cmp is_value bottom now
    pub ordered : IsStrictlySortedBy cmp (keys_of left)
    pub found : All (λ (e : K × L). get cmp other e.0 ≡ Some e.1) left
    pub joins : (q : K) → IsJoin is_value leq (value_at cmp bottom init q) (cond (is_some (get cmp left q)) bottom (value_at cmp bottom other q)) (value_at cmp bottom now q)
    pub rises : rose ≡ not (map_leq cmp leq bottom now init)

module _ {K L : Type 0} {cmp : K → K → Ordering} (total : IsTotalOrder cmp) (exact : CmpEqualImpliesEq cmp) {is_value : L → Type 0} {leq : L → L → Bool} {bottom : L} (o : IsOrderFrom is_value leq bottom) where
  pub joining_starts : (init other : List (K × L)) → IsMap cmp is_value bottom init → IsMap cmp is_value bottom other → All (λ (e : K × L). get cmp other e.0 ≡ Some e.1) other → Joining cmp is_value leq bottom init other other init false
  joining_starts init other hi ho found = record {
    began = hi;
    joined = ho;
    value = hi;
    ordered = ho.ordered;
    found = found;
    joins = λ q.
        let stays = join_bottom o (value_at cmp bottom init q) (at_value total exact o init hi q) in
        elim (get cmp other q) as (λ r. IsJoin is_value leq (value_at cmp bottom init q) (cond (is_some r) bottom (unwrap_or r bottom)) (value_at cmp bottom init q)) [
          | None ↦ stays
          | Some v ↦ stays
        ];
    rises = ap not (sym ((map_order total exact o).reflexive init hi));
  }

  pub joining_ends : (init other now : List (K × L)) (rose : Bool) → Joining cmp is_value leq bottom init other [] now rose → IsJoin (IsMap cmp is_value bottom) (map_leq cmp leq bottom) init other now
  joining_ends init other now rose j = join_at total exact o init other now j.began j.joined j.value j.joins

  module _ (init other rest now new : List (K × L)) (e : K × L) (rose risen : Bool) (j : Joining cmp is_value leq bottom init other (e ∷ rest) now rose)
      (value : IsMap cmp is_value bottom new) (joined : IsJoin is_value leq (value_at cmp bottom now e.0) e.1 (value_at cmp bottom new e.0))
      (others : (q : K) → q ≢ e.0 → get cmp new q ≡ get cmp now q) (rises : risen ≡ not (leq (value_at cmp bottom new e.0) (value_at cmp bottom now e.0))) where
    apart : (q : K) → is_eq (cmp q e.0) ≡ false → q ≢ e.0
    apart q not_here same = true≢false (sym (ap is_eq (tied_itself total e.0)) ∙ ap (λ k. is_eq (cmp k e.0)) (sym same) ∙ not_here)

    joins_at_key : IsJoin is_value leq (value_at cmp bottom init e.0) (cond (is_some (get cmp rest e.0)) bottom (value_at cmp bottom other e.0)) (value_at cmp bottom new e.0)
    joins_at_key =
        let here : is_at (cmp e.0) e.0 ≡ true = ap is_eq (tied_itself total e.0) in
        let gone : get cmp rest e.0 ≡ None = lookup-none (is_at (cmp e.0)) rest (none_past_head (eq_by_cmp_equiv total) e.0 e rest (IsDistinct-from_sorted cmp _ j.ordered) here) in
        let so_far = subst (λ r. IsJoin is_value leq (value_at cmp bottom init e.0) (cond (is_some r) bottom (value_at cmp bottom other e.0)) (value_at cmp bottom now e.0)) (lookup_head (is_at (cmp e.0)) e rest here) (j.joins e.0) in
        let same = join_bottom_same o _ _ (at_value total exact o init j.began e.0) so_far in
        let found : get cmp other e.0 ≡ Some e.1 = j.found 0 e (omega arith) in
        subst (λ r. IsJoin is_value leq (value_at cmp bottom init e.0) (cond (is_some r) bottom (value_at cmp bottom other e.0)) (value_at cmp bottom new e.0)) (sym gone)
        (subst (λ r. IsJoin is_value leq (value_at cmp bottom init e.0) (unwrap_or r bottom) (value_at cmp bottom new e.0)) (sym found)
        (subst (λ x. IsJoin is_value leq x e.1 (value_at cmp bottom new e.0)) same joined))

    joins_elsewhere : (q : K) → is_eq (cmp q e.0) ≡ false → IsJoin is_value leq (value_at cmp bottom init q) (cond (is_some (get cmp rest q)) bottom (value_at cmp bottom other q)) (value_at cmp bottom new q)
    joins_elsewhere q not_here =
        subst (λ r. IsJoin is_value leq (value_at cmp bottom init q) (cond (is_some (get cmp rest q)) bottom (value_at cmp bottom other q)) (unwrap_or r bottom)) (sym (others q (apart q not_here)))
        (subst (λ r. IsJoin is_value leq (value_at cmp bottom init q) (cond (is_some r) bottom (value_at cmp bottom other q)) (value_at cmp bottom now q)) (lookup_tail (is_at (cmp q)) e rest not_here) (j.joins q))

    joins_now : (q : K) → IsJoin is_value leq (value_at cmp bottom init q) (cond (is_some (get cmp rest q)) bottom (value_at cmp bottom other q)) (value_at cmp bottom new q)
    joins_now q = elim (cmp q e.0) as (λ r. cmp q e.0 ≡ r → IsJoin is_value leq (value_at cmp bottom init q) (cond (is_some (get cmp rest q)) bottom (value_at cmp bottom other q)) (value_at cmp bottom new q)) [
      | Less ↦ λ r. joins_elsewhere q (ap is_eq r)
      | Equal ↦ λ r. subst (λ k. IsJoin is_value leq (value_at cmp bottom init k) (cond (is_some (get cmp rest k)) bottom (value_at cmp bottom other k)) (value_at cmp bottom new k)) (sym (exact q e.0 r)) joins_at_key
      | Greater ↦ λ r. joins_elsewhere q (ap is_eq r)
    ] refl

    -- a fact of the new map and the one before it, at the key and elsewhere
    at_each : (P : L → L → Type 0) → P (value_at cmp bottom new e.0) (value_at cmp bottom now e.0) → ((q : K) → P (value_at cmp bottom now q) (value_at cmp bottom now q)) → (q : K) → P (value_at cmp bottom new q) (value_at cmp bottom now q)
    at_each P here same q = elim (cmp q e.0) as (λ r. cmp q e.0 ≡ r → P (value_at cmp bottom new q) (value_at cmp bottom now q)) [
      | Less ↦ λ r. subst (λ v. P (unwrap_or v bottom) (value_at cmp bottom now q)) (sym (others q (apart q (ap is_eq r)))) (same q)
      | Equal ↦ λ r. subst (λ k. P (value_at cmp bottom new k) (value_at cmp bottom now k)) (sym (exact q e.0 r)) here
      | Greater ↦ λ r. subst (λ v. P (unwrap_or v bottom) (value_at cmp bottom now q)) (sym (others q (apart q (ap is_eq r)))) (same q)
    ] refl

    itself : (q : K) → IsTrue (leq (value_at cmp bottom now q) (value_at cmp bottom now q))
    itself q = o.reflexive _ (at_value total exact o now j.value q)

    up : IsTrue (map_leq cmp leq bottom now new)
    up = below_from total exact o now new j.value (at_each (λ a b. IsTrue (leq b a)) joined.above_first itself)

    -- the map rose where its value at the key did
    risen_whole : leq (value_at cmp bottom new e.0) (value_at cmp bottom now e.0) ≡ map_leq cmp leq bottom new now
    risen_whole = same_test _ _
        (λ fell. below_from total exact o new now value (at_each (λ a b. IsTrue (leq a b)) fell itself))
        (λ fell. below_at total exact o new now j.value fell e.0)

    rises_now : (rose || risen) ≡ not (map_leq cmp leq bottom new init)
    rises_now =
        let since = below_from total exact o init now j.began (λ q. (j.joins q).above_first) in
        let twice = rose_twice (map_order total exact o) init now new j.began j.value value since up in
        ap (λ b. b || risen) j.rises ∙ ap (λ b. not (map_leq cmp leq bottom now init) || b) (rises ∙ ap not risen_whole) ∙ twice

    pub joining_step : Joining cmp is_value leq bottom init other rest new (rose || risen)
    joining_step = record {
      began = j.began;
      joined = j.joined;
      value = value;
      ordered = sorted_tail cmp e.0 (keys_of rest) j.ordered;
      found = λ k d below. j.found (suc k) d (omega arith);
      joins = joins_now;
      rises = rises_now;
    }
