-- Inclusion of relations by their pairs, and the pairs that both members of a set make.
use Rattle.std.proofs.Common.{◌≡◌, ◌≢◌, ℕ, ◌≤◌, Bool, true, false, not, IsTrue, List, [], ◌∷◌, Some, unwrap_or, nat_le, refl, ap, sym, ◌∙◌, subst, arith}
use Rattle.std.specs.declared.cmp.Ordering.{Ordering}
use Rattle.std.specs.declared.cmp.Ordering.TheVariants.{Less, Equal, Greater}
use Rattle.std.specs.Ordering.{is_eq, nat_cmp}
use Rattle.std.proofs.lemmas.Cmp.{tied_itself, nat_cmp_total}
use Rattle.std.proofs.lemmas.Map.Lookups.{exact_unsigned}
use Rattle.f77_tree.specs.declared.unit.Item.{Item}
use Rattle.f77_tree.specs.declared.unit.Item.TheVariants.{Dummy, Local, Common}
use Rattle.rn_lattice.specs.Order.{IsJoin}
use Rattle.rn_lattice.specs.Maps.{get, map_leq, IsMap}
use Rattle.rn_lattice.specs.MapOrders.{at_value, below_at, below_from, map_order}
use Rattle.iv_set.specs.declared.bound.Bound.{Bound}
use Rattle.iv_set.specs.Toggles.{either, both}
use Rattle.iv_set.specs.ToggleLaws.{tested}
use Rattle.iv_set.specs.Places.{place_of}
use Rattle.iv_set.specs.Sets.{has_item, leq, IsSet, inside, inside_from_items, set_order}
use Rattle.item_maps.specs.Relation.{of_dummy, leads, paired, follows, within, IsPairs}
use Rattle.item_maps.specs.Passes.{any_at, keeps, any_keeps}
use Rattle.item_maps.proofs.Entries.{either_none, any_at_is, any_keeps_is}
use Rattle.item_maps.proofs.Raising.{joined_has}

one_of : (s t : Bool) {G : Type 0} → either s t ≡ true → (s ≡ true → G) → (t ≡ true → G) → G
one_of true t e f g = f refl
one_of false t e f g = g e

either_first : (s t : Bool) → s ≡ true → either s t ≡ true
either_first true t e = refl
either_first false t e = absurd (cc)

either_second : (s t : Bool) → t ≡ true → either s t ≡ true
either_second true t e = refl
either_second false t e = e

set_of : (m : List (ℕ × List Bound)) → IsMap nat_cmp IsSet [] m → (q : ℕ) → IsSet (of_dummy m q)
set_of m hm q = at_value nat_cmp_total exact_unsigned set_order m hm q

-- a map that is joined to the empty one is that map
pub copied : (m r : List (ℕ × List Bound)) → IsMap nat_cmp IsSet [] m → IsJoin (IsMap nat_cmp IsSet []) (map_leq nat_cmp leq []) [] m r → r ≡ m
copied m r hm j =
    let o = map_order nat_cmp_total exact_unsigned set_order in
    o.antisymmetric r m j.value hm (j.least m hm (o.bottom_least m hm) (o.reflexive m hm)) j.above_second

module _ (m n : List (ℕ × List Bound)) (one : IsPairs m) (other : IsPairs n) where
  leads_on : IsTrue (within m n) → (x y : Item) → IsTrue (leads m x y) → IsTrue (leads n x y)
  leads_on e (Dummy q) y h = inside (set_of m one.map q) (set_of n other.map q) (below_at nat_cmp_total exact_unsigned set_order m n other.map e q) (place_of y) h
  leads_on e (Local k) y h = absurd (cc)
  leads_on e (Common name k) y h = absurd (cc)

  pub paired_on : IsTrue (within m n) → (x y : Item) → IsTrue (paired m x y) → IsTrue (paired n x y)
  paired_on e x y h = one_of (leads m x y) (leads m y x) h
      (λ f. either_first _ _ (leads_on e x y f))
      (λ g. either_second _ _ (leads_on e y x g))

  first_at : (q : ℕ) (i : Item) → IsTrue (has_item (of_dummy m q) i) → IsTrue (paired n (Dummy q) i) → IsTrue (has_item (of_dummy n q) i)
  first_at q (Dummy e) h p = one_of (has_item (of_dummy n q) (Dummy e)) (has_item (of_dummy n e) (Dummy q)) p (λ f. f) (λ g.
      let up : IsTrue (nat_le q e) = one.following q (Dummy e) h in
      let down : IsTrue (nat_le e q) = other.following e (Dummy q) g in
      let same : e ≡ q = grind arith in
      subst (λ d. IsTrue (has_item (of_dummy n q) (Dummy d))) (sym same) (subst (λ d. IsTrue (has_item (of_dummy n d) (Dummy q))) same g))
  first_at q (Local k) h p = one_of (has_item (of_dummy n q) (Local k)) false p (λ f. f) (λ g. absurd (cc))
  first_at q (Common name k) h p = one_of (has_item (of_dummy n q) (Common name k)) false p (λ f. f) (λ g. absurd (cc))

  pub within_only : ((x y : Item) → IsTrue (paired m x y) → IsTrue (paired n x y)) → IsTrue (within m n)
  within_only h = below_from nat_cmp_total exact_unsigned set_order m n one.map (λ q.
      inside_from_items (set_of m one.map q) (set_of n other.map q) (λ i k. first_at q i k (h (Dummy q) i (either_first (has_item (of_dummy m q) i) (leads m i (Dummy q)) k))))

pub same_pairs : (m n : List (ℕ × List Bound)) → IsPairs m → IsPairs n → ((x y : Item) → paired m x y ≡ paired n x y) → m ≡ n
same_pairs m n one other h =
    (map_order nat_cmp_total exact_unsigned set_order).antisymmetric m n one.map other.map
    (within_only m n one other (λ x y k. sym (h x y) ∙ k))
    (within_only n m other one (λ x y k. h x y ∙ k))

-- ---- the pairs of which both members are in a set

apart_by : (q d : ℕ) → is_eq (nat_cmp q d) ≡ false → q ≢ d
apart_by q d e h = differ (sym (ap is_eq (tied_itself nat_cmp_total d)) ∙ ap (λ k. is_eq (nat_cmp k d)) (sym h) ∙ e)
  where
    differ : {G : Type 0} → true ≡ false → G
    differ e = absurd (cc)

equal_is : (q d : ℕ) (r : Ordering) → nat_cmp q d ≡ r → is_eq r ≡ true → q ≡ d
equal_is q d Less h e = absurd (cc)
equal_is q d Equal h e = exact_unsigned q d h
equal_is q d Greater h e = absurd (cc)

module _ (old new : List (ℕ × List Bound)) (own with cut : List Bound) (d : ℕ)
    (was : IsMap nat_cmp IsSet [] old) (other : IsSet cut)
    (joins : IsJoin IsSet leq (of_dummy old d) cut (of_dummy new d))
    (others : (q : ℕ) → q ≢ d → get nat_cmp new q ≡ get nat_cmp old q)
    (held : has_item own (Dummy d) ≡ true)
    (cuts : (i : Item) → has_item cut i ≡ both (has_item with i) (has_item own i)) where
  pub kept_by : (q : ℕ) (i : Item) → has_item (of_dummy new q) i ≡ either (has_item (of_dummy old q) i) (keeps own d with q i)
  kept_by q i = tested (is_eq (nat_cmp q d))
      (λ e.
      let same : q ≡ d = equal_is q d (nat_cmp q d) refl e in
      ap (λ k. has_item (of_dummy new k) i) same ∙ joined_has (set_of old was d) other joins i
      ∙ ap (either (has_item (of_dummy old d) i)) (cuts i)
      ∙ ap (λ k. either (has_item (of_dummy old k) i) (both (has_item with i) (has_item own i))) (sym same)
      ∙ ap (λ b. either (has_item (of_dummy old q) i) (both (has_item with i) (both b (has_item own i)))) (sym held)
      ∙ ap (λ b. either (has_item (of_dummy old q) i) (both (both b (has_item with i)) (both (has_item own (Dummy d)) (has_item own i)))) (sym e))
      (λ e. ap (λ r. has_item (unwrap_or r []) i) (others q (apart_by q d e)) ∙ sym (either_none (has_item (of_dummy old q) i)) ∙ ap (λ b. either (has_item (of_dummy old q) i) (both (both b (has_item with i)) (both (has_item own (Dummy d)) (has_item own i)))) (sym e))

both_parts : (s t : Bool) → both s t ≡ true → (s ≡ true) × (t ≡ true)
both_parts true t e = (refl, e)
both_parts false t e = absurd (cc)

both_turned : (s t : Bool) → both s t ≡ both t s
both_turned true true = refl
both_turned true false = refl
both_turned false true = refl
both_turned false false = refl

together : (a b s : Bool) → either (both a s) (both b s) ≡ both (either a b) s
together true true true = refl
together true true false = refl
together true false true = refl
together true false false = refl
together false b s = refl

module _ (m kept : List (ℕ × List Bound)) (own : List Bound) (pairs : IsPairs m) (map : IsMap nat_cmp IsSet [] kept)
    (made : (q : ℕ) (i : Item) → has_item (of_dummy kept q) i ≡ any_keeps own m q i) where
  at_dummy : (q : ℕ) (i : Item) → has_item (of_dummy kept q) i ≡ both (has_item (of_dummy m q) i) (both (has_item own (Dummy q)) (has_item own i))
  at_dummy q i = made q i ∙ any_keeps_is own m q i ∙ ap (λ b. both b (both (has_item own (Dummy q)) (has_item own i))) (any_at_is m q i pairs.map.ordered)

  pub restricted_pairs : IsPairs kept
  restricted_pairs = record {
    map = map;
    following = λ q i h. pairs.following q i (both_parts (has_item (of_dummy m q) i) (both (has_item own (Dummy q)) (has_item own i)) (sym (at_dummy q i) ∙ h)).0;
  }

  leads_kept : (x y : Item) → leads kept x y ≡ both (leads m x y) (both (has_item own x) (has_item own y))
  leads_kept (Dummy q) y = at_dummy q y
  leads_kept (Local k) y = refl
  leads_kept (Common name k) y = refl

  pub restricted_paired : (x y : Item) → paired kept x y ≡ both (paired m x y) (both (has_item own x) (has_item own y))
  restricted_paired x y =
      ap (λ b. either b (leads kept y x)) (leads_kept x y)
      ∙ ap (either (both (leads m x y) (both (has_item own x) (has_item own y)))) (leads_kept y x ∙ ap (both (leads m y x)) (both_turned (has_item own y) (has_item own x)))
      ∙ together (leads m x y) (leads m y x) (both (has_item own x) (has_item own y))
