-- The items that a relation joins to a member of a set, by its entries.
use Rattle.std.proofs.Common.{◌≡◌, ℕ, Bool, true, false, not, IsTrue, List, [], ◌∷◌, Some, nat_eq, refl, ap, sym, ◌∙◌, cond, subst, inl, inr}
use Rattle.std.specs.declared.cmp.Ordering.{Ordering}
use Rattle.std.specs.declared.cmp.Ordering.TheVariants.{Less, Equal, Greater}
use Rattle.std.specs.Ordering.{is_eq, nat_cmp}
use Rattle.std.proofs.lemmas.Bool.{eqb-true, eq-eqb, and_parts}
use Rattle.std.proofs.lemmas.Cmp.{tied_itself, nat_cmp_total}
use Rattle.std.proofs.lemmas.Map.Lookups.{exact_unsigned}
use Rattle.f77_tree.specs.declared.unit.Item.{Item}
use Rattle.f77_tree.specs.declared.unit.Item.TheVariants.{Dummy, Local, Common}
use Rattle.rn_lattice.specs.Maps.{IsMap}
use Rattle.iv_set.specs.declared.bound.Bound.{Bound}
use Rattle.iv_set.specs.Toggles.{either, both, is_empty, head}
use Rattle.iv_set.specs.ToggleLaws.{begun}
use Rattle.iv_set.specs.Places.{total, place_of, by_items}
use Rattle.iv_set.specs.Sets.{has, has_item, made, meets, IsSet, made_has, made_set, both_rule}
use Rattle.item_maps.specs.Relation.{of_dummy, leads, paired, is_dummy, IsJoinedBy}
use Rattle.item_maps.specs.Passes.{any_at, brings, any_brings}
use Rattle.item_maps.proofs.Entries.{any_at_is, AllSets, all_sets}

abbrev any_leads : List (ℕ × List Bound) → Item → Item → Bool
any_leads m (Dummy d) i = any_at m d i
any_leads m (Local k) i = false
any_leads m (Common name k) i = false

any_leads_is : (m : List (ℕ × List Bound)) (x y : Item) → IsMap nat_cmp IsSet [] m → any_leads m x y ≡ leads m x y
any_leads_is m (Dummy d) y h = any_at_is m d y h.ordered
any_leads_is m (Local k) y h = refl
any_leads_is m (Common name k) y h = refl

one_of : (s t : Bool) {G : Type 0} → either s t ≡ true → (s ≡ true → G) → (t ≡ true → G) → G
one_of true t e f g = f refl
one_of false t e f g = g e

either_first : (s t : Bool) → s ≡ true → either s t ≡ true
either_first true t e = refl
either_first false t e = absurd (cc)

either_second : (s t : Bool) → t ≡ true → either s t ≡ true
either_second true t e = refl
either_second false t e = e

both_parts : (s t : Bool) → both s t ≡ true → (s ≡ true) × (t ≡ true)
both_parts true t e = (refl, e)
both_parts false t e = absurd (cc)

both_from : (s t : Bool) → s ≡ true → t ≡ true → both s t ≡ true
both_from true t e f = f
both_from false t e f = absurd (cc)

-- ---- sets that meet

not_empty : (l : List Bound) → not (is_empty l) ≡ true → (p : Bound) × head l ≡ Some p
not_empty [] e = absurd (cc)
not_empty (p ∷ ps) e = (p, refl)

empty_has : (l : List Bound) (p : Bound) → has l p ≡ true → not (is_empty l) ≡ true
empty_has [] p e = absurd (cc)
empty_has (q ∷ ps) p e = refl

pub meets_at : {ps qs : List Bound} → IsSet ps → IsSet qs → (i : Item) → IsTrue (has_item ps i) → IsTrue (has_item qs i) → IsTrue (meets ps qs)
meets_at {ps} {qs} one other i h k = empty_has (made both ps qs) (place_of i) (made_has both_rule one other (place_of i) ∙ both_from (has_item ps i) (has_item qs i) h k)

meets_by : {ps qs : List Bound} → IsSet ps → IsSet qs → (p : Bound) → has (made both ps qs) p ≡ true → (j : Item) × (IsTrue (has_item ps j) × IsTrue (has_item qs j))
meets_by {ps} {qs} one other = by_items (λ p. has (made both ps qs) p ≡ true → (j : Item) × (IsTrue (has_item ps j) × IsTrue (has_item qs j)))
    (λ i e. (i, both_parts (has_item ps i) (has_item qs i) (sym (made_has both_rule one other (place_of i)) ∙ e)))

head_has : (l : List Bound) (p : Bound) → IsSet l → head l ≡ Some p → has l p ≡ true
head_has [] p set e = absurd (cc)
head_has (x ∷ xs) p set e =
    let same : x ≡ p = cc in
    subst (λ q. has (x ∷ xs) q ≡ true) same (begun total false x xs (and_parts _ _ set.rising).0)

pub meets_some : {ps qs : List Bound} → IsSet ps → IsSet qs → IsTrue (meets ps qs) → (j : Item) × (IsTrue (has_item ps j) × IsTrue (has_item qs j))
meets_some {ps} {qs} one other e =
    let first = not_empty (made both ps qs) e in
    meets_by one other first.0 (head_has (made both ps qs) first.0 (made_set both_rule one other) first.1)

-- ---- from the entries to the relation

at_head : (e : ℕ × List Bound) (es : List (ℕ × List Bound)) (i : Item) → has_item e.1 i ≡ true → any_at (e ∷ es) e.0 i ≡ true
at_head e es i h = either_first _ _ (both_from _ _ (ap is_eq (tied_itself nat_cmp_total e.0)) h)

by_dummy : (m : List (ℕ × List Bound)) (d : ℕ) (i j : Item) → is_dummy d i ≡ true → any_at m d j ≡ true → any_leads m i j ≡ true
by_dummy m d (Dummy q) j e h = ap (λ k. any_at m k j) (eqb-true q d e) ∙ h
by_dummy m d (Local k) j e h = absurd (cc)
by_dummy m d (Common name k) j e h = absurd (cc)

wider : (e : ℕ × List Bound) (es : List (ℕ × List Bound)) (x y : Item) → any_leads es x y ≡ true → any_leads (e ∷ es) x y ≡ true
wider e es (Dummy d) y h = either_second _ _ h
wider e es (Local k) y h = h
wider e es (Common name k) y h = h

wider_both : (e : ℕ × List Bound) (es : List (ℕ × List Bound)) (x y : Item) → either (any_leads es x y) (any_leads es y x) ≡ true → either (any_leads (e ∷ es) x y) (any_leads (e ∷ es) y x) ≡ true
wider_both e es x y h = one_of (any_leads es x y) (any_leads es y x) h
    (λ f. either_first _ _ (wider e es x y f))
    (λ g. either_second _ _ (wider e es y x g))

abbrev Brought : List Bound → List (ℕ × List Bound) → Item → Type 0
Brought set m i = (j : Item) × (IsTrue (has_item set j) × IsTrue (either (any_leads m j i) (any_leads m i j)))

brought : (set : List Bound) (m : List (ℕ × List Bound)) (i : Item) → IsSet set → AllSets m → any_brings set m i ≡ true → Brought set m i
brought set [] i one sets h = absurd (cc)
brought set (e ∷ es) i one sets h = one_of (brings set e.0 e.1 i) (any_brings set es i) h
    (λ b. one_of (both (has_item set (Dummy e.0)) (has_item e.1 i)) (both (is_dummy e.0 i) (meets set e.1)) b
    (λ f.
    let k = both_parts (has_item set (Dummy e.0)) (has_item e.1 i) f in
    (Dummy e.0, (k.0, either_first _ _ (at_head e es i k.1))))
    (λ f.
    let k = both_parts (is_dummy e.0 i) (meets set e.1) f in
    let j = meets_some one sets.0 k.1 in
    (j.0, (j.1.0, either_second _ _ (by_dummy (e ∷ es) e.0 i j.0 k.0 (at_head e es j.0 j.1.1))))))
    (λ r.
    let rest = brought set es i one sets.1 r in
    (rest.0, (rest.1.0, wider_both e es rest.0 i rest.1.1)))

-- ---- and back

eq_at : (d k : ℕ) → is_eq (nat_cmp d k) ≡ true → d ≡ k
eq_at d k e = exact_unsigned d k (equal_is (nat_cmp d k) e)
  where
    equal_is : (r : Ordering) → is_eq r ≡ true → r ≡ Equal
    equal_is Less h = absurd (cc)
    equal_is Equal h = refl
    equal_is Greater h = absurd (cc)

brings_first : (set : List Bound) (m : List (ℕ × List Bound)) (d : ℕ) (i : Item) → any_at m d i ≡ true → has_item set (Dummy d) ≡ true → any_brings set m i ≡ true
brings_first set [] d i h k = absurd (cc)
brings_first set (e ∷ es) d i h k = one_of (both (is_eq (nat_cmp d e.0)) (has_item e.1 i)) (any_at es d i) h
    (λ f.
    let p = both_parts (is_eq (nat_cmp d e.0)) (has_item e.1 i) f in
    either_first _ _ (either_first _ _ (both_from _ _ (ap (λ q. has_item set (Dummy q)) (sym (eq_at d e.0 p.0)) ∙ k) p.1)))
    (λ r. either_second _ _ (brings_first set es d i r k))

brings_second : (set : List Bound) (m : List (ℕ × List Bound)) (d : ℕ) (j : Item) → IsSet set → AllSets m → any_at m d j ≡ true → has_item set j ≡ true → any_brings set m (Dummy d) ≡ true
brings_second set [] d j one sets h k = absurd (cc)
brings_second set (e ∷ es) d j one sets h k = one_of (both (is_eq (nat_cmp d e.0)) (has_item e.1 j)) (any_at es d j) h
    (λ f.
    let p = both_parts (is_eq (nat_cmp d e.0)) (has_item e.1 j) f in
    either_first _ _ (either_second _ _ (both_from _ _ (eq-eqb d e.0 (eq_at d e.0 p.0)) (meets_at one sets.0 j k p.1))))
    (λ r. either_second _ _ (brings_second set es d j one sets.1 r k))

first_leads : (set : List Bound) (m : List (ℕ × List Bound)) (j i : Item) → any_leads m j i ≡ true → has_item set j ≡ true → any_brings set m i ≡ true
first_leads set m (Dummy d) i h k = brings_first set m d i h k
first_leads set m (Local n) i h k = absurd (cc)
first_leads set m (Common name n) i h k = absurd (cc)

second_leads : (set : List Bound) (m : List (ℕ × List Bound)) (i j : Item) → IsSet set → AllSets m → any_leads m i j ≡ true → has_item set j ≡ true → any_brings set m i ≡ true
second_leads set m (Dummy d) j one sets h k = brings_second set m d j one sets h k
second_leads set m (Local n) j one sets h k = absurd (cc)
second_leads set m (Common name n) j one sets h k = absurd (cc)

-- what the entries bring is what the relation joins
pub joined_by : (m : List (ℕ × List Bound)) (set all : List Bound) → IsMap nat_cmp IsSet [] m → IsSet set → ((i : Item) → has_item all i ≡ either (has_item set i) (any_brings set m i)) → IsJoinedBy m set all
joined_by m set all hm one made = record {
  kept = λ i h. made i ∙ either_first _ _ h;
  joined = λ i j h p. made i ∙ either_second _ _ (one_of (leads m j i) (leads m i j) p
      (λ f. first_leads set m j i (any_leads_is m j i hm ∙ f) h)
      (λ g. second_leads set m i j one (all_sets m hm) (any_leads_is m i j hm ∙ g) h));
  only = λ i h. one_of (has_item set i) (any_brings set m i) (sym (made i) ∙ h)
      (λ f. inl f)
      (λ g.
      let k = brought set m i one (all_sets m hm) g in
      inr (k.0, k.1.0, sym (ap (λ b. either b (any_leads m i k.0)) (any_leads_is m k.0 i hm) ∙ ap (either (leads m k.0 i)) (any_leads_is m i k.0 hm)) ∙ k.1.1));
}
