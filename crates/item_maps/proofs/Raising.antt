-- Pairs that are added to a relation.
use Rattle.std.proofs.Common.{◌≡◌, ◌≢◌, ℕ, ◌+◌, ◌<◌, ◌≤◌, Bool, true, false, not, ◌&&◌, IsTrue, List, [], ◌∷◌, Some, None, unwrap_or, nat_eq, nat_le, nat_lt, refl, ap, sym, ◌∙◌, subst, arith}
use Rattle.std.specs.declared.cmp.Ordering.{Ordering}
use Rattle.std.specs.declared.cmp.Ordering.TheVariants.{Less, Equal, Greater}
use Rattle.std.specs.Ordering.{MatchOrdering, is_gt, nat_cmp}
use Rattle.std.proofs.lemmas.Bool.{eqb-true, eq-eqb}
use Rattle.std.proofs.lemmas.Cmp.{ranked, nat_cmp_total}
use Rattle.std.proofs.lemmas.Map.Lookups.{exact_unsigned}
use Rattle.f77_tree.specs.declared.unit.Item.{Item}
use Rattle.f77_tree.specs.declared.unit.Item.TheVariants.{Dummy, Local, Common}
use Rattle.rn_lattice.specs.Order.{IsJoin}
use Rattle.rn_lattice.specs.Maps.{get, value_at, IsMap}
use Rattle.rn_lattice.specs.MapOrders.{empty_map}
use Rattle.iv_set.specs.declared.bound.Bound.{Bound}
use Rattle.iv_set.specs.Toggles.{either, both}
use Rattle.iv_set.specs.ToggleLaws.{tested}
use Rattle.iv_set.specs.Places.{cmp, place_of, between, IsRun}
use Rattle.iv_set.specs.Sets.{has_item, leq, made, IsSet, made_set, made_has, either_rule, union_joins, set_order}
use Rattle.item_maps.specs.Relation.{of_dummy, leads, paired, follows, is_dummy, adds, IsPairs}
use Rattle.item_maps.specs.Passes.{in_dummies, adds_up_to, are}
use Rattle.item_maps.proofs.Entries.{either_none}

-- a join of sets is their union
pub joined_has : {ps qs rs : List Bound} → IsSet ps → IsSet qs → IsJoin IsSet leq ps qs rs → (i : Item) → has_item rs i ≡ either (has_item ps i) (has_item qs i)
joined_has {ps} {qs} {rs} one other j i =
    let u = union_joins one other in
    let same : rs ≡ made either ps qs = set_order.antisymmetric rs (made either ps qs) j.value u.value (j.least (made either ps qs) u.value u.above_first u.above_second) (u.least rs j.value j.above_first j.above_second) in
    ap (λ l. has_item l i) same ∙ made_has either_rule one other (place_of i)

not_same : (q d : ℕ) → nat_eq q d ≡ false → q ≢ d
not_same q d e h = differ (sym (eq-eqb q d h) ∙ e)
  where
    differ : {G : Type 0} → true ≡ false → G
    differ e = absurd (cc)

module _ (old new : List (ℕ × List Bound)) (d : ℕ) (set : List Bound)
    (was : IsMap nat_cmp IsSet [] old) (one : IsSet (of_dummy old d)) (other : IsSet set)
    (joins : IsJoin IsSet leq (of_dummy old d) set (of_dummy new d))
    (others : (q : ℕ) → q ≢ d → get nat_cmp new q ≡ get nat_cmp old q) where
  at_other : (q : ℕ) → nat_eq q d ≡ false → of_dummy new q ≡ of_dummy old q
  at_other q e = ap (λ r. unwrap_or r []) (others q (not_same q d e))

  module _ (from to : Item) (run : (i : Item) → has_item set i ≡ between from to i) where
    pub raised : (x y : Item) → leads new x y ≡ either (leads old x y) (adds d from to x y)
    raised (Dummy q) y = tested (nat_eq q d)
        (λ e.
        let same : q ≡ d = eqb-true q d e in
        ap (λ k. has_item (of_dummy new k) y) same ∙ joined_has one other joins y
        ∙ ap (either (has_item (of_dummy old d) y)) (run y)
        ∙ ap (λ k. either (has_item (of_dummy old k) y) (between from to y)) (sym same)
        ∙ ap (λ b. either (has_item (of_dummy old q) y) (both b (between from to y))) (sym e))
        (λ e. ap (λ l. has_item l y) (at_other q e) ∙ sym (either_none (has_item (of_dummy old q) y)) ∙ ap (λ b. either (has_item (of_dummy old q) y) (both b (between from to y))) (sym e))
    raised (Local k) y = refl
    raised (Common name k) y = refl

    follows_by : (q : ℕ) (i : Item) → ((j : Item) → IsTrue (has_item (of_dummy old q) j) → IsTrue (follows q j)) → ((j : Item) → IsTrue (between from to j) → IsTrue (follows d j)) → (s : Bool) → nat_eq q d ≡ s → either (has_item (of_dummy old q) i) (both s (between from to i)) ≡ true → IsTrue (follows q i)
    follows_by q i f g true e h = one_of (has_item (of_dummy old q) i) (between from to i) h (f i) (λ k. subst (λ r. IsTrue (follows r i)) (sym (eqb-true q d e)) (g i k))
      where
        one_of : (s t : Bool) {G : Type 0} → either s t ≡ true → (s ≡ true → G) → (t ≡ true → G) → G
        one_of true t e f g = f refl
        one_of false t e f g = g e
    follows_by q i f g false e h = f i (sym (either_none (has_item (of_dummy old q) i)) ∙ h)

    pub raised_pairs : IsPairs old → IsMap nat_cmp IsSet [] new → ((j : Item) → IsTrue (between from to j) → IsTrue (follows d j)) → IsPairs new
    raised_pairs pairs map ahead = record {
      map = map;
      following = λ q i h. follows_by q i (pairs.following q) ahead (nat_eq q d) refl (sym (raised (Dummy q) i) ∙ h);
    }

pub empty_pairs : IsPairs []
empty_pairs = record { map = empty_map nat_cmp_total exact_unsigned set_order; following = λ d i h. absurd (cc) }

-- ---- both ways round

crossed : (a b c d : Bool) → either (either a c) (either b d) ≡ either (either a b) (either c d)
crossed true b c d = refl
crossed false true true d = refl
crossed false true false d = refl
crossed false false c d = refl

pub both_ways : (old new : List (ℕ × List Bound)) (a : Item → Item → Bool) → ((x y : Item) → leads new x y ≡ either (leads old x y) (a x y)) → (x y : Item) → paired new x y ≡ either (paired old x y) (either (a x y) (a y x))
both_ways old new a h x y = ap (λ b. either b (leads new y x)) (h x y) ∙ ap (either (either (leads old x y) (a x y))) (h y x) ∙ crossed (leads old x y) (leads old y x) (a x y) (a y x)

alike : (a b : Bool) → (a ≡ true → b ≡ true) → (b ≡ true → a ≡ true) → a ≡ b
alike true b f g = sym (f refl)
alike false true f g = g refl
alike false false f g = refl

one_by : (m n : ℕ) (r s : Ordering) → MatchOrdering r (m < n) (m ≡ n) (n < m) → MatchOrdering s (n < m) (n ≡ m) (m < n) → not (is_gt r) && not (is_gt s) ≡ nat_eq n m
one_by m n Less Less h k = absurd (omega arith)
one_by m n Less Equal h k = absurd (omega arith)
one_by m n Less Greater h k = alike false (nat_eq n m) (λ e. absurd (cc)) (λ e. let same = eqb-true n m e in absurd (omega arith))
one_by m n Equal Less h k = absurd (omega arith)
one_by m n Equal Equal h k = sym (eq-eqb n m k)
one_by m n Equal Greater h k = absurd (omega arith)
one_by m n Greater Less h k = alike false (nat_eq n m) (λ e. absurd (cc)) (λ e. let same = eqb-true n m e in absurd (omega arith))
one_by m n Greater Equal h k = absurd (omega arith)
one_by m n Greater Greater h k = absurd (omega arith)

between_one : (e : ℕ) (y : Item) → between (Dummy e) (Dummy e) y ≡ is_dummy e y
between_one e (Dummy q) = one_by e q (nat_cmp e q) (nat_cmp q e) (ranked e q _ refl) (ranked q e _ refl)
between_one e (Local k) = refl
between_one e (Common name k) = refl

both_turned : (s t : Bool) → both s t ≡ both t s
both_turned true true = refl
both_turned true false = refl
both_turned false true = refl
both_turned false false = refl

either_turned : (s t : Bool) → either s t ≡ either t s
either_turned true true = refl
either_turned true false = refl
either_turned false true = refl
either_turned false false = refl

adds_one : (d e : ℕ) (x y : Item) → adds d (Dummy e) (Dummy e) x y ≡ are d e x y
adds_one d e x y = ap (both (is_dummy d x)) (between_one e y)

pub adds_two : (d e : ℕ) (x y : Item) → either (adds d (Dummy e) (Dummy e) x y) (adds d (Dummy e) (Dummy e) y x) ≡ either (are d e x y) (are d e y x)
adds_two d e x y = ap (λ b. either b (adds d (Dummy e) (Dummy e) y x)) (adds_one d e x y) ∙ ap (either (are d e x y)) (adds_one d e y x)

pub adds_two_turned : (d e : ℕ) (x y : Item) → either (adds e (Dummy d) (Dummy d) x y) (adds e (Dummy d) (Dummy d) y x) ≡ either (are d e x y) (are d e y x)
adds_two_turned d e x y =
    adds_two e d x y
    ∙ ap (λ b. either b (are e d y x)) (both_turned (is_dummy e x) (is_dummy d y))
    ∙ ap (either (are d e y x)) (both_turned (is_dummy e y) (is_dummy d x))
    ∙ either_turned (are d e y x) (are d e x y)

pub follows_one : (d e : ℕ) → d ≤ e → (i : Item) → IsTrue (between (Dummy e) (Dummy e) i) → IsTrue (follows d i)
follows_one d e b i h = by_item i (sym (between_one e i) ∙ h)
  where
    by_item : (i : Item) → is_dummy e i ≡ true → IsTrue (follows d i)
    by_item (Dummy q) k = let same = eqb-true q e k in grind arith
    by_item (Local n) k = refl
    by_item (Common name n) k = refl

-- ---- a run of dummies, one by one

pub none_up_to : (a : ℕ) (y : Item) → in_dummies a a y ≡ false
none_up_to a (Dummy q) = alike (both (nat_le a q) (nat_lt q a)) false (λ e. impossible (nat_le a q) (nat_lt q a) refl refl e) (λ e. absurd (cc))
  where
    impossible : (s t : Bool) → nat_le a q ≡ s → nat_lt q a ≡ t → both s t ≡ true → false ≡ true
    impossible true true h k e = grind arith
    impossible true false h k e = absurd (cc)
    impossible false t h k e = absurd (cc)
none_up_to a (Local k) = refl
none_up_to a (Common name k) = refl

more_by : (a k q : ℕ) (l s t e : Bool) → a ≤ k → nat_le a q ≡ l → nat_lt q (k + 1) ≡ s → nat_lt q k ≡ t → nat_eq q k ≡ e → both l s ≡ either (both l t) e
more_by a k q true true true e b h i j f = refl
more_by a k q true true false true b h i j f = refl
more_by a k q true true false false b h i j f = grind arith
more_by a k q true false true e b h i j f = grind arith
more_by a k q true false false true b h i j f = grind arith
more_by a k q true false false false b h i j f = refl
more_by a k q false s t true b h i j f = grind arith
more_by a k q false s t false b h i j f = refl

pub one_more : (a k : ℕ) → a ≤ k → (y : Item) → in_dummies a (k + 1) y ≡ either (in_dummies a k y) (is_dummy k y)
one_more a k b (Dummy q) = more_by a k q (nat_le a q) (nat_lt q (k + 1)) (nat_lt q k) (nat_eq q k) b refl refl refl refl
one_more a k b (Local n) = refl
one_more a k b (Common name n) = refl

le_by : (m n : ℕ) (r : Ordering) → MatchOrdering r (m < n) (m ≡ n) (n < m) → nat_le m n ≡ not (is_gt r)
le_by m n Less h = grind arith
le_by m n Equal h = grind arith
le_by m n Greater h = grind arith

lt_by : (m n : ℕ) (r : Ordering) → MatchOrdering r (m < n) (m ≡ n) (n < m) → nat_lt m (n + 1) ≡ not (is_gt r)
lt_by m n Less h = grind arith
lt_by m n Equal h = grind arith
lt_by m n Greater h = grind arith

both_is : (s t : Bool) → both s t ≡ (s && t)
both_is true t = refl
both_is false t = refl

pub whole_run : (a b : ℕ) (y : Item) → in_dummies a (b + 1) y ≡ between (Dummy a) (Dummy b) y
whole_run a b (Dummy q) = ap (λ s. both s (nat_lt q (b + 1))) (le_by a q (nat_cmp a q) (ranked a q _ refl)) ∙ ap (both (not (is_gt (nat_cmp a q)))) (lt_by q b (nat_cmp q b) (ranked q b _ refl)) ∙ both_is (not (is_gt (nat_cmp a q))) (not (is_gt (nat_cmp q b)))
whole_run a b (Local k) = refl
whole_run a b (Common name k) = refl

spread_both : (s t u : Bool) → both s (either t u) ≡ either (both s t) (both s u)
spread_both true t u = refl
spread_both false t u = refl

either_assoc : (a b c : Bool) → either (either a b) c ≡ either a (either b c)
either_assoc true b c = refl
either_assoc false b c = refl

pub up_to_starts : (p : Bool) (d a : ℕ) (x y : Item) → p ≡ either p (either (adds_up_to d a a x y) (adds_up_to d a a y x))
up_to_starts p d a x y = sym (ap (λ b. either p (either (both (is_dummy d x) b) (adds_up_to d a a y x))) (none_up_to a y) ∙ ap (λ b. either p (either (both (is_dummy d x) false) (both (is_dummy d y) b))) (none_up_to a x) ∙ off p (is_dummy d x) (is_dummy d y))
  where
    off : (p s t : Bool) → either p (either (both s false) (both t false)) ≡ p
    off true s t = refl
    off false true true = refl
    off false true false = refl
    off false false true = refl
    off false false false = refl

pub up_to_more : (p0 p1 p2 : Bool) (d a k : ℕ) (x y : Item) → a ≤ k → p1 ≡ either p0 (either (adds_up_to d a k x y) (adds_up_to d a k y x)) → p2 ≡ either p1 (either (are d k x y) (are d k y x)) → p2 ≡ either p0 (either (adds_up_to d a (k + 1) x y) (adds_up_to d a (k + 1) y x))
up_to_more p0 p1 p2 d a k x y b h g =
    g ∙ ap (λ s. either s (either (are d k x y) (are d k y x))) h
    ∙ either_assoc p0 (either (adds_up_to d a k x y) (adds_up_to d a k y x)) (either (are d k x y) (are d k y x))
    ∙ ap (either p0) (sym (crossed (adds_up_to d a k x y) (adds_up_to d a k y x) (are d k x y) (are d k y x)))
    ∙ ap (either p0) (ap (λ s. either s (either (adds_up_to d a k y x) (are d k y x))) (sym (one x y)) ∙ ap (either (adds_up_to d a (k + 1) x y)) (sym (one y x)))
  where
    one : (x y : Item) → adds_up_to d a (k + 1) x y ≡ either (adds_up_to d a k x y) (are d k x y)
    one x y = ap (both (is_dummy d x)) (one_more a k b y) ∙ spread_both (is_dummy d x) (in_dummies a k y) (is_dummy k y)

pub up_to_ends : (p : Bool) (d a b : ℕ) (x y : Item) → either p (either (adds_up_to d a (b + 1) x y) (adds_up_to d a (b + 1) y x)) ≡ either p (either (adds d (Dummy a) (Dummy b) x y) (adds d (Dummy a) (Dummy b) y x))
up_to_ends p d a b x y = ap (λ s. either p (either (both (is_dummy d x) s) (adds_up_to d a (b + 1) y x))) (whole_run a b y) ∙ ap (λ s. either p (either (adds d (Dummy a) (Dummy b) x y) (both (is_dummy d y) s))) (whole_run a b x)

-- a run that begins with no dummy has none
pub follows_local : (d n : ℕ) (to i : Item) → IsTrue (between (Local n) to i) → IsTrue (follows d i)
follows_local d n to (Dummy e) h = absurd (cc)
follows_local d n to (Local k) h = refl
follows_local d n to (Common name k) h = refl

pub follows_common : (d n : ℕ) (block : List ℕ) (to i : Item) → IsTrue (between (Common block n) to i) → IsTrue (follows d i)
follows_common d n block to (Dummy e) h = absurd (cc)
follows_common d n block to (Local k) h = refl
follows_common d n block to (Common name k) h = refl
