-- What a union is where the second set begins at the end of the first.
use Rattle.std.proofs.Common.{◌≡◌, ℕ, ◌+◌, ◌<◌, ◌≤◌, ◌^◌, Bool, true, false, not, ◌&&◌, IsTrue, IsFalse, List, [], ◌∷◌, ◌++◌, refl, ap, sym, ◌∙◌, cond, nat_lt, arith, subst}
use Rattle.std.specs.declared.cmp.Ordering.{Ordering}
use Rattle.std.specs.declared.cmp.Ordering.TheVariants.{Less, Equal, Greater}
use Rattle.std.specs.Ordering.{MatchOrdering, ordering_then, ordering_reverse, nat_cmp, is_gt, is_lt, is_eq}
use Rattle.std.specs.Cmp.{IsTotalOrder}
use Rattle.std.proofs.lemmas.Cmp.{ranked, tied_itself}
use Rattle.std.proofs.lemmas.Bool.{and_parts, and_from}
use Rattle.std.proofs.lemmas.List.{append-nil}
use Rattle.f77_tree.specs.declared.unit.Item.{Item}
use Rattle.iv_set.specs.declared.bound.Bound.{Bound}
use Rattle.iv_set.specs.Toggles.{either, after, begins_above, rises, walk, emit, by_order, ends_by}
use Rattle.iv_set.specs.ToggleLaws.{lt_is, gt_is, less_turned, greater_turned}
use Rattle.iv_set.specs.Places.{cmp, total, exact, area_cmp, area_total, place_of, next_place, is_item, run}
use Rattle.iv_set.specs.Sets.{has, made, IsSet}
use Rattle.iv_set.specs.Walks.{stretched}

-- whether the last point is one that turns membership off, where before the list it is s
abbrev turned : {P : Type 0} → Bool → List P → Bool
turned s [] = s
turned s (p ∷ ps) = turned (not s) ps

abbrev all_below : {P : Type 0} → (P → P → Ordering) → P → List P → Bool
all_below cmp a [] = true
all_below cmp a (p ∷ ps) = is_lt (cmp p a) && all_below cmp a ps

pub ends_by_last : {P : Type 0} (test : P → Bool) (d : Bool) (ps : List P) (q : P) → ends_by test d (ps ++ q ∷ []) ≡ test q
ends_by_last test d [] q = refl
ends_by_last test d (p ∷ ps) q = ends_by_last test (test p) ps q

module _ {P : Type 0} {cmp : P → P → Ordering} (o : IsTotalOrder cmp) where
  -- where the last of a rising list stands below a point, all do
  ends_below_from : (a p : P) (ps : List P) → begins_above cmp p ps ≡ true → rises cmp ps ≡ true → ends_by (λ q. is_lt (cmp q a)) (is_lt (cmp p a)) ps ≡ true → is_lt (cmp p a) && all_below cmp a ps ≡ true
  ends_below_from a p [] b r e = and_from _ _ e refl
  ends_below_from a p (q ∷ qs) b r e =
      let k = and_parts _ _ r in
      let rest = ends_below_from a q qs k.0 k.1 e in
      and_from _ _ (ap is_lt (o.trans p q a (lt_is (cmp p q) b) (lt_is (cmp q a) (and_parts _ _ rest).0))) rest

  ends_below : (a : P) (ps : List P) → rises cmp ps ≡ true → ends_by (λ p. is_lt (cmp p a)) true ps ≡ true → all_below cmp a ps ≡ true
  ends_below a [] r e = refl
  ends_below a (p ∷ ps) r e = let k = and_parts _ _ r in ends_below_from a p ps k.0 k.1 e

  rises_below : (a : P) (ps : List P) → rises cmp (ps ++ a ∷ []) ≡ true → all_below cmp a ps ≡ true
  rises_below a [] r = refl
  rises_below a (p ∷ []) r = and_from _ _ (and_parts _ _ r).0 refl
  rises_below a (p ∷ q ∷ qs) r =
      let k = and_parts _ _ r in
      let rest = rises_below a (q ∷ qs) k.1 in
      and_from _ _ (ap is_lt (o.trans p q a (lt_is (cmp p q) k.0) (lt_is (cmp q a) (and_parts _ _ rest).0))) rest

by_less : {L : Type 0} (a b c : L) (r : Ordering) → is_lt r ≡ true → by_order r a b c ≡ a
by_less a b c Less e = refl
by_less a b c Equal e = absurd (cc)
by_less a b c Greater e = absurd (cc)

by_equal : {L : Type 0} (a b c : L) (r : Ordering) → r ≡ Equal → by_order r a b c ≡ b
by_equal a b c Less e = absurd (cc)
by_equal a b c Equal e = refl
by_equal a b c Greater e = absurd (cc)

turned_last : {P : Type 0} (s : Bool) (ps : List P) (q : P) → turned s (ps ++ q ∷ []) ≡ not (turned s ps)
turned_last s [] q = refl
turned_last s (p ∷ ps) q = turned_last (not s) ps q

module _ {P : Type 0} (cmp : P → P → Ordering) where
  -- a union up to where the second set begins
  union_up_to : (a : P) (rs zs : List P) (s : Bool) (ps : List P) → all_below cmp a ps ≡ true → walk cmp either s false (ps ++ zs) (a ∷ rs) ≡ ps ++ walk cmp either (turned s ps) false zs (a ∷ rs)
  union_up_to a rs zs s [] b = refl
  union_up_to a rs zs true (p ∷ ps) b = let k = and_parts _ _ b in by_less _ _ _ (cmp p a) k.0 ∙ ap (λ l. p ∷ l) (union_up_to a rs zs false ps k.1)
  union_up_to a rs zs false (p ∷ ps) b = let k = and_parts _ _ b in by_less _ _ _ (cmp p a) k.0 ∙ ap (λ l. p ∷ l) (union_up_to a rs zs true ps k.1)

  -- and behind the end of the first
  union_rest : (t : Bool) (ys : List P) → walk cmp either false t [] ys ≡ ys
  union_rest t [] = refl
  union_rest true (y ∷ ys) = ap (λ l. y ∷ l) (union_rest false ys)
  union_rest false (y ∷ ys) = ap (λ l. y ∷ l) (union_rest true ys)

  after_high : (x : P) (s : Bool) (ps : List P) → all_below cmp x ps ≡ true → after cmp s ps x ≡ turned s ps
  after_high x s [] b = refl
  after_high x s (p ∷ ps) b = let k = and_parts _ _ b in ap (λ r. cond (is_gt r) s (after cmp (not s) ps x)) (lt_is (cmp p x) k.0) ∙ after_high x (not s) ps k.1

abbrev last_from : {P : Type 0} → P → List P → P
last_from p [] = p
last_from p (q ∷ qs) = last_from q qs

ends_by_from : {P : Type 0} (test : P → Bool) (p : P) (ps : List P) → ends_by test (test p) ps ≡ test (last_from p ps)
ends_by_from test p [] = refl
ends_by_from test p (q ∷ qs) = ends_by_from test q qs

-- a place above the point at which there is no item
abbrev far : Bound → Bound
far q = record { area = q.area; offset = q.offset + 2 ^ 32 }

far_by : (n : ℕ) (r : Ordering) → MatchOrdering r (n < n + 2 ^ 32) (n ≡ n + 2 ^ 32) (n + 2 ^ 32 < n) → is_lt r ≡ true
far_by n Less h = refl
far_by n Equal h = absurd (omega arith)
far_by n Greater h = absurd (omega arith)

far_above : (q : Bound) → is_lt (cmp q (far q)) ≡ true
far_above q = ap (λ (r : Ordering). is_lt (ordering_then r (nat_cmp q.offset (q.offset + 2 ^ 32)))) (tied_itself area_total q.area) ∙ far_by q.offset _ (ranked q.offset (q.offset + 2 ^ 32) _ refl)

far_none : (n : ℕ) → nat_lt (n + 2 ^ 32) (2 ^ 32) ≡ true → false ≡ true
far_none n e = grind arith

on_far : (b : Bool) (n : ℕ) → (b ≡ true → nat_lt (n + 2 ^ 32) (2 ^ 32) ≡ true) → b ≡ false
on_far true n h = sym (far_none n (h refl))
on_far false n h = refl

-- a set ends: its last point turns membership off
turned_off : (ps : List Bound) → IsSet ps → turned false ps ≡ false
turned_off [] set = refl
turned_off (p ∷ ps) set =
    let q = last_from p ps in
    let below = ends_below total (far q) (p ∷ ps) set.rising (ends_by_from (λ r. is_lt (cmp r (far q))) p ps ∙ far_above q) in
    on_far (turned false (p ∷ ps)) q.offset (λ e. set.items (far q) (after_high cmp (far q) false (p ∷ ps) below ∙ e))

-- the union with a set that begins behind the end
pub behind : (ps rs : List Bound) (a : Bound) → IsSet ps → IsTrue (ends_by (λ p. is_lt (cmp p a)) true ps) → made either ps (a ∷ rs) ≡ ps ++ a ∷ rs
behind ps rs a set e =
    ap (λ l. walk cmp either false false l (a ∷ rs)) (sym (append-nil ps))
    ∙ union_up_to cmp a rs [] false ps (ends_below total a ps set.rising e)
    ∙ ap (λ s. ps ++ walk cmp either s false [] (a ∷ rs)) (turned_off ps set)
    ∙ ap (λ l. ps ++ l) (union_rest cmp false (a ∷ rs))

turned_on : (b : Bool) → not b ≡ false → b ≡ true
turned_on true e = refl
turned_on false e = absurd (cc)

eq_is : (r : Ordering) → is_eq r ≡ true → r ≡ Equal
eq_is Less e = absurd (cc)
eq_is Equal e = refl
eq_is Greater e = absurd (cc)

-- the union with a run that begins where the last one ends
touching_at : (ps : List Bound) (a b : Bound) → IsSet (ps ++ a ∷ []) → made either (ps ++ a ∷ []) (a ∷ b ∷ []) ≡ ps ++ b ∷ []
touching_at ps a b set =
    let on : turned false ps ≡ true = turned_on (turned false ps) (sym (turned_last false ps a) ∙ turned_off (ps ++ a ∷ []) set) in
    union_up_to cmp a (b ∷ []) (a ∷ []) false ps (rises_below total a ps set.rising)
    ∙ ap (λ s. ps ++ walk cmp either s false (a ∷ []) (a ∷ b ∷ [])) on
    ∙ ap (λ l. ps ++ l) (by_equal _ _ _ (cmp a a) (tied_itself total a))

abbrev init_from : {P : Type 0} → P → List P → List P
init_from p [] = []
init_from p (q ∷ qs) = p ∷ init_from q qs

apart_at : {P : Type 0} (p : P) (ps : List P) → init_from p ps ++ last_from p ps ∷ [] ≡ p ∷ ps
apart_at p [] = refl
apart_at p (q ∷ qs) = ap (λ l. p ∷ l) (apart_at q qs)

pub stretched_last : (ps : List Bound) (q e : Bound) → stretched (ps ++ q ∷ []) e ≡ ps ++ e ∷ []
stretched_last [] q e = refl
stretched_last (p ∷ []) q e = refl
stretched_last (p ∷ r ∷ rs) q e = ap (λ l. p ∷ l) (stretched_last (r ∷ rs) q e)

touching_last : (ps : List Bound) (q a b : Bound) → IsSet (ps ++ q ∷ []) → IsTrue (ends_by (λ p. is_eq (cmp p a)) false (ps ++ q ∷ [])) → made either (ps ++ q ∷ []) (a ∷ b ∷ []) ≡ stretched (ps ++ q ∷ []) b
touching_last ps q a b set e =
    let same : q ≡ a = exact q a (eq_is (cmp q a) (sym (ends_by_last (λ p. is_eq (cmp p a)) false ps q) ∙ e)) in
    ap (λ z. made either (ps ++ q ∷ []) (z ∷ b ∷ [])) (sym same) ∙ touching_at ps q b set ∙ sym (stretched_last ps q b)

pub touching : (ps : List Bound) (a b : Bound) → IsSet ps → IsTrue (ends_by (λ p. is_eq (cmp p a)) false ps) → made either ps (a ∷ b ∷ []) ≡ stretched ps b
touching [] a b set e = absurd (cc)
touching (p ∷ ps) a b set e =
    let k = apart_at p ps in
    subst (λ l. made either l (a ∷ b ∷ []) ≡ stretched l b) k (touching_last (init_from p ps) (last_from p ps) a b (subst IsSet (sym k) set) (subst (λ l. IsTrue (ends_by (λ q. is_eq (cmp q a)) false l)) (sym k) e))
