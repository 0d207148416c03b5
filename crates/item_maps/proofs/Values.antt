-- What the operations on maps say of the value of each item.
use Rattle.std.proofs.Common.{◌≡◌, Bool, true, false, not, ◌&&◌, IsTrue, IsFalse, List, [], ◌∷◌, Option, Some, None, refl, ap, sym, ◌∙◌, cond, subst, if◌then◌else◌}
use Rattle.std.specs.Ordering.{is_gt}
use Rattle.std.proofs.lemmas.Bool.{and_parts}
use Rattle.f77_tree.specs.declared.unit.Value.{Value}
use Rattle.f77_tree.specs.declared.unit.Item.{Item}
use Rattle.iv_set.specs.declared.bound.Bound.{Bound}
use Rattle.iv_set.specs.Toggles.{either}
use Rattle.iv_set.specs.Places.{cmp, place_of, is_item, by_items, between}
use Rattle.iv_set.specs.Sets.{has, has_item, IsSet}
use Rattle.iv_set.specs.Least.{IsLeast}
use Rattle.item_maps.specs.declared.step.Step.{Step}
use Rattle.item_maps.specs.Steps.{same, value_in, at, get, made, IsSteps, over, where_second, unlike}
use Rattle.item_maps.specs.StepLaws.{same_is, same_itself, begun, same_maps, made_value, made_steps, empty_steps, over_rule, where_rule, unlike_rule}
use Rattle.item_maps.specs.Walks.{has_value, first_place, is_empty, within, spread}
use Rattle.item_maps.proofs.Spreads.{given, spread_at, spread_steps}

-- ---- one value over a run, and values of a set alone

over_given : (v : Value) (s : Bool) (old : Option Value) → over old (given v s) ≡ (if s then Some v else old)
over_given v true old = refl
over_given v false old = refl

within_given : (v : Value) (s : Bool) (old : Option Value) → where_second old (given v s) ≡ (if s then old else None)
within_given v true old = refl
within_given v false old = refl

module _ {ss : List Step} (one : IsSteps ss) {ps : List Bound} (set : IsSet ps) (v : Value) where
  pub given_steps : IsSteps (made over ss (spread v false ps))
  given_steps = made_steps over_rule one (spread_steps v ps set)

  pub given_value : (i : Item) → get (made over ss (spread v false ps)) i ≡ (if has_item ps i then Some v else get ss i)
  given_value i = made_value over_rule one (spread_steps v ps set) (place_of i) ∙ ap (over (get ss i)) (spread_at v ps (place_of i)) ∙ over_given v (has_item ps i) (get ss i)

  pub restricted_steps : IsSteps (made where_second ss (spread v false ps))
  restricted_steps = made_steps where_rule one (spread_steps v ps set)

  pub restricted_value : (i : Item) → get (made where_second ss (spread v false ps)) i ≡ (if has_item ps i then get ss i else None)
  restricted_value i = made_value where_rule one (spread_steps v ps set) (place_of i) ∙ ap (where_second (get ss i)) (spread_at v ps (place_of i)) ∙ within_given v (has_item ps i) (get ss i)

-- ---- values that aren't the same

none_is : (ss : List Step) → is_empty ss ≡ true → ss ≡ []
none_is [] e = refl
none_is (s ∷ ss) e = absurd (cc)

alike_by : (b : Bool) (v : Value) → cond b None (Some v) ≡ None → b ≡ true
alike_by true v e = refl
alike_by false v e = absurd (cc)

still_none : (b : Bool) (v : Option Value) → v ≡ None → cond b None v ≡ None
still_none true v e = refl
still_none false v e = e

unlike_none : (v : Option Value) (w : Option Value) → ((u : Value) → v ≡ Some u → w ≡ Some u) → unlike v w ≡ None
unlike_none None w h = still_none (same None w) None refl
unlike_none (Some v) w h = ap (λ b. cond b None (Some v)) (ap (same (Some v)) (h v refl) ∙ same_itself (Some v))

module _ {ss ts : List Step} (one : IsSteps ss) (other : IsSteps ts) where
  pub inside : IsTrue (within ss ts) → (i : Item) (v : Value) → get ss i ≡ Some v → get ts i ≡ Some v
  inside e i v h =
      let nowhere : unlike (get ss i) (get ts i) ≡ None = sym (made_value unlike_rule one other (place_of i)) ∙ ap (λ l. at l (place_of i)) (none_is (made unlike ss ts) e) in
      sym (same_is (Some v) (get ts i) (alike_by (same (Some v) (get ts i)) v (ap (λ u. unlike u (get ts i)) (sym h) ∙ nowhere)))

  pub inside_only : ((i : Item) (v : Value) → get ss i ≡ Some v → get ts i ≡ Some v) → IsTrue (within ss ts)
  inside_only h = ap is_empty (same_maps (made unlike ss ts) [] (made_steps unlike_rule one other) empty_steps (λ i. made_value unlike_rule one other (place_of i) ∙ unlike_none (get ss i) (get ts i) (h i)))

-- ---- the least of them

value_of : (v : Option Value) → has_value v ≡ true → (u : Value) × v ≡ Some u
value_of None e = absurd (cc)
value_of (Some u) e = (u, refl)

turned : (v : Option Value) → not (same None v) ≡ true → has_value v ≡ true
turned None e = absurd (cc)
turned (Some v) e = refl

first_in : (l : List Step) (p : Bound) → IsSteps l → first_place l ≡ Some p → has_value (at l p) ≡ true
first_in [] p map e = absurd (cc)
first_in (s ∷ ss) p map e =
    let same_place : s.at ≡ p = cc in
    subst (λ q. has_value (at (s ∷ ss) q) ≡ true) same_place (ap has_value (begun None s ss (and_parts _ _ map.rising).0) ∙ turned s.value (and_parts _ _ map.changing).0)

not_behind : (b : Bool) (v : Option Value) → has_value (cond b None v) ≡ true → b ≡ false
not_behind true v e = absurd (cc)
not_behind false v e = refl

first_least : (l : List Step) (p q : Bound) → first_place l ≡ Some p → has_value (at l q) ≡ true → is_gt (cmp p q) ≡ false
first_least [] p q e h = absurd (cc)
first_least (s ∷ ss) p q e h =
    let same_place : s.at ≡ p = cc in
    subst (λ y. is_gt (cmp y q) ≡ false) same_place (not_behind (is_gt (cmp s.at q)) (value_in s.value ss q) h)

module _ {ss ts : List Step} (one : IsSteps ss) (other : IsSteps ts) (p : Bound) (e : Some p ≡ first_place (made unlike ss ts)) where
  pub unlike_is_item : IsTrue (is_item p)
  unlike_is_item =
      let map = made_steps unlike_rule one other in
      let value = value_of (at (made unlike ss ts) p) (first_in (made unlike ss ts) p map (sym e)) in
      map.items p value.0 value.1

  pub unlike_least : (i : Item) → place_of i ≡ p → IsLeast (λ i. has_value (unlike (get ss i) (get ts i))) i
  unlike_least i here = record {
    passes = subst (λ q. has_value (unlike (at ss q) (at ts q)) ≡ true) (sym here) (ap has_value (sym (made_value unlike_rule one other p)) ∙ first_in (made unlike ss ts) p (made_steps unlike_rule one other) (sym e));
    least = λ j h. subst (λ q. is_gt (cmp q (place_of j)) ≡ false) (sym here) (first_least (made unlike ss ts) p (place_of j) (sym e) (ap has_value (made_value unlike_rule one other (place_of j)) ∙ h));
  }
