-- A set whose members all have one value, as a map.
use Rattle.std.proofs.Common.{◌≡◌, Bool, true, false, not, ◌&&◌, IsTrue, List, [], ◌∷◌, Option, Some, None, refl, ap, sym, ◌∙◌, cond, if◌then◌else◌}
use Rattle.std.specs.Ordering.{is_lt, is_gt}
use Rattle.std.proofs.lemmas.Bool.{and_parts, and_from}
use Rattle.f77_tree.specs.declared.unit.Value.{Value}
use Rattle.f77_tree.specs.declared.unit.Item.{Item}
use Rattle.iv_set.specs.declared.bound.Bound.{Bound}
use Rattle.iv_set.specs.Toggles as toggles
use Rattle.iv_set.specs.Places.{cmp, place_of, is_item}
use Rattle.iv_set.specs.Sets.{has, has_item, IsSet}
use Rattle.item_maps.specs.declared.step.Step.{Step}
use Rattle.item_maps.specs.Steps.{same, step, value_in, begins_above, rises, changes, at, get, IsSteps}
use Rattle.item_maps.specs.Walks.{spread}

abbrev pub given : Value → Bool → Option Value
given v s = if s then Some v else None

either_way : (g s t : Bool) (v : Value) → cond g (given v s) (given v t) ≡ given v (cond g s t)
either_way true s t v = refl
either_way false s t v = refl

spread_value : (v : Value) (s : Bool) (ps : List Bound) (x : Bound) → value_in (given v s) (spread v s ps) x ≡ given v (toggles.after cmp s ps x)
spread_value v s [] x = refl
spread_value v s (p ∷ ps) x = ap (cond (is_gt (cmp p x)) (given v s)) (spread_value v (not s) ps x) ∙ either_way (is_gt (cmp p x)) s (toggles.after cmp (not s) ps x) v

spread_above : (v : Value) (s : Bool) (q : Bound) (ps : List Bound) → begins_above q (spread v s ps) ≡ toggles.begins_above cmp q ps
spread_above v s q [] = refl
spread_above v s q (p ∷ ps) = refl

spread_rises : (v : Value) (s : Bool) (ps : List Bound) → toggles.rises cmp ps ≡ true → rises (spread v s ps) ≡ true
spread_rises v s [] r = refl
spread_rises v s (p ∷ ps) r =
    let k = and_parts _ _ r in
    and_from _ _ (spread_above v (not s) p ps ∙ k.0) (spread_rises v (not s) ps k.1)

spread_changes : (v : Value) (s : Bool) (ps : List Bound) → changes (given v s) (spread v s ps) ≡ true
spread_changes v s [] = refl
spread_changes v true (p ∷ ps) = spread_changes v false ps
spread_changes v false (p ∷ ps) = spread_changes v true ps

inside : (v : Value) (s : Bool) (u : Value) → given v s ≡ Some u → s ≡ true
inside v true u e = refl
inside v false u e = absurd (cc)

pub spread_at : (v : Value) (ps : List Bound) (p : Bound) → at (spread v false ps) p ≡ given v (has ps p)
spread_at v ps p = spread_value v false ps p

pub spread_steps : (v : Value) (ps : List Bound) → IsSet ps → IsSteps (spread v false ps)
spread_steps v ps set = record {
  rising = spread_rises v false ps set.rising;
  changing = spread_changes v false ps;
  items = λ p u e. set.items p (inside v (has ps p) u (sym (spread_at v ps p) ∙ e));
}
