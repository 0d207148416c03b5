-- The first point of a set is its least member.
use Rattle.std.proofs.Common.{◌≡◌, Bool, true, false, not, ◌&&◌, IsTrue, IsFalse, List, [], ◌∷◌, Some, refl, ap, sym, ◌∙◌, cond, subst}
use Rattle.std.specs.declared.cmp.Ordering.{Ordering}
use Rattle.std.specs.Ordering.{is_gt}
use Rattle.std.proofs.lemmas.Bool.{and_parts}
use Rattle.f77_tree.specs.declared.unit.Item.{Item}
use Rattle.iv_set.specs.declared.bound.Bound.{Bound}
use Rattle.iv_set.specs.Toggles.{first_alone, head, after}
use Rattle.iv_set.specs.ToggleLaws.{begun}
use Rattle.iv_set.specs.Places.{cmp, total, place_of, is_item}
use Rattle.iv_set.specs.Sets.{has, has_item, made, IsSet, made_set, made_has, alone_rule}
use Rattle.iv_set.specs.Least.{IsLeast}

not_behind : (b c : Bool) → cond b false c ≡ true → b ≡ false
not_behind true c e = absurd (cc)
not_behind false c e = refl

pub head_in : (l : List Bound) (p : Bound) → IsSet l → head l ≡ Some p → has l p ≡ true
head_in [] p set e = absurd (cc)
head_in (x ∷ xs) p set e =
    let same : x ≡ p = cc in
    subst (λ q. has (x ∷ xs) q ≡ true) same (begun total false x xs (and_parts _ _ set.rising).0)

pub head_least : (l : List Bound) (p q : Bound) → head l ≡ Some p → has l q ≡ true → is_gt (cmp p q) ≡ false
head_least [] p q e h = absurd (cc)
head_least (x ∷ xs) p q e h =
    let same : x ≡ p = cc in
    subst (λ y. is_gt (cmp y q) ≡ false) same (not_behind (is_gt (cmp x q)) (after cmp true xs q) h)

module _ {ps qs : List Bound} (one : IsSet ps) (other : IsSet qs) (p : Bound) (e : Some p ≡ head (made first_alone ps qs)) where
  pub beyond_is_item : IsTrue (is_item p)
  beyond_is_item =
      let set = made_set alone_rule one other in
      set.items p (head_in (made first_alone ps qs) p set (sym e))

  pub beyond_least : (i : Item) → place_of i ≡ p → IsLeast (λ i. first_alone (has_item ps i) (has_item qs i)) i
  beyond_least i at = record {
    passes = subst (λ q. first_alone (has ps q) (has qs q) ≡ true) (sym at) (sym (made_has alone_rule one other p) ∙ head_in (made first_alone ps qs) p (made_set alone_rule one other) (sym e));
    least = λ j h. subst (λ q. is_gt (cmp q (place_of j)) ≡ false) (sym at) (head_least (made first_alone ps qs) p (place_of j) (sym e) (made_has alone_rule one other (place_of j) ∙ h));
  }
