-- Steps of a walk, as the code takes them.
use Rattle.std.specs.Prelude.{◌≡◌, ℕ, ◌+◌, ◌<◌, Bool, true, false, List, [], ◌∷◌, length}
use Rattle.std.specs.Ordering.{is_eq, is_lt}
use Rattle.f77_tree.specs.declared.unit.Item.{Item}
use Rattle.iv_set.specs.declared.bound.Bound.{Bound}
use Rattle.iv_set.specs.declared.walk.Rule.{Rule}
use Rattle.iv_set.specs.declared.walk.Rule.TheVariants as rule
use Rattle.iv_set.specs.declared.walk.Walk.{Walk}
use Rattle.iv_set.specs.Toggles.{emit, walk, ends_by, either, both, first_alone}
use Rattle.iv_set.specs.Places.{cmp, place_of}

abbrev pub holds : Rule → Bool → Bool → Bool
holds rule.Either = either
holds rule.Both = both
holds rule.FirstAlone = first_alone

-- what is still to come
abbrev pub rest_of : (Bool → Bool → Bool) → Walk → List Bound
rest_of f w = walk cmp f w.in_first w.in_second w.first.now w.second.now

abbrev pub left : Walk → ℕ
left w = length w.first.now + length w.second.now

-- the step from one place in a walk to the next, past the point
pub record Comes (w : Walk) (p : Bound) (v : Walk) : Type 0 where
  pub rest : (f : Bool → Bool → Bool) → rest_of f w ≡ emit p (f w.in_first w.in_second) (f v.in_first v.in_second) (rest_of f v)
  pub shorter : left v < left w

-- whether the last bound is the place of the item
abbrev pub touches : List Bound → Item → Bool
touches ps i = ends_by (λ p. is_eq (cmp p (place_of i))) false ps

-- whether the last bound stands before the item
abbrev pub ends_before : List Bound → Item → Bool
ends_before ps i = ends_by (λ p. is_lt (cmp p (place_of i))) true ps

-- the list with another last bound
abbrev pub stretched : List Bound → Bound → List Bound
stretched [] end = []
stretched (p ∷ []) end = end ∷ []
stretched (p ∷ q ∷ qs) end = p ∷ stretched (q ∷ qs) end
