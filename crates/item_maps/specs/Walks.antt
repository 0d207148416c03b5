-- Steps of a walk through two maps, as the code takes them, and the steps of a set with one value.
use Rattle.std.specs.Prelude.{◌≡◌, ℕ, ◌+◌, ◌<◌, Bool, true, false, not, List, [], ◌∷◌, length, Option, Some, None, if◌then◌else◌}
use Rattle.f77_tree.specs.declared.unit.Value.{Value}
use Rattle.iv_set.specs.declared.bound.Bound.{Bound}
use Rattle.item_maps.specs.declared.step.Step.{Step}
use Rattle.item_maps.specs.declared.walk.Rule.{Rule}
use Rattle.item_maps.specs.declared.walk.Rule.TheVariants as rule
use Rattle.item_maps.specs.declared.walk.Walk.{Walk}
use Rattle.item_maps.specs.Steps.{step, emit, walk, made, over, where_second, unlike}

abbrev pub holds : Rule → Option Value → Option Value → Option Value
holds rule.Over = over
holds rule.WhereSecond = where_second
holds rule.Unlike = unlike

-- what is still to come
abbrev pub rest_of : (Option Value → Option Value → Option Value) → Walk → List Step
rest_of f w = walk f w.of_first w.of_second w.first.now w.second.now

abbrev pub left : Walk → ℕ
left w = length w.first.now + length w.second.now

-- the step from one place in a walk to the next, past the point
pub record Comes (w : Walk) (p : Bound) (v : Walk) : Type 0 where
  pub rest : (f : Option Value → Option Value → Option Value) → rest_of f w ≡ emit p (f w.of_first w.of_second) (f v.of_first v.of_second) (rest_of f v)
  pub shorter : left v < left w

abbrev pub has_value : Option Value → Bool
has_value None = false
has_value (Some v) = true

abbrev pub first_place : List Step → Option Bound
first_place [] = None
first_place (s ∷ ss) = Some s.at

abbrev pub is_empty : List Step → Bool
is_empty [] = true
is_empty (s ∷ ss) = false

-- whether each value of the first map is that of the second
abbrev pub within : List Step → List Step → Bool
within ss ts = is_empty (made unlike ss ts)

-- the steps of a set whose members have the value, where before the list membership is s
abbrev pub spread : Value → Bool → List Bound → List Step
spread v s [] = []
spread v s (p ∷ ps) = step p (if not s then Some v else None) ∷ spread v (not s) ps
