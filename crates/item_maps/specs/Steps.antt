-- A map from places to values as a step function: the rising list of the places at which the value turns.
use Rattle.std.specs.Prelude.{◌≡◌, Bool, true, false, not, ◌&&◌, IsTrue, List, [], ◌∷◌, Option, Some, None}
use Rattle.std.specs.Ordering.{is_lt, is_gt, int_eq}
use Rattle.std.proofs.Common.{cond}
use Rattle.f77_tree.specs.declared.unit.Value.{Value}
use Rattle.f77_tree.specs.declared.unit.Value.TheVariants.{Integer, Logical}
use Rattle.f77_tree.specs.declared.unit.Item.{Item}
use Rattle.iv_set.specs.declared.bound.Bound.{Bound}
use Rattle.iv_set.specs.Toggles.{by_order}
use Rattle.iv_set.specs.Places.{cmp, place_of, is_item}
use Rattle.item_maps.specs.declared.step.Step.{Step}

abbrev pub same_truth : Bool → Bool → Bool
same_truth true b = b
same_truth false b = not b

-- whether two values are one
abbrev pub same_value : Value → Value → Bool
same_value (Integer m) (Integer n) = int_eq m n
same_value (Integer m) (Logical b) = false
same_value (Logical a) (Integer n) = false
same_value (Logical a) (Logical b) = same_truth a b

abbrev pub same : Option Value → Option Value → Bool
same None None = true
same None (Some w) = false
same (Some v) None = false
same (Some v) (Some w) = same_value v w

abbrev pub step : Bound → Option Value → Step
step p v = record { at = p; value = v }

-- the list with a step in front where the value from there on isn't the one before
abbrev pub emit : Bound → Option Value → Option Value → List Step → List Step
emit p old new rest = cond (same old new) rest (step p new ∷ rest)

-- the value at a place, where before the list it is v
abbrev pub value_in : Option Value → List Step → Bound → Option Value
value_in v [] p = v
value_in v (s ∷ ss) p = cond (is_gt (cmp s.at p)) v (value_in s.value ss p)

-- whether the list begins above the place
abbrev pub begins_above : Bound → List Step → Bool
begins_above q [] = true
begins_above q (s ∷ ss) = is_lt (cmp q s.at)

abbrev pub rises : List Step → Bool
rises [] = true
rises (s ∷ ss) = begins_above s.at ss && rises ss

-- whether each step has another value than the one before
abbrev pub changes : Option Value → List Step → Bool
changes v [] = true
changes v (s ∷ ss) = not (same v s.value) && changes s.value ss

-- both lists gone through at once, from where the first value is v and the second w
abbrev pub walk : (Option Value → Option Value → Option Value) → Option Value → Option Value → List Step → List Step → List Step
walk f v w [] [] = []
walk f v w [] (y ∷ ys) = emit y.at (f v w) (f v y.value) (walk f v y.value [] ys)
walk f v w (x ∷ xs) [] = emit x.at (f v w) (f x.value w) (walk f x.value w xs [])
walk f v w (x ∷ xs) (y ∷ ys) = by_order (cmp x.at y.at)
    (emit x.at (f v w) (f x.value w) (walk f x.value w xs (y ∷ ys)))
    (emit x.at (f v w) (f x.value y.value) (walk f x.value y.value xs ys))
    (emit y.at (f v w) (f v y.value) (walk f v y.value (x ∷ xs) ys))

abbrev pub at : List Step → Bound → Option Value
at = value_in None

-- the value of the item, if it has one
abbrev pub get : List Step → Item → Option Value
get ss i = at ss (place_of i)

abbrev pub made : (Option Value → Option Value → Option Value) → List Step → List Step → List Step
made f = walk f None None

-- the steps rise, each is to another value, and nothing has a value but items
pub record IsSteps (ss : List Step) : Type 0 where
  pub rising : IsTrue (rises ss)
  pub changing : IsTrue (changes None ss)
  pub items : (p : Bound) (v : Value) → at ss p ≡ Some v → IsTrue (is_item p)

-- how two maps make a third

-- the second's value where it has one
abbrev pub over : Option Value → Option Value → Option Value
over v None = v
over v (Some w) = Some w

-- the first's value where the second has one
abbrev pub where_second : Option Value → Option Value → Option Value
where_second v None = None
where_second v (Some w) = v

-- the first's value where the second hasn't the same
abbrev pub unlike : Option Value → Option Value → Option Value
unlike v w = cond (same v w) None v
