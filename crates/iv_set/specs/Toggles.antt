-- A set of points of an ordered type as the rising list of the points at which it begins or ends.
use Rattle.std.specs.Prelude.{Bool, true, false, not, ◌&&◌, List, [], ◌∷◌, Option, Some, None}
use Rattle.std.specs.declared.cmp.Ordering.{Ordering}
use Rattle.std.specs.declared.cmp.Ordering.TheVariants.{Less, Equal, Greater}
use Rattle.std.specs.Ordering.{is_lt, is_gt}
use Rattle.std.proofs.Common.{cond}

-- the list with a point in front where what holds from it on isn't what held before
abbrev pub emit : {P : Type 0} → P → Bool → Bool → List P → List P
emit p true true rest = rest
emit p true false rest = p ∷ rest
emit p false true rest = p ∷ rest
emit p false false rest = rest

abbrev pub is_empty : {P : Type 0} → List P → Bool
is_empty [] = true
is_empty (p ∷ ps) = false

-- how the members of two sets make those of a third
abbrev pub either : Bool → Bool → Bool
either true t = true
either false t = t

abbrev pub both : Bool → Bool → Bool
both true t = t
both false t = false

abbrev pub first_alone : Bool → Bool → Bool
first_alone true t = not t
first_alone false t = false

-- what a test says of the last point, and d where there is none
abbrev pub ends_by : {P : Type 0} → (P → Bool) → Bool → List P → Bool
ends_by test d [] = d
ends_by test d (p ∷ ps) = ends_by test (test p) ps

-- the first point
abbrev pub head : {P : Type 0} → List P → Option P
head [] = None
head (p ∷ ps) = Some p

abbrev pub by_order : {L : Type 0} → Ordering → L → L → L → L
by_order Less a b c = a
by_order Equal a b c = b
by_order Greater a b c = c

module _ {P : Type 0} (cmp : P → P → Ordering) where
  -- whether x is a member, where what stands before the list leaves it s
  abbrev pub after : Bool → List P → P → Bool
  after s [] x = s
  after s (p ∷ ps) x = cond (is_gt (cmp p x)) s (after (not s) ps x)

  -- whether the list begins above the point
  abbrev pub begins_above : P → List P → Bool
  begins_above q [] = true
  begins_above q (p ∷ ps) = is_lt (cmp q p)

  abbrev pub rises : List P → Bool
  rises [] = true
  rises (p ∷ ps) = begins_above p ps && rises ps

  -- both lists gone through at once, from where the first set is s and the second t
  abbrev pub walk : (Bool → Bool → Bool) → Bool → Bool → List P → List P → List P
  walk f s t [] [] = []
  walk f s t [] (y ∷ ys) = emit y (f s t) (f s (not t)) (walk f s (not t) [] ys)
  walk f s t (x ∷ xs) [] = emit x (f s t) (f (not s) t) (walk f (not s) t xs [])
  walk f s t (x ∷ xs) (y ∷ ys) = by_order (cmp x y)
      (emit x (f s t) (f (not s) t) (walk f (not s) t xs (y ∷ ys)))
      (emit x (f s t) (f (not s) (not t)) (walk f (not s) (not t) xs ys))
      (emit y (f s t) (f s (not t)) (walk f s (not t) (x ∷ xs) ys))
