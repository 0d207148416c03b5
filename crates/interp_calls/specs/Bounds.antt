-- Bounds among operands, the first lowest, and the extents that they give, one by one.
use Rattle.std.specs.Prelude.{ℕ, List, [], ◌∷◌, Option, Some, None, ℤ, pos, ◌+ℤ◌, ◌-ℤ◌, nat_lt, if◌then◌else◌}
use Rattle.run_model.specs.Acts.{Act, Reason, Done, Fail, Undefined, and_then}
use Rattle.f77_tree.specs.declared.unit.Value.TheVariants.{Integer}
use Rattle.f77_semantics.specs.declared.storage.Extent.{Extent}
use Rattle.f77_semantics.specs.Units.{positive, filled, product, total, divide}
use Rattle.f77_semantics.specs.Values.{or_fail}
use Rattle.interp_code.specs.Entries.{pairs_in}
use Rattle.interp_code.specs.Steps.{Operands, Item, Mark, with_some}

abbrev pub lower_on : Operands → Option (ℤ × Operands)
lower_on (Item (Integer x) ∷ os) = Some (x, os)
lower_on _ = None

-- A mark stands for `*`.
abbrev pub upper_on : Operands → Option (Option ℤ × Operands)
upper_on (Mark ∷ os) = Some (None, os)
upper_on (Item (Integer y) ∷ os) = Some (Some y, os)
upper_on _ = None

abbrev pub with_upper : ℤ → Option (Option ℤ × Operands) → Option ((ℤ × Option ℤ) × Operands)
with_upper x None = None
with_upper x (Some q) = Some ((x, q.0), q.1)

abbrev pub with_lower : Option (ℤ × Operands) → Option ((ℤ × Option ℤ) × Operands)
with_lower None = None
with_lower (Some p) = with_upper p.0 (upper_on p.1)

abbrev pub pair_on : Operands → Option ((ℤ × Option ℤ) × Operands)
pair_on os = with_lower (lower_on os)

-- a lower bound with the number of subscripts from it to an upper one
abbrev pub sized : ℤ × Option ℤ → Act (ℤ × Option ℕ)
sized (x, None) = Done (x, None)
sized (x, Some y) = and_then (or_fail (Undefined 4) (positive ((y -ℤ x) +ℤ pos 1))) (λ n. Done (x, Some n))

abbrev pub filled_one : (star : ℕ) → ℤ × Option ℕ → Act Extent
filled_one star (x, Some n) = Done (record { lower = x; size = n })
filled_one star (x, None) = if nat_lt star 1 then Fail (Undefined 4) else Done (record { lower = x; size = star })

abbrev pub pairs_of : Operands → Act (List (ℤ × Option ℤ))
pairs_of os = with_some (pairs_in os) (λ ps. Done ps)

-- the shape that extents give over an actual's sequence of this length
abbrev pub shape_in : (long : ℕ) → List (ℤ × Option ℕ) → Act (List Extent)
shape_in long es = and_then (filled (divide long (product es)) es) (λ shape. if nat_lt long (total shape) then Fail (Undefined 3) else Done shape)

-- what is undefined of extents whose product is greater than that length
abbrev pub excess : List (ℤ × Option ℕ) → Reason
excess [] = Undefined 3
excess ((x, None) ∷ es) = Undefined 4
excess ((x, Some n) ∷ es) = excess es
