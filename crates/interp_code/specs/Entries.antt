-- The bounds of a dummy array as steps, and the shape that they give.
use Rattle.std.specs.Prelude.{ℕ, List, [], ◌∷◌, Option, None, Some, ℤ, pos, nat_lt, if◌then◌else◌}
use Rattle.run_model.specs.Acts.{Act, Done, Fail, Undefined, and_then}
use Rattle.f77_tree.specs.declared.unit.Value.TheVariants.{Integer}
use Rattle.f77_semantics.specs.Program.{Term, Bound}
use Rattle.f77_semantics.specs.declared.storage.Extent.{Extent}
use Rattle.f77_semantics.specs.Units.{extents, filled, product, divide, total}
use Rattle.interp_code.specs.Steps.{Operand, Operands, Item, Mark, Step, Push, Open, operands_onto, with_some}
use Rattle.interp_code.specs.Endings.{number_code}

abbrev pub lower_code : Option Term → List Step → List Step
lower_code None cs = Push (Integer (pos 1)) ∷ cs
lower_code (Some e) cs = number_code e cs

-- A mark stands for `*`.
abbrev pub upper_code : Option Term → List Step → List Step
upper_code None cs = Open ∷ cs
upper_code (Some e) cs = number_code e cs

abbrev pub bounds_code : List Bound → List Step
bounds_code [] = []
bounds_code (b ∷ bs) = lower_code b.lower (upper_code b.upper (bounds_code bs))

abbrev pub upper_operand : Option ℤ → Operand
upper_operand None = Mark
upper_operand (Some y) = Item (Integer y)

-- the operands of bounds, the first first
abbrev pub pair_operands : List (ℤ × Option ℤ) → Operands
pair_operands [] = []
pair_operands (p ∷ ps) = Item (Integer p.0) ∷ upper_operand p.1 ∷ pair_operands ps

abbrev pub with_pair : ℤ → Option ℤ → Option (List (ℤ × Option ℤ)) → Option (List (ℤ × Option ℤ))
with_pair x y None = None
with_pair x y (Some ps) = Some ((x, y) ∷ ps)

abbrev pub pairs_in : Operands → Option (List (ℤ × Option ℤ))
pairs_in [] = Some []
pairs_in (Item (Integer x) ∷ Mark ∷ os) = with_pair x None (pairs_in os)
pairs_in (Item (Integer x) ∷ Item (Integer y) ∷ os) = with_pair x (Some y) (pairs_in os)
pairs_in _ = None

-- the shape of these bounds over an actual's sequence of this length
abbrev pub measured : ℕ → List (ℤ × Option ℤ) → Act (List Extent)
measured long pairs = and_then (extents pairs) (λ es. and_then (filled (divide long (product es)) es) (λ shape. if nat_lt long (total shape) then Fail (Undefined 3) else Done shape))

abbrev pub shaped : ℕ → Operands → Act (List Extent)
shaped long s = with_some (pairs_in (operands_onto s [])) (measured long)
