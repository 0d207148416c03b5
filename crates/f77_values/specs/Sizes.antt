-- The size of an array (ANSI X3.9-1978, section 5.2): the product of its extents, an exact number.
use Rattle.std.specs.Prelude.{ℕ, ◌+◌, ◌*◌, List, Option, Some, None, fold, ℤ, pos, ◌-ℤ◌, int_le, unsigned_abs, if◌then◌else◌}
use Rattle.f77_tree.specs.declared.expr.Expr.{Expr}
use Rattle.f77_tree.specs.declared.unit.Value.{Value}
use Rattle.f77_tree.specs.declared.unit.Value.TheVariants.{Integer}
use Rattle.f77_values.specs.Tables.{Told}
use Rattle.f77_values.specs.Constants.{value_of}

-- the lower and the upper bound of each dimension
abbrev pub Bounds : Type 0
Bounds = List (Option Expr × Option Expr)

abbrev pub whole : Option Value → Option ℤ
whole (Some (Integer n)) = Some n
whole _ = None

-- A lower bound that isn't there is 1.
abbrev pub lower : Told Value → Option Expr → Option ℤ
lower named None = Some (pos 1)
lower named (Some e) = whole (value_of named e)

-- An upper bound that isn't there is `*`, and is no constant.
abbrev pub upper : Told Value → Option Expr → Option ℤ
upper named None = None
upper named (Some e) = whole (value_of named e)

abbrev pub span : ℤ → ℤ → ℕ
span low high = if int_le low high then unsigned_abs (high -ℤ low) + 1 else 0

abbrev pub between : Option ℤ → Option ℤ → Option ℕ
between (Some low) (Some high) = Some (span low high)
between _ _ = None

abbrev pub extent : Told Value → Option Expr × Option Expr → Option ℕ
extent named bound = between (lower named bound.0) (upper named bound.1)

abbrev pub times : Option ℕ → Option ℕ → Option ℕ
times (Some a) (Some b) = Some (a * b)
times _ _ = None

-- The number of elements, where all bounds are constant. With no bounds it is that of a scalar, 1.
abbrev pub elements : Told Value → Bounds → Option ℕ
elements named bounds = fold (λ size bound. times size (extent named bound)) (Some 1) bounds
