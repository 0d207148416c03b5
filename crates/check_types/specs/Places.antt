-- Where an expression stands in a statement, and what is wanted there.
use Rattle.std.specs.Prelude.{Option, Some, None}
use Rattle.f77_tree.specs.declared.unit.Ty.{Ty}
use Rattle.f77_tree.specs.declared.unit.Ty.TheVariants.{Integer}
use Rattle.f77_names.specs.declared.standings.Standing.{Standing}
use Rattle.f77_names.specs.declared.standings.Standing.TheVariants as standing
use Rattle.check_types.specs.declared.places.Place.{Place}
use Rattle.check_types.specs.declared.places.Place.TheVariants.{Value, Actual, Named}

-- the type that is wanted, if there is one
abbrev pub wanted : Place → Option Ty
wanted (Value ty) = ty
wanted Actual = None
wanted Named = None

-- Subscripts and the arguments of an intrinsic are integers (ANSI X3.9-1978, sections 5.4.2 and 15.3). The list of any other name has
-- actual arguments.
abbrev pub member_place : Standing → Place
member_place standing.Array = Value (Some Integer)
member_place standing.Intrinsic = Value (Some Integer)
member_place _ = Actual
