-- What a name is, without the bounds of an array and the value of a constant.
use Rattle.std.specs.Prelude.{ℕ, Option, Some, None, Bool, true, false, length}
use Rattle.f77_tree.specs.declared.form.TypeWord.{TypeWord}
use Rattle.f77_tree.specs.declared.unit.Ty.{Ty}
use Rattle.f77_tree.specs.declared.unit.Ty.TheVariants as ty
use Rattle.f77_names.specs.declared.facts.Facts.{Facts}
use Rattle.f77_names.specs.declared.roles.Role.{Role}
use Rattle.f77_names.specs.declared.roles.Role.TheVariants as role
use Rattle.f77_values.specs.Tables.{Name, what}
use Rattle.f77_names.specs.Types.{storage_type}
use Rattle.f77_names.specs.Roles.{role, bounds_of, constant_of}
use Rattle.f77_names.specs.declared.standings.Standing.{Standing}
use Rattle.f77_names.specs.declared.standings.Standing.TheVariants.{Scalar, Array, Constant, Intrinsic, Function, Subroutine, Procedure}

abbrev pub standing : Role → Standing
standing role.Scalar = Scalar
standing (role.Array bounds) = Array
standing (role.Constant x) = Constant
standing role.Intrinsic = Intrinsic
standing role.Function = Function
standing role.Subroutine = Subroutine
standing role.Procedure = Procedure

abbrev pub standing_of : Facts → Name → Standing
standing_of f name = standing (role f name)

-- the role of a name that stands so
abbrev pub role_with : Facts → Name → Standing → Role
role_with f name Scalar = role.Scalar
role_with f name Array = role.Array (bounds_of (what f.shapes name))
role_with f name Constant = role.Constant (constant_of (what f.constants name))
role_with f name Intrinsic = role.Intrinsic
role_with f name Function = role.Function
role_with f name Subroutine = role.Subroutine
role_with f name Procedure = role.Procedure

-- Subroutines and procedures have no type, and intrinsics have INTEGER.
abbrev pub standing_type : Standing → TypeWord → Option Ty
standing_type Subroutine word = None
standing_type Procedure word = None
standing_type Intrinsic word = Some ty.Integer
standing_type _ word = storage_type word

-- A variable, an array and a constant can stand without a list where a value is wanted; all others are called.
abbrev pub is_called : Standing → Bool
is_called Intrinsic = true
is_called Function = true
is_called Subroutine = true
is_called Procedure = true
is_called _ = false

abbrev pub is_array : Standing → Bool
is_array Array = true
is_array _ = false

abbrev pub is_scalar : Standing → Bool
is_scalar Scalar = true
is_scalar _ = false

-- the number of subscripts of an array
abbrev pub rank : Role → Option ℕ
rank (role.Array bounds) = Some (length bounds)
rank _ = None

abbrev pub rank_of : Facts → Name → Option ℕ
rank_of f name = rank (role f name)
