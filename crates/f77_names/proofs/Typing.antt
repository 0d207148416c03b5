-- The type of a role is that of its standing, and a name's role follows from its standing.
use Rattle.std.proofs.Common.{◌≡◌, Bool, true, false, if◌then◌else◌, refl}
use Rattle.f77_tree.specs.declared.form.TypeWord.{TypeWord}
use Rattle.f77_names.specs.declared.facts.Facts.{Facts}
use Rattle.f77_names.specs.declared.roles.Role.{Role}
use Rattle.f77_names.specs.declared.roles.Role.TheVariants as role
use Rattle.f77_values.specs.Tables.{Name, what, is_among}
use Rattle.f77_names.specs.Roles.{role, role_type, bounds_of, constant_of, is_intrinsic, is_function}
use Rattle.f77_names.specs.Standings.{standing, standing_of, standing_type, role_with}

pub standing_has : (r : Role) (word : TypeWord) → standing_type (standing r) word ≡ role_type r word
standing_has role.Scalar word = refl
standing_has (role.Array bounds) word = refl
standing_has (role.Constant x) word = refl
standing_has role.Intrinsic word = refl
standing_has role.Function word = refl
standing_has role.Subroutine word = refl
standing_has role.Procedure word = refl

chosen : (f : Facts) (name : Name) (array constant intrinsic function called external : Bool)
    → let r = if array then role.Array (bounds_of (what f.shapes name)) else (if constant then role.Constant (constant_of (what f.constants name)) else (if intrinsic then role.Intrinsic else (if function then role.Function else (if called then role.Subroutine else (if external then role.Procedure else role.Scalar))))) in
    role_with f name (standing r) ≡ r
chosen f name true _ _ _ _ _ = refl
chosen f name false true _ _ _ _ = refl
chosen f name false false true _ _ _ = refl
chosen f name false false false true _ _ = refl
chosen f name false false false false true _ = refl
chosen f name false false false false false true = refl
chosen f name false false false false false false = refl

pub role_with_standing : (f : Facts) (name : Name) → role_with f name (standing_of f name) ≡ role f name
role_with_standing f name = chosen f name (is_among f.attributes.arrays name) (is_among f.attributes.constants name) (is_intrinsic f.attributes name) (is_function f.attributes name) (is_among f.attributes.called name) (is_among f.attributes.external name)

pub ruleset typing = (standing_has, role_with_standing)
