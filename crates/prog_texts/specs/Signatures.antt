-- What a unit is to its callers, and the unit of a name.
use Rattle.std.specs.Prelude.{◌≡◌, ℕ, suc, List, [], ◌∷◌, Option, Some, None, map, if◌then◌else◌}
use Rattle.f77_tree.specs.declared.unit.Unit.{Unit}
use Rattle.f77_names.specs.declared.facts.Facts.{Facts}
use Rattle.f77_names.specs.declared.roles.Role.{Role}
use Rattle.f77_names.specs.declared.roles.Role.TheVariants as role
use Rattle.f77_values.specs.Tables.{Name, Told, told, what}
use Rattle.f77_names.specs.Roles.{facts, type_of}
use Rattle.f77_names.specs.Roles as roles
use Rattle.prog_texts.specs.declared.signatures.Dummy.{Dummy}
use Rattle.prog_texts.specs.declared.signatures.Shape.{Shape}
use Rattle.prog_texts.specs.declared.signatures.Shape.TheVariants.{Scalar, Array, Procedure}
use Rattle.prog_texts.specs.declared.signatures.Signature.{Signature}

abbrev pub shape : Role → Shape
shape role.Scalar = Scalar
shape (role.Array bounds) = Array
shape _ = Procedure

abbrev pub dummy : Facts → Name → Dummy
dummy f name = record { shape = shape (roles.role f name); ty = type_of f name }

abbrev pub signature_with : Facts → Unit → ℕ → Signature
signature_with f u place = record { kind = u.kind; dummies = map (dummy f) u.dummies; result = type_of f u.name; place = place }

abbrev pub signature : Unit → ℕ → Signature
signature u place = signature_with (facts u) u place

-- each unit by its name, from this place in the list on
abbrev pub named_from : ℕ → List Unit → List (Name × Signature)
named_from place [] = []
named_from place (u ∷ others) = (u.name, signature u place) ∷ named_from (suc place) others

abbrev pub Signatures : Type 0
Signatures = Told Signature

-- the units by their names, which differ in every program
abbrev pub signatures : List Unit → Signatures
signatures units = told (named_from 0 units)

-- the unit of this name, if there is one
abbrev pub unit_of : Signatures → Name → Option Signature
unit_of all name = what all name
