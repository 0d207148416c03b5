-- The role of each name of a unit (ANSI X3.9-1978, sections 8 and 18.2), by the attributes that the whole unit gives it. All is said
-- of units with faults too: where roles exclude each other, the first of those below counts.
use Rattle.std.specs.Prelude.{List, [], Option, Some, None, Bool, not, ◌&&◌, ◌||◌, if◌then◌else◌, map, pos, is_some}
use Rattle.f77_tree.specs.declared.form.TypeWord.{TypeWord}
use Rattle.f77_tree.specs.declared.unit.Ty.{Ty}
use Rattle.f77_tree.specs.declared.unit.Ty.TheVariants as ty
use Rattle.f77_tree.specs.declared.unit.Unit.{Unit}
use Rattle.f77_tree.specs.declared.unit.Value.{Value}
use Rattle.f77_tree.specs.declared.unit.Value.TheVariants as value
use Rattle.f77_names.specs.declared.occurrences.Manner.TheVariants as manner
use Rattle.f77_names.specs.declared.attributes.Attributes.{Attributes}
use Rattle.f77_names.specs.declared.declarations.Shape.{Shape}
use Rattle.f77_names.specs.declared.facts.Facts.{Facts}
use Rattle.f77_names.specs.declared.roles.Known.{Known}
use Rattle.f77_names.specs.declared.roles.Role.{Role}
use Rattle.f77_names.specs.declared.roles.Role.TheVariants.{Scalar, Array, Constant, Intrinsic, Function, Subroutine, Procedure}
use Rattle.f77_values.specs.Tables.{Name, what, is_among, distinct}
use Rattle.f77_values.specs.Constants.{constants}
use Rattle.f77_values.specs.Sizes.{Bounds}
use Rattle.f77_names.specs.Occurrences.{Occurrences, occurrences, names_that}
use Rattle.f77_names.specs.Declarations.{declarations, words, shapes}
use Rattle.f77_names.specs.Types.{letter_words, name_word, storage_type}
use Rattle.f77_names.specs.Intrinsics.{intrinsic_of}

-- the names by what makes their roles, each once
abbrev pub attributes : Occurrences → Attributes
attributes all = record {
  dummies = distinct (names_that manner.Dummy all);
  arrays = distinct (names_that manner.Dimensioned all);
  constants = distinct (names_that manner.Defined all);
  external = distinct (names_that manner.External all);
  intrinsic = distinct (names_that manner.Intrinsic all);
  called = distinct (names_that manner.Called all);
  listed = distinct (names_that manner.Listed all);
}

-- a name with a list that is neither an array nor a dummy
abbrev pub is_applied : Attributes → Name → Bool
is_applied a name = is_among a.listed name && (not (is_among a.arrays name) && not (is_among a.dummies name))

-- in the table, and not in EXTERNAL
abbrev pub is_in_table : Attributes → Name → Bool
is_in_table a name = is_some (intrinsic_of name) && not (is_among a.external name)

-- INTRINSIC makes a name of the table an intrinsic, and so does a list where EXTERNAL doesn't name it.
abbrev pub is_intrinsic : Attributes → Name → Bool
is_intrinsic a name = (is_among a.intrinsic name && is_some (intrinsic_of name)) || (is_applied a name && is_in_table a name)

abbrev pub is_function : Attributes → Name → Bool
is_function a name = is_applied a name && not (is_in_table a name)

abbrev pub bounds_of : Option Shape → Bounds
bounds_of None = []
bounds_of (Some shape) = shape.bounds

-- A constant without a value, which no accepted unit has, is given as 0.
abbrev pub constant_of : Option Value → Value
constant_of None = value.Integer (pos 0)
constant_of (Some x) = x

abbrev pub facts_with : Occurrences → Unit → Facts
facts_with all u = record {
  attributes = attributes all;
  constants = constants u.statements;
  shapes = shapes (declarations u.statements);
  words = words (declarations u.statements);
  letters = letter_words u.statements;
}

abbrev pub facts : Unit → Facts
facts u = facts_with (occurrences u) u

-- A function's result variable is a scalar. A dummy that is called or in EXTERNAL is a subroutine or a procedure.
abbrev pub role : Facts → Name → Role
role f name =
    if is_among f.attributes.arrays name then Array (bounds_of (what f.shapes name))
    else (if is_among f.attributes.constants name then Constant (constant_of (what f.constants name))
    else (if is_intrinsic f.attributes name then Intrinsic
    else (if is_function f.attributes name then Function
    else (if is_among f.attributes.called name then Subroutine
    else (if is_among f.attributes.external name then Procedure
    else Scalar)))))

-- Subroutines and procedures have no type, and intrinsics have INTEGER.
abbrev pub role_type : Role → TypeWord → Option Ty
role_type Subroutine word = None
role_type Procedure word = None
role_type Intrinsic word = Some ty.Integer
role_type _ word = storage_type word

abbrev pub type_of : Facts → Name → Option Ty
type_of f name = role_type (role f name) (name_word f.words f.letters name)

abbrev pub known : Facts → Name → Known
known f name = record { name = name; ty = type_of f name; role = role f name }

-- names in the order of first appearance
abbrev pub in_order : Occurrences → List Name
in_order all = distinct (map (λ o. o.name) all)

abbrev pub names_with : Facts → Occurrences → List Known
names_with f all = map (known f) (in_order all)

abbrev pub names : Unit → List Known
names u = names_with (facts u) (occurrences u)
