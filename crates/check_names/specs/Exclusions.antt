-- What a name is given, and what of it excludes what (ANSI X3.9-1978, sections 18.1 and 18.2).
use Rattle.std.specs.Prelude.{Bool, true, false, ◌||◌, if◌then◌else◌}
use Rattle.check_names.specs.declared.attribute.Attribute.{Attribute}
use Rattle.check_names.specs.declared.attribute.Attribute.TheVariants.{ResultVariable, Dummy, Array, Constant, Subroutine, Procedure, Intrinsic, Function, Typed, Common, Item, Letter}
use Rattle.check_names.specs.declared.attribute.Given.{Given}

abbrev pub nothing : Given
nothing = record {
  result_variable = false;
  dummy = false;
  array = false;
  constant = false;
  subroutine = false;
  procedure = false;
  intrinsic = false;
  function = false;
  word = false;
  common = false;
  item = false;
  letter = false;
}

abbrev pub has : Given → Attribute → Bool
has given ResultVariable = given.result_variable
has given Dummy = given.dummy
has given Array = given.array
has given Constant = given.constant
has given Subroutine = given.subroutine
has given Procedure = given.procedure
has given Intrinsic = given.intrinsic
has given Function = given.function
has given Typed = given.word
has given Common = given.common
has given Item = given.item
has given Letter = given.letter

abbrev pub with_attribute : Given → Attribute → Given
with_attribute given ResultVariable = record given { result_variable = true }
with_attribute given Dummy = record given { dummy = true }
with_attribute given Array = record given { array = true }
with_attribute given Constant = record given { constant = true }
with_attribute given Subroutine = record given { subroutine = true }
with_attribute given Procedure = record given { procedure = true }
with_attribute given Intrinsic = record given { intrinsic = true }
with_attribute given Function = record given { function = true }
with_attribute given Typed = record given { word = true }
with_attribute given Common = record given { common = true }
with_attribute given Item = record given { item = true }
with_attribute given Letter = record given { letter = true }

-- what is called or referenced, and has no storage of its own
abbrev pub is_called : Given → Bool
is_called given = given.subroutine || given.procedure || given.intrinsic || given.function

abbrev pub is_placed : Given → Bool
is_placed given = given.common || given.item

-- Any two roles exclude each other, but for a dummy with an array, a subroutine and a procedure, and a procedure with a subroutine
-- and a function. A place in COMMON or among DATA's items excludes constants and what is called. Each row has what excludes it.
abbrev pub is_excluded : Given → Attribute → Bool
is_excluded given Array = given.constant || given.result_variable || is_called given
is_excluded given Constant = given.array || given.dummy || given.result_variable || is_called given || is_placed given
is_excluded given Dummy = given.constant || given.result_variable || given.intrinsic || given.function
is_excluded given Subroutine = given.array || given.constant || given.result_variable || given.intrinsic || given.function || is_placed given
is_excluded given Procedure = given.array || given.constant || given.result_variable || given.intrinsic || is_placed given
is_excluded given Intrinsic = given.array || given.dummy || given.constant || given.result_variable || given.subroutine || given.procedure || given.function || is_placed given
is_excluded given Function = given.array || given.dummy || given.constant || given.result_variable || given.subroutine || given.intrinsic || is_placed given
is_excluded given ResultVariable = given.array || given.dummy || given.constant || is_called given
is_excluded given Common = given.constant || is_called given
is_excluded given Item = given.constant || is_called given
is_excluded given Typed = false
is_excluded given Letter = false

-- what a name is given once: bounds, a type, a value, a place in the head and in COMMON, and a letter's type
abbrev pub is_once : Attribute → Bool
is_once Dummy = true
is_once Array = true
is_once Constant = true
is_once Typed = true
is_once Common = true
is_once Letter = true
is_once _ = false

-- It was given before and is given once, or it is given for the first time and what was given excludes it.
abbrev pub conflicts : Given → Attribute → Bool
conflicts given attribute = if has given attribute then is_once attribute else is_excluded given attribute
