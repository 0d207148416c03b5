-- The type of a name (ANSI X3.9-1978, section 4.1): that of a type statement or of the head, else that of its first letter.
use Rattle.std.specs.Prelude.{ℕ, List, [], Option, Some, None, Bool, true, false, ◌&&◌, nat_le, if◌then◌else◌, fold, map, flat_map, unwrap_or, slice_index, slice_get}
use Rattle.std.specs.List.{list_any, range_with_len}
use Rattle.f77_tree.specs.declared.form.Form.{Form}
use Rattle.f77_tree.specs.declared.form.Form.TheViews.{out-Form}
use Rattle.f77_tree.specs.declared.form.Form.TheOpen.{Form-F}
use Rattle.f77_tree.specs.declared.form.TypeWord.{TypeWord}
use Rattle.f77_tree.specs.declared.form.TypeWord.TheVariants.{Integer, Logical, Real}
use Rattle.f77_tree.specs.declared.unit.Stmt.{Stmt}
use Rattle.f77_tree.specs.declared.unit.Ty.{Ty}
use Rattle.f77_tree.specs.declared.unit.Ty.TheVariants as ty
use Rattle.f77_names.specs.declared.types.LetterRule.{LetterRule}
use Rattle.f77_values.specs.Tables.{Name, Told, what}

-- letters of IMPLICIT with their type
abbrev pub range_rule : TypeWord → ℕ × ℕ → LetterRule
range_rule word range = record { word = word; first = range.0; last = range.1 }

abbrev pub group_rules : TypeWord × List (ℕ × ℕ) → List LetterRule
group_rules group = map (range_rule group.0) group.1

abbrev pub form_rules : Form-F Form → List LetterRule
form_rules (Form-F.Implicit groups) = flat_map group_rules groups
form_rules _ = []

abbrev pub statement_rules : Stmt → List LetterRule
statement_rules s = form_rules (out-Form s.form)

abbrev pub rules : List Stmt → List LetterRule
rules statements = flat_map statement_rules statements

abbrev pub is_none : Form-F Form → Bool
is_none Form-F.ImplicitNone = true
is_none _ = false

abbrev pub is_implicit_none : Stmt → Bool
is_implicit_none s = is_none (out-Form s.form)

-- IMPLICIT NONE stands in the unit
abbrev pub has_none : List Stmt → Bool
has_none statements = list_any is_implicit_none statements

abbrev pub holds : LetterRule → ℕ → Bool
holds rule letter = nat_le rule.first letter && nat_le letter rule.last

-- Without IMPLICIT the letters I to N have INTEGER and all others REAL; with IMPLICIT NONE each has REAL.
abbrev pub default_word : Bool → ℕ → TypeWord
default_word none letter = if none then Real else (if nat_le 73 letter && nat_le letter 78 then Integer else Real)

abbrev pub ruled : ℕ → TypeWord → LetterRule → TypeWord
ruled letter word rule = if holds rule letter then rule.word else word

abbrev pub letter_word : List LetterRule → Bool → ℕ → TypeWord
letter_word all none letter = fold (ruled letter) (default_word none letter) all

-- the type of each letter, by its code
abbrev pub letter_words : List Stmt → List TypeWord
letter_words statements = map (letter_word (rules statements) (has_none statements)) (range_with_len 0 256)

abbrev pub initial_word : List TypeWord → Name → TypeWord
initial_word letters name = unwrap_or (slice_get letters (slice_index name 0)) Real

-- the type of a name, given those that statements tell and those of the letters
abbrev pub name_word : Told TypeWord → List TypeWord → Name → TypeWord
name_word told letters name = unwrap_or (what told name) (initial_word letters name)

-- the types that programs compute with
abbrev pub storage_type : TypeWord → Option Ty
storage_type Integer = Some ty.Integer
storage_type Logical = Some ty.Logical
storage_type _ = None
