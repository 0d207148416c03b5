-- What the declarators of a unit tell of their names.
use Rattle.std.specs.Prelude.{◌==◌, List, [], ◌∷◌, ◌++◌, Option, Some, None, if◌then◌else◌, length, map, flat_map, option_map}
use Rattle.f77_tree.specs.declared.form.Declarator.{Declarator}
use Rattle.f77_tree.specs.declared.form.Form.{Form}
use Rattle.f77_tree.specs.declared.form.Form.TheViews.{out-Form}
use Rattle.f77_tree.specs.declared.form.Form.TheOpen.{Form-F}
use Rattle.f77_tree.specs.declared.form.TypeWord.{TypeWord}
use Rattle.f77_tree.specs.declared.form.TypeWord.TheVariants as word
use Rattle.f77_tree.specs.declared.unit.Stmt.{Stmt}
use Rattle.f77_tree.specs.declared.unit.Ty.{Ty}
use Rattle.f77_tree.specs.declared.unit.Ty.TheVariants.{Integer, Logical}
use Rattle.f77_tree.specs.declared.unit.Value.{Value}
use Rattle.f77_names.specs.declared.declarations.Declaration.{Declaration}
use Rattle.f77_names.specs.declared.declarations.Shape.{Shape}
use Rattle.f77_values.specs.Tables.{Name, Told, told_first, saturated}
use Rattle.f77_values.specs.Constants.{with_statement}
use Rattle.f77_values.specs.Sizes.{elements}

abbrev pub word_of : Ty → TypeWord
word_of Integer = word.Integer
word_of Logical = word.Logical

-- a declarator with the type that its statement gives, the COMMON block that it stands in, and its number of elements under
-- the named constants that are known there
abbrev pub declared : Told Value → Option TypeWord → Option Name → Declarator → Declaration
declared named word block d = record { name = d.name; word = word; block = block; bounds = d.bounds; size = option_map saturated (elements named d.bounds) }

-- A function's head with a type gives it to the name.
abbrev pub of_head : Option TypeWord → Name → List Declaration
of_head None name = []
of_head (Some word) name = record { name = name; word = Some word; block = None; bounds = []; size = Some 1 } ∷ []

abbrev pub in_block : Told Value → Name × List Declarator → List Declaration
in_block named block = map (declared named None (Some block.0)) block.1

abbrev pub in_form : Told Value → Form-F Form → List Declaration
in_form named (Form-F.Head kind word name dummies) = of_head word name
in_form named (Form-F.Typed ty all) = map (declared named (Some (word_of ty)) None) all
in_form named (Form-F.Dimension all) = map (declared named None None) all
in_form named (Form-F.Common blocks) = flat_map (in_block named) blocks
in_form named _ = []

-- each statement's, under the named constants that are known before it
abbrev pub declarations_from : Told Value → List Stmt → List Declaration
declarations_from named [] = []
declarations_from named (s ∷ others) = in_form named (out-Form s.form) ++ declarations_from (with_statement named s) others

abbrev pub declarations : List Stmt → List Declaration
declarations statements = declarations_from [] statements

-- What they tell of types. A name has the type that is told first; where a second one is told, that is a fault of its own.
abbrev pub word_pair : Name → Option TypeWord → List (Name × TypeWord)
word_pair name None = []
word_pair name (Some word) = (name, word) ∷ []

abbrev pub word_told : Declaration → List (Name × TypeWord)
word_told d = word_pair d.name d.word

abbrev pub words : List Declaration → Told TypeWord
words all = told_first (flat_map word_told all)

-- The bounds of arrays, with the number of elements where they are constant. Here too what is told first counts.
abbrev pub shape_told : Declaration → List (Name × Shape)
shape_told d = if length d.bounds == 0 then [] else (d.name, record { bounds = d.bounds; size = d.size }) ∷ []

abbrev pub shapes : List Declaration → Told Shape
shapes all = told_first (flat_map shape_told all)
