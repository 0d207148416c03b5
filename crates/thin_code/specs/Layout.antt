-- The storage of a thin program: the local area of the main program.
use Rattle.std.specs.Prelude.{ℕ, List, [], ◌∷◌, ◌++◌, fold, flat_map, if◌then◌else◌, codes}
use Rattle.std.specs.List.{list_any, position_or_len}
use Rattle.run_model.specs.Storage.{Name, name_eq, Local, Loc}
use Rattle.thin_form.specs.declared.statement.Term.{Term}
use Rattle.thin_form.specs.declared.statement.Term.TheVariants.{Variable, Integer}
use Rattle.thin_form.specs.declared.statement.Item.{Item}
use Rattle.thin_form.specs.declared.statement.Item.TheVariants.{Value, Text}
use Rattle.thin_form.specs.declared.statement.Statement.{Statement}
use Rattle.thin_form.specs.declared.statement.Statement.TheVariants.{Assign, Print, End}

-- the names of a text from left to right
abbrev pub term_names : Term → List Name
term_names (Variable name) = name ∷ []
term_names (Integer value) = []

abbrev pub item_names : Item → List Name
item_names (Value term) = term_names term
item_names (Text bytes) = []

abbrev pub statement_names : Statement → List Name
statement_names (Assign target first more) = target ∷ (term_names first ++ flat_map (λ a. term_names a.term) more)
statement_names (Print items) = flat_map item_names items
statement_names End = []

-- a name that appears for the first time goes last
abbrev pub with_name : List Name → Name → List Name
with_name known name = if list_any (name_eq name) known then known else known ++ name ∷ []

-- The variables of a program, in the order of their first appearances.
abbrev pub names_of : List Statement → List Name
names_of body = fold with_name [] (flat_map statement_names body)

-- Each variable takes one storage unit, in that order.
abbrev pub offset_of : List Name → Name → ℕ
offset_of names name = position_or_len (name_eq name) names

abbrev pub main : Name
main = codes "MAIN"

abbrev pub location_of : List Name → Name → Loc
location_of names name = record { area = Local main; offset = offset_of names name }
