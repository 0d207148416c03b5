-- Thin statements with their names looked up: variables are places of the local area, in the order of the names.
use Rattle.std.specs.Prelude.{List, [], ◌∷◌, fold}
use Rattle.run_model.specs.Storage.{Name}
use Rattle.f77_tree.specs.declared.unit.Ty.TheVariants as types
use Rattle.f77_tree.specs.declared.unit.Value.TheVariants as values
use Rattle.f77_semantics.specs.Program as program
use Rattle.f77_semantics.specs.Program.{Term, Terms, Statement}
use Rattle.thin_form.specs.Forms.{op_of}
use Rattle.thin_form.specs.declared.statement.Addend.{Addend}
use Rattle.thin_form.specs.declared.statement.Term.{Term as ThinTerm}
use Rattle.thin_form.specs.declared.statement.Term.TheVariants.{Variable, Integer}
use Rattle.thin_form.specs.declared.statement.Item.{Item}
use Rattle.thin_form.specs.declared.statement.Item.TheVariants.{Value, Text}
use Rattle.thin_form.specs.declared.statement.Statement.{Statement as ThinStatement}
use Rattle.thin_form.specs.declared.statement.Statement.TheVariants.{Assign, Print, End}
use Rattle.thin_code.specs.Layout.{offset_of}
use Rattle.f77_semantics.specs.declared.storage.Base.TheVariants.{Own}

abbrev pub variable : List Name → Name → Term
variable names name = program.Variable types.Integer (Own (offset_of names name))

abbrev pub term_image : List Name → ThinTerm → Term
term_image names (Variable name) = variable names name
term_image names (Integer x) = program.Literal (values.Integer x)

abbrev pub added : List Name → Term → Addend → Term
added names t a = program.Binary (op_of a.sign) t (term_image names a.term)

abbrev pub sum_image : List Name → ThinTerm → List Addend → Term
sum_image names first more = fold (added names) (term_image names first) more

abbrev pub item_image : List Name → Item → Term
item_image names (Value t) = term_image names t
item_image names (Text bytes) = program.Text bytes

abbrev pub items_image : List Name → List Item → Terms
items_image names [] = program.End
items_image names (i ∷ is) = program.◌and◌ (item_image names i) (items_image names is)

abbrev pub image : List Name → ThinStatement → Statement
image names (Assign target first more) = program.Assign (variable names target) (sum_image names first more)
image names (Print is) = program.Print (items_image names is)
image names End = program.Stop
