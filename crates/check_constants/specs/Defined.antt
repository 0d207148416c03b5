-- The named constants that the text before a place defines (ANSI X3.9-1978, section 8.6). One without a value is among them too.
use Rattle.std.specs.Prelude.{List, [], fold}
use Rattle.f77_tree.specs.declared.expr.Expr.{Expr}
use Rattle.f77_tree.specs.declared.form.Form.{Form, out-Form}
use Rattle.f77_tree.specs.declared.form.Form.TheOpen.{Form-F}
use Rattle.f77_tree.specs.declared.unit.Stmt.{Stmt}
use Rattle.f77_values.specs.Tables.{Name, with_name}
use Rattle.f77_values.specs.Constants.{with_constant}
use Rattle.check_constants.specs.declared.defined.Defined.{Defined}

abbrev pub nothing : Defined
nothing = record { names = []; values = [] }

-- A definition takes place behind those before it, also within one PARAMETER statement.
abbrev pub with_definition : Defined → Name × Expr → Defined
with_definition d definition = record { names = with_name d.names definition.0; values = with_constant d.values definition }

abbrev pub with_definitions : Defined → List (Name × Expr) → Defined
with_definitions d all = fold with_definition d all

abbrev pub with_form : Defined → Form-F Form → Defined
with_form d (Form-F.Parameter definitions) = with_definitions d definitions
with_form d _ = d

abbrev pub with_statement : Defined → Stmt → Defined
with_statement d s = with_form d (out-Form s.form)

-- what is defined behind these statements
abbrev pub defined : List Stmt → Defined
defined statements = fold with_statement nothing statements
