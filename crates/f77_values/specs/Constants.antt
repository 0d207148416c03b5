-- Constant expressions (ANSI X3.9-1978, section 6.1.3), and named constants (section 8.6).
use Rattle.std.specs.Prelude.{List, [], Option, Some, None, fold}
use Rattle.f77_tree.specs.declared.expr.Expr.{Expr, fold-Expr}
use Rattle.f77_tree.specs.declared.expr.Expr.TheOpen.{Expr-F}
use Rattle.f77_tree.specs.declared.expr.Op.{Op}
use Rattle.f77_tree.specs.declared.form.Form.{Form}
use Rattle.f77_tree.specs.declared.form.Form.TheViews.{out-Form}
use Rattle.f77_tree.specs.declared.form.Form.TheOpen.{Form-F}
use Rattle.f77_tree.specs.declared.unit.Stmt.{Stmt}
use Rattle.f77_tree.specs.declared.unit.Value.{Value}
use Rattle.f77_tree.specs.declared.unit.Value.TheVariants.{Integer, Logical}
use Rattle.f77_values.specs.Tables.{Name, Told, what, with_told}
use Rattle.f77_values.specs.Arithmetic.{operate, negated, kept, denied}

abbrev pub applied : (Value → Option Value) → Option Value → Option Value
applied operator None = None
applied operator (Some x) = operator x

abbrev pub operated : Op → Option Value → Option Value → Option Value
operated op (Some x) (Some y) = operate op x y
operated op _ _ = None

-- Integers, truth values, named constants, parentheses and operators make a constant; a name with a list makes none.
abbrev pub value_step : Told Value → Expr-F (Option Value) → Option Value
value_step named (Expr-F.Int n) = Some (Integer n)
value_step named (Expr-F.Truth b) = Some (Logical b)
value_step named (Expr-F.Text bytes) = None
value_step named (Expr-F.Scalar name) = what named name
value_step named (Expr-F.Apply name list) = None
value_step named (Expr-F.Paren e) = e
value_step named (Expr-F.Neg e) = applied negated e
value_step named (Expr-F.Plus e) = applied kept e
value_step named (Expr-F.Not e) = applied denied e
value_step named (Expr-F.Binary op a b) = operated op a b

-- The value of an expression under the named constants that are known, if it has one.
abbrev pub value_of : Told Value → Expr → Option Value
value_of named e = fold-Expr (Option Value) (value_step named) e

abbrev pub defined : Told Value → Name → Option Value → Told Value
defined named name None = named
defined named name (Some value) = with_told named name value

-- What PARAMETER defines is known from there on.
abbrev pub with_constant : Told Value → Name × Expr → Told Value
with_constant named definition = defined named definition.0 (value_of named definition.1)

abbrev pub form_constants : Told Value → Form-F Form → Told Value
form_constants named (Form-F.Parameter definitions) = fold with_constant named definitions
form_constants named _ = named

abbrev pub with_statement : Told Value → Stmt → Told Value
with_statement named s = form_constants named (out-Form s.form)

-- the named constants that are known behind these statements
abbrev pub constants : List Stmt → Told Value
constants statements = fold with_statement [] statements
