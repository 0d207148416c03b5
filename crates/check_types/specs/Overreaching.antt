-- Where exponents are wrong in a unit. A named constant is known behind its own definition, also in the same PARAMETER statement
-- (ANSI X3.9-1978, section 8.6).
use Rattle.std.specs.Prelude.{Bool, false, ◌||◌, List, [], ◌∷◌}
use Rattle.f77_tree.specs.declared.expr.Expr.{Expr}
use Rattle.f77_tree.specs.declared.form.Form.{Form}
use Rattle.f77_tree.specs.declared.form.Form.TheOpen.{Form-F}
use Rattle.f77_tree.specs.declared.form.Form.TheViews.{out-Form}
use Rattle.f77_tree.specs.declared.unit.Stmt.{Stmt}
use Rattle.f77_tree.specs.declared.unit.Value.{Value}
use Rattle.f77_names.specs.declared.facts.Facts.{Facts}
use Rattle.f77_values.specs.Constants.{with_constant, with_statement}
use Rattle.f77_values.specs.Tables.{Name, Told}
use Rattle.check_types.specs.declared.breaks.Rule.TheVariants.{Exponents}
use Rattle.check_types.specs.Exponents.{has_wrong_exponent}
use Rattle.check_types.specs.Breaks.{form_breaks}

-- A definition has a wrong exponent under the named constants before it.
abbrev pub definitions_overreach : Told Value → List (Name × Expr) → Bool
definitions_overreach named [] = false
definitions_overreach named (d ∷ others) = has_wrong_exponent named d.1 || definitions_overreach (with_constant named d) others

abbrev pub overreaches_in : Facts → Told Value → Form → Form-F Form → Bool
overreaches_in f named form (Form-F.Parameter definitions) = definitions_overreach named definitions
overreaches_in f named form _ = form_breaks f named Exponents form

-- A statement has a wrong exponent, where these named constants are known before it.
abbrev pub overreaches : Facts → Told Value → Stmt → Bool
overreaches f named s = overreaches_in f named s.form (out-Form s.form)

-- for each of the statements, where these named constants are known before the first
abbrev pub overreaches_from : Facts → Told Value → List Stmt → List Bool
overreaches_from f named [] = []
overreaches_from f named (s ∷ others) = overreaches f named s ∷ overreaches_from f (with_statement named s) others
