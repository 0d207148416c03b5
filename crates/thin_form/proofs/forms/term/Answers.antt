use Rattle.std.proofs.Common.{◌≡◌, true, sym, ap, ◌∙◌, refl, rules}
use Rattle.f77_tree.specs.declared.expr.Expr.TheVariants as e
use Rattle.thin_form.specs.declared.statement.Term.TheVariants.{Variable}
use Rattle.thin_form.specs.Forms.{is_integer_name, variable}
use Rattle.thin_form.proofs.Terms.{integer_found}
use Rattle.thin_form.proofs.forms.term.Goals as goal

pub returns-in_ok-copy-in-Scalar-clause-term : goal.returns-in_ok-copy-in-Scalar-clause-term
returns-in_ok-copy-in-Scalar-clause-term c = variable c.in-Scalar.name c.in-Scalar.is (sym c.is_integer_name.ensures ∙ c.if-not-is_integer_name.false) (ap Variable (c.in_ok-copy-in-Scalar.ensures {u = tt}))

pub returns-in-Int-clause-term : goal.returns-in-Int-clause-term
returns-in-Int-clause-term c = integer_found c.args.tree.now c.in-Int.value c.integer.result c.in-Int.is c.integer.ensures.term
