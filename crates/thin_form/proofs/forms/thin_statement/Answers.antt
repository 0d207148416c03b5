use Rattle.std.proofs.Common.{List, refl, subst}
use Rattle.std.specs.List.{AllZip}
use Rattle.f77_tree.specs.declared.expr.Expr.{Expr}
use Rattle.thin_form.specs.Lacks.{Lacks}
use Rattle.thin_form.specs.Forms.{IsItemOf, print}
use Rattle.thin_form.proofs.Statements.{assign_found, no_print}
use Rattle.thin_form.proofs.forms.thin_statement.Goals as goal

pub returns-in-Assign-clause-statement : goal.returns-in-Assign-clause-statement
returns-in-Assign-clause-statement c = assign_found c.args.tree.now c.in-Assign.target c.in-Assign.value c.assignment.result c.in-Assign.is c.assignment.ensures.assignment

pub returns-in_default-2-clause-statement : goal.returns-in_default-2-clause-statement
returns-in_default-2-clause-statement c =
    let none = rw c.in_default-2.is at (c.in_ok-all-in-Print.ensures {u = tt}).items in
    no_print c.args.tree.now c.in-Print.trees c.in-Print.is (subst (λ (x : List Expr). Lacks (AllZip IsItemOf x)) c.as_slice.ensures none)

pub returns-in-Some-clause-statement : goal.returns-in-Some-clause-statement
returns-in-Some-clause-statement c =
    let some = rw c.in-Some.is at (c.in_ok-all-in-Print.ensures {u = tt}).items in
    print c.in-Print.trees c.in-Some.all c.in-Print.is (subst (λ (x : List Expr). AllZip IsItemOf x c.in-Some.all) c.as_slice.ensures some) refl
