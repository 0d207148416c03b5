use Rattle.f77_forms.proofs.word_forms.word_form.Goals as goal

pub returns-in-Integer : goal.returns-in-Integer
returns-in-Integer c = rw c.in-Integer.is c.typed.ensures

pub returns-in-Logical : goal.returns-in-Logical
returns-in-Logical c = rw c.in-Logical.is c.typed-in-Logical.ensures

pub returns-in-GoTo : goal.returns-in-GoTo
returns-in-GoTo c = rw c.in-GoTo.is c.go_to.ensures

pub returns-in-Print : goal.returns-in-Print
returns-in-Print c = rw c.in-Print.is c.print.ensures
