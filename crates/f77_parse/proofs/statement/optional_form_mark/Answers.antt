use Rattle.f77_parse.proofs.statement.optional_form_mark.Goals as goal

pub returns : goal.returns
returns c = λ before knows. rw c.in-Some.is (c.form_mark.ensures before knows)
