use Rattle.f77_forms.proofs.form.kind_form.Goals as goal

pub returns-in-Worded : goal.returns-in-Worded
returns-in-Worded c = rw c.in-Worded.is c.worded.ensures
