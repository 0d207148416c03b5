use Rattle.f77_tree.specs.declared.form.Form.TheVariants as f
use Rattle.form_parts.proofs.Answered.{sole_made, never_made}
use Rattle.f77_forms.proofs.word_forms.else_if.Goals as goal

pub returns-in_default : goal.returns-in_default
returns-in_default c = never_made f.ElseIf (rw c.in_default.is at (c.in_ok-x.ensures {u = tt}))

pub returns : goal.returns
returns c = sole_made f.ElseIf (rw c.in-Some.is at (c.in_ok-x.ensures {u = tt}))
