use Rattle.f77_forms.specs.Forms.{save_of}
use Rattle.form_parts.proofs.Answered.{sole_made, never_made}
use Rattle.f77_forms.proofs.word_forms.save_form.Goals as goal

pub returns-in_default : goal.returns-in_default
returns-in_default c = never_made save_of (rw c.in_default.is at (c.in_ok-saved.ensures {u = tt}))

pub returns : goal.returns
returns c = sole_made save_of (rw c.in-Some.is at (c.in_ok-saved.ensures {u = tt}))
