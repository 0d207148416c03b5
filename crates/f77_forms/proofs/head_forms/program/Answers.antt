use Rattle.f77_forms.proofs.HeadParts.{never_program}
use Rattle.f77_forms.proofs.head_forms.program.Goals as goal

pub returns-in_default : goal.returns-in_default
returns-in_default c = never_program (rw c.as_slice.ensures at (c.in_default.ensures {u = tt}))
