use Rattle.f77_forms.proofs.HeadParts.{never_open, found_dummies}
use Rattle.f77_forms.proofs.head_forms.dummies.Goals as goal

pub returns-in_default : goal.returns-in_default
returns-in_default c = never_open c.if-is_empty_list.ensures (rw c.as_slice.ensures at (c.in_default.ensures {u = tt}))

pub returns : goal.returns
returns c = found_dummies c.names_in.result c.if-is_empty_list.ensures (rw c.as_slice.ensures at (c.in-Some.ensures {u = tt})) c.names_in.ensures
