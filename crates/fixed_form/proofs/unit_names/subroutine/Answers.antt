use Rattle.std.proofs.Common.{sym, ◌∙◌}
use Rattle.fixed_form.proofs.HeadNames.{no_subroutine, subroutine_of}
use Rattle.fixed_form.proofs.unit_names.subroutine.Goals as goal

pub returns-in_default : goal.returns-in_default
returns-in_default c = no_subroutine (rw c.as_slice.ensures at (c.in_default.ensures {u = tt}))

pub returns : goal.returns
returns c = subroutine_of c.named_list.result (rw c.as_slice.ensures at (c.in-Some.ensures {u = tt})) (sym c.is_name.ensures ∙ c.if-is_name.false) c.named_list.ensures
