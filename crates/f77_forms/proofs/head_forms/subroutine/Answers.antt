use Rattle.std.proofs.Common.{sym, ◌∙◌}
use Rattle.f77_forms.proofs.HeadParts.{never_subroutine, sole_bare_subroutine, never_subroutine_list, sole_subroutine}
use Rattle.f77_forms.proofs.head_forms.subroutine.Goals as goal

pub returns-in_default : goal.returns-in_default
returns-in_default c = never_subroutine (rw c.as_slice.ensures at (c.in_default.ensures {u = tt}))

pub returns-then-is_name : goal.returns-then-is_name
returns-then-is_name c = rw (c.in_ok-name_of.ensures {u = tt}, c.new.ensures) (sole_bare_subroutine (rw c.as_slice.ensures at (c.in-Some.ensures {u = tt})) (sym c.is_name.ensures ∙ c.if-is_name.true))

pub returns-in_default-2 : goal.returns-in_default-2
returns-in_default-2 c = never_subroutine_list (rw c.as_slice.ensures at (c.in-Some.ensures {u = tt})) (sym c.is_name.ensures ∙ c.if-is_name.false) (rw c.in_default-2.is at (c.in_ok-name.ensures {u = tt}))

pub returns : goal.returns
returns c = sole_subroutine (rw c.as_slice.ensures at (c.in-Some.ensures {u = tt})) (sym c.is_name.ensures ∙ c.if-is_name.false) (rw c.in-Some-2.is at (c.in_ok-name.ensures {u = tt}))
