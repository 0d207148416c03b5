use Rattle.fixed_form.proofs.HeadNames.{head_subroutine, head_of}
use Rattle.fixed_form.proofs.unit_names.head_name.Goals as goal

pub returns-in-Some-subroutine : goal.returns-in-Some-subroutine
returns-in-Some-subroutine c = head_subroutine (c.in-Some-subroutine.ensures {u = tt})

pub returns : goal.returns
returns c = head_of c.function.result (c.in_default.ensures {u = tt}) (c.in_default-subroutine.ensures {u = tt}) (c.in_default-block.ensures {u = tt}) c.function.ensures
