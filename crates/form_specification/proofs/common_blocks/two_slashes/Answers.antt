use Rattle.form_specification.proofs.Blocks.{no_first_slash, no_second_slash}
use Rattle.form_specification.proofs.common_blocks.two_slashes.Goals as goal

pub returns-in_err-inside-clause-slashes : goal.returns-in_err-inside-clause-slashes
returns-in_err-inside-clause-slashes c = rw c.from_residual.ensures (no_first_slash (c.in_err-inside.ensures {u = tt}).next)

pub returns-in_err-rest-clause-slashes : goal.returns-in_err-rest-clause-slashes
returns-in_err-rest-clause-slashes c = rw c.from_residual-in_err-rest.ensures (no_second_slash (c.in_ok-inside.ensures {u = tt}).next (c.in_err-rest.ensures {u = tt}).next)
