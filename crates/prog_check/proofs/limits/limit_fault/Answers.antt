use Rattle.prog_check.proofs.Limiting.{limits_found}
use Rattle.prog_check.proofs.limits.limit_fault.Goals as goal

pub returns : goal.returns
returns c =
    limits_found c.args.units.now c.many_units.result c.passing-2.result c.passing.result c.in_ok-storage.storage c.first_of-tokens.result c.first_of-weight.result c.first_of.result
    c.many_units.ensures c.passing-2.ensures c.passing.ensures (c.in_ok-storage.ensures {u = tt}) c.first_of-weight.ensures c.first_of-tokens.ensures c.first_of.ensures
