use Rattle.prog_check.proofs.Verdicts.{program_found}
use Rattle.prog_check.proofs.verdict.program_fault.Goals as goal

pub returns : goal.returns
returns c =
    program_found c.args.units.now c.main_fault.result c.in_ok-calls.calls c.in_ok-initial.initial c.in_ok-limits.limits c.first_of-later.result c.first_of-others.result c.first_of.result
    c.main_fault.ensures (c.in_ok-calls.ensures {u = tt}) (c.in_ok-initial.ensures {u = tt}) (c.in_ok-limits.ensures {u = tt}) c.first_of-later.ensures c.first_of-others.ensures c.first_of.ensures
