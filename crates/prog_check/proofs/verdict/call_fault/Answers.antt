use Rattle.prog_check.proofs.Verdicts.{calls_found}
use Rattle.prog_check.proofs.verdict.call_fault.Goals as goal

pub returns : goal.returns
returns c =
    let s = c.in_ok-program.ensures.signatures in
    let t = c.in_ok-program.ensures.texts in
    calls_found c.args.units.now c.text_fault.result c.in_ok-cycle.cycle c.first_of.result (c.text_fault.ensures c.args.units.now s t) (c.in_ok-cycle.ensures c.args.units.now s t) c.first_of.ensures
