use Rattle.std.proofs.Common.{◌∙◌}
use Rattle.check_types.proofs.Finding.{first_breaking}
use Rattle.check_types.proofs.type_faults.first_breaking.Goals as goal

pub returns : goal.returns
returns c =
    first_breaking c.args.facts.now c.args.statements.now c.as_slice.result.now c.as_slice-2.result.now c.args.rule c.args.number c.earliest_flagged.result
    c.as_slice.ensures (c.as_slice-2.ensures.value ∙ c.in_ok-flags.ensures) c.earliest_flagged.ensures.earliest
