use Rattle.std.proofs.Common.{◌∙◌}
use Rattle.check_types.proofs.Finding.{first_overreaching}
use Rattle.check_types.proofs.type_faults.first_overreaching.Goals as goal

pub returns : goal.returns
returns c =
    first_overreaching c.args.facts.now c.args.statements.now c.as_slice.result.now c.as_slice-2.result.now c.earliest_flagged.result
    c.as_slice.ensures (c.as_slice-2.ensures.value ∙ c.in_ok-flags.ensures) c.earliest_flagged.ensures.earliest
