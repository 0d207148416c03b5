use Rattle.std.proofs.Common.{◌∙◌}
use Rattle.check_data.specs.DataTwice.{past_with, statement_repeats, beginning}
use Rattle.check_constants.proofs.Passing.{first_holding}
use Rattle.check_data.proofs.repeats.repeat_fault.Goals as goal

pub returns : goal.returns
returns c =
    first_holding past_with statement_repeats beginning c.args.unit.now.statements c.as_slice.result.now c.as_slice-2.result.now 23 c.earliest_flagged.result
    c.as_slice.ensures (c.as_slice-2.ensures ∙ c.in_ok-flags.ensures {u = tt}) c.earliest_flagged.ensures.earliest
