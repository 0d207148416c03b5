use Rattle.f77_check.proofs.Checked.{values_found}
use Rattle.f77_check.proofs.check.values_by.Goals as goal

pub returns : goal.returns
returns c =
    values_found c.args.unit.now c.in_ok-of_constants.of_constants c.in_ok-of_data.of_data c.first_of.result
    c.in_ok-of_constants.ensures.first c.in_ok-of_data.ensures.first c.first_of.ensures.first
