use Rattle.std.proofs.Common.{sym, ap, ◌∙◌}
use Rattle.check_common.specs.Initials.{has_data}
use Rattle.check_common.proofs.Gathering.{unit_without_data}
use Rattle.check_common.proofs.initials.push_unit.Goals as goal

pub returns-then-not-has_data : goal.returns-then-not-has_data
returns-then-not-has_data c =
    unit_without_data c.args.place c.args.unit.now c.args.found.now.items (sym (ap has_data c.as_slice.ensures) ∙ (sym c.has_data.ensures ∙ c.if-not-has_data.true))
