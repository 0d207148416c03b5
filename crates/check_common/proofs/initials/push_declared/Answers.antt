use Rattle.std.proofs.Common.{sym, ap, ◌∙◌}
use Rattle.f77_store.specs.Areas.{commons}
use Rattle.check_common.proofs.Gathering.{unit_without_common}
use Rattle.check_common.proofs.initials.push_declared.Goals as goal

pub returns-then-is_empty : goal.returns-then-is_empty
returns-then-is_empty c =
    unit_without_common c.args.place c.args.unit.now c.args.found.now.items
    (sym (ap commons c.requires) ∙ (sym (c.in_ok-members.ensures {u = tt}) ∙ c.is_empty.ensures.0 c.if-is_empty.true))
