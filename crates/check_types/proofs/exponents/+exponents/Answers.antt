use Rattle.std.proofs.Common.{None, ap, sym, ◌∙◌}
use Rattle.check_types.specs.Exponents.{reckoned}
use Rattle.check_types.proofs.Members.{reckoned-Apply}
use Rattle.check_types.proofs.exponents.+exponents.Goals as goal

pub reckon-returns-in-Apply : goal.reckon-returns-in-Apply
reckon-returns-in-Apply t c =
    (λ i. record { value = None; wrong = c.have_wrong_exponents.ensures i })
    ∙ (sym (reckoned-Apply c.args.constants.now c.in-Apply.field-0 c.in-Apply.list)
    ∙ ap (reckoned c.args.constants.now) (sym c.in-Apply.is))
