use Rattle.std.proofs.Common.{ap, ◌∙◌}
use Rattle.fault_marks.specs.Earliest.{first_of}
use Rattle.f77_parse.proofs.Showing.{form_first}
use Rattle.f77_parse.proofs.statement.form_mark.Goals as goal

pub returns : goal.returns
returns c = λ before knows. form_first c.args.context before c.args.line c.args.form.now knows c.is_late_foreign_head.result c.passes_dummies.result c.is_late_foreign_head.ensures c.breaks_order.result c.breaks_order.ensures c.passes_dummies.ensures
    c.mark_if-head.result c.mark_if-order.result c.mark_if-dummies.result c.first_of-2.result c.mark_if-head.ensures.mark c.mark_if-order.ensures.mark c.mark_if-dummies.ensures.mark (c.first_of-2.ensures.first ∙ ap (first_of c.mark_if-head.result) c.first_of.ensures.first)
