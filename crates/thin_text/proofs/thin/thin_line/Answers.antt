use Rattle.thin_text.proofs.Lines.{no_line, line_found, knows_none, knows_some}
use Rattle.thin_text.proofs.thin.thin_line.Goals as goal

pub returns-in_default-clause-thin : goal.returns-in_default-clause-thin
returns-in_default-clause-thin c = λ behind is. no_line c.args.line.now behind (knows_none behind c.as_slice.result.now c.args.line.now.text c.in_ok-form.field-0 c.in_default.is c.as_slice.ensures (c.in_ok-form.ensures {u = tt} behind is))

pub returns-clause-thin : goal.returns-clause-thin
returns-clause-thin c = line_found c.args.line.now c.args.last c.in-Some.form c.thin_statement.result c.if-line-ne0.false
    (λ behind is. knows_some behind c.as_slice.result.now c.args.line.now.text c.in_ok-form.field-0 c.in-Some.form c.in-Some.is c.as_slice.ensures (c.in_ok-form.ensures {u = tt} behind is))
    c.thin_statement.ensures.statement
