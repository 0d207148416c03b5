use Rattle.std.proofs.lemmas.Result.{IfOk-weaker}
use Rattle.interp_lower.proofs.Whole.{with_lines_of}
use Rattle.interp_lower.proofs.routine.with_names.Goals as goal

pub returns : goal.returns
returns c = IfOk-weaker c.with_lines.result _ _
    (λ made p. with_lines_of made c.args.names.now c.args.unit.now c.in_ok-lines.lines c.args.callees c.args.control.now.statements.now c.is_main.result c.requires c.is_main.ensures c.in_ok-lines.ensures p)
    c.with_lines.ensures
