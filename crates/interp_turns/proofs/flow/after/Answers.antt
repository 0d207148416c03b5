use Rattle.std.proofs.Common.{sym, ap, ◌∙◌}
use Rattle.f77_flow.specs.Graph.{At}
use Rattle.interp_turns.proofs.Advances.{after_below}
use Rattle.interp_turns.proofs.flow.after.Goals as goal

pub returns-else-d-control-clause-value : goal.returns-else-d-control-clause-value
returns-else-d-control-clause-value c = ap At c.below.ensures.value ∙ sym (after_below c.args.control.now.statements.now c.args.k c.innermost-d.result c.innermost-d.ensures c.if-d-control.false)
