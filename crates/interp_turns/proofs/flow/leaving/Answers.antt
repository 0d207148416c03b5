use Rattle.std.proofs.Common.{◌≤◌, ◌+◌, length, arith, sym, ap, ◌∙◌}
use Rattle.f77_flow.specs.Labels.{last_of}
use Rattle.f77_flow.specs.Blocks.{below}
use Rattle.f77_flow.specs.Graph.{At}
use Rattle.interp_turns.proofs.Advances.{leaving_below, leaving_behind}
use Rattle.interp_turns.proofs.flow.leaving.Goals as goal

pub returns-then-last-count-clause-value : goal.returns-then-last-count-clause-value
returns-then-last-count-clause-value c =
    let u = c.args.control.now.statements.now in
    ap At (c.below.ensures.value ∙ ap (below u) c.last-last.ensures) ∙ sym (leaving_below u c.args.d c.outer-outer.result c.requires c.outer-outer.ensures c.if-outer-count.false)

pub returns-else-last-count-clause-value : goal.returns-else-last-count-clause-value
returns-else-last-count-clause-value c =
    let u = c.args.control.now.statements.now in
    let far : length u ≤ last_of u c.args.d = omega (arith, c.last-last.ensures) in
    ap (λ j. At (j + 1)) c.last-last.ensures ∙ sym (leaving_behind u c.args.d far)
