use Rattle.std.proofs.Common.{rules}
use Rattle.std.specs.Bool.{IsTrue}
use Rattle.obj_form.proofs.Ordered.{in_order_first, in_order_more, in_order_all}
use Rattle.obj_form.proofs.runs.are_runs.Goals as goal

pub run-init : goal.run-init
run-init c = in_order_first c.args.runs.now

pub run-preserved : goal.run-preserved
run-preserved c =
    let yes : IsTrue c.is_before.result = search rules in
    in_order_more c.args.runs.now c.run.at _ _ c.run.invariant (c.is_before.ensures.0 yes)

pub returns : goal.returns
returns c = (λ t. in_order_all c.args.runs.now c.run.at c.run-test.false c.run.invariant, λ all. search rules)
