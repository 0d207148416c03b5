use Rattle.thin_text.proofs.Standings.{gone_start, gone_more, gone_whole, broken}
use Rattle.thin_text.proofs.thin.thin_unit.Goals as goal

pub loop-k-init : goal.loop-k-init
loop-k-init c = gone_start c.as_slice-lines.result.now c.new-body.result c.new-body.ensures

pub returns-in_default-clause-thin : goal.returns-in_default-clause-thin
returns-in_default-clause-thin c =
    broken c.in_ok-fault_at.field-0 c.args.unit.now c.as_slice-lines.result.now c.as_slice-lines.ensures c.loop-k.k c.index-lines-k.result c.loop-k.body c.in_ok-statement.field-0 c.loop-k-test.true c.index-lines-k.is c.loop-k.invariant
    (c.in_ok-statement.ensures {u = tt}).thin c.in_default.is (c.in_ok-fault_at.ensures {u = tt})

pub loop-k-preserved : goal.loop-k-preserved
loop-k-preserved c =
    let found = c.in_ok-statement.ensures {u = tt} in
    gone_more c.as_slice-lines.result.now c.loop-k.k c.index-lines-k.result c.loop-k.body c.push.new.self c.in_ok-statement.field-0 c.in-Some.statement c.loop-k-test.true c.index-lines-k.is c.loop-k.invariant
    found.thin found.plain c.in-Some.is (c.in_ok-push.ensures {u = tt}).ok

pub returns-clause-thin : goal.returns-clause-thin
returns-clause-thin c = gone_whole c.args.unit.now c.as_slice-lines.result.now c.as_slice-lines.ensures c.loop-k.k c.loop-k.body c.loop-k-test.false c.loop-k.invariant

pub returns-clause-plain : goal.returns-clause-plain
returns-clause-plain c = c.loop-k.invariant.plain
