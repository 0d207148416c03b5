use Rattle.std.proofs.Common.{sym, subst}
use Rattle.std.proofs.lemmas.Result.{err_from_is_err_and}
use Rattle.rn_draft.proofs.Gathered.{Gathered, gathered_start, gathered_more, gathered_all, gathered_fault, ended_at}
use Rattle.rn_draft.proofs.accepted.accept_units.Goals as goal

pub loop-unit-init : goal.loop-unit-init
loop-unit-init c = subst (Gathered c.args.units.now 0) (sym c.new-trees.ensures) (gathered_start c.args.units.now)

pub accept_unit-requires : goal.accept_unit-requires
accept_unit-requires c = record { ended = ended_at c.args.units.now c.loop-unit.unit-index c.unit-item.result c.loop-unit-test.true c.unit-item.is c.requires.ended }

pub returns-in_err-tree-clause-fault : goal.returns-in_err-tree-clause-fault
returns-in_err-tree-clause-fault c =
    let p = err_from_is_err_and c.from_residual.result c.from_residual.ensures.1 in
    rw (p.1, p.2) (gathered_fault c.in_err-tree.field-0.0 c.args.units.now c.loop-unit.unit-index c.unit-item.result c.loop-unit.trees c.loop-unit-test.true c.unit-item.is c.loop-unit.invariant (c.in_err-tree.ensures {u = tt}).fault)

pub loop-unit-preserved : goal.loop-unit-preserved
loop-unit-preserved c =
    let t = c.in_ok-tree.ensures {u = tt} in
    gathered_more c.args.units.now c.loop-unit.unit-index c.unit-item.result c.loop-unit.trees c.push.new.self c.in_ok-tree.tree c.loop-unit-test.true c.unit-item.is c.loop-unit.invariant t.accepted t.few (c.in_ok-push.ensures {u = tt}).ok

pub returns-clause-accepted : goal.returns-clause-accepted
returns-clause-accepted c = gathered_all c.args.units.now c.loop-unit.unit-index c.loop-unit.trees c.loop-unit-test.false c.loop-unit.invariant
