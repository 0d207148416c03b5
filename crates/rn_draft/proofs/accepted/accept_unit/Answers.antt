use Rattle.std.proofs.lemmas.Result.{err_from_is_err_and}
use Rattle.rn_draft.proofs.Gathered.{tree_fault}
use Rattle.rn_draft.proofs.accepted.accept_unit.Goals as goal

pub returns-in_err-check_unit-clause-fault : goal.returns-in_err-check_unit-clause-fault
returns-in_err-check_unit-clause-fault c =
    let p = err_from_is_err_and c.from_residual-in_err-check_unit.result c.from_residual-in_err-check_unit.ensures.1 in
    let t = c.in_ok-tree.ensures {u = tt} in
    rw (p.1, p.2) (tree_fault c.in_err-check_unit.field-0.0 c.args.unit.now c.in_ok-tree.tree t.unit t.faultless (c.in_err-check_unit.ensures {u = tt}).fault)
