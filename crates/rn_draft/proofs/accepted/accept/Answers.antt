use Rattle.std.proofs.Common.{List, subst}
use Rattle.std.proofs.lemmas.Result.{err_from_is_err_and}
use Rattle.f77_tree.specs.declared.unit.Unit.{Unit as SourceUnit}
use Rattle.prog_check.specs.ProgramFaults.{Explains}
use Rattle.rn_draft.proofs.Gathered.{program_fault}
use Rattle.rn_draft.proofs.accepted.accept.Goals as goal

pub returns-in_err-check_program-clause-fault : goal.returns-in_err-check_program-clause-fault
returns-in_err-check_program-clause-fault c =
    let p = err_from_is_err_and c.from_residual-in_err-check_program.result c.from_residual-in_err-check_program.ensures.1 in
    let h = subst (λ (ts : List SourceUnit). Explains c.in_err-check_program.field-0.0 ts) c.as_slice.ensures (c.in_err-check_program.ensures {u = tt}).fault in
    rw (p.1, p.2) (program_fault c.in_err-check_program.field-0.0 c.args.units.now c.in_ok-trees.trees (c.in_ok-trees.ensures {u = tt}).accepted h)
