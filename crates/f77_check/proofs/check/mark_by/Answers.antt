use Rattle.std.proofs.Common.{List, subst}
use Rattle.f77_tree.specs.declared.unit.Stmt.{Stmt}
use Rattle.fault_marks.specs.Earliest.{Earliest}
use Rattle.check_jumps.specs.Faults.{JumpFaults}
use Rattle.f77_check.proofs.Checked.{found}
use Rattle.f77_check.proofs.check.mark_by.Goals as goal

pub returns : goal.returns
returns c =
    let jumps = subst (λ (u : List Stmt). Earliest (JumpFaults u) c.in_ok-of_jumps.of_jumps) c.as_slice.ensures (c.in_ok-of_jumps.ensures {u = tt}) in
    found c.args.unit.now c.in_ok-of_names.of_names c.in_ok-of_jumps.of_jumps c.in_ok-of_types.of_types c.in_ok-of_values.of_values c.first_of-names_and_jumps.result c.first_of-types_and_values.result c.first_of.result
    (c.in_ok-of_names.ensures {u = tt}).earliest jumps (c.in_ok-of_types.ensures {u = tt}) (c.in_ok-of_values.ensures {u = tt})
    c.first_of-names_and_jumps.ensures.first c.first_of-types_and_values.ensures.first c.first_of.ensures.first
