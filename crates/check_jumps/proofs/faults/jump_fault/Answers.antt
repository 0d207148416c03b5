use Rattle.std.proofs.Common.{List, IfOk, subst}
use Rattle.f77_tree.specs.declared.unit.Stmt.{Stmt}
use Rattle.fault_marks.specs.Earliest.{Earliest}
use Rattle.check_jumps.specs.Faults.{JumpFaults}
use Rattle.check_jumps.proofs.faults.jump_fault.Goals as goal

pub returns : goal.returns
returns c = record { earliest = subst (λ (u : List Stmt). IfOk c.fault_in.result (λ mark. Earliest (JumpFaults u) mark)) (c.in_ok-nests.ensures {u = tt}).same c.fault_in.ensures }
