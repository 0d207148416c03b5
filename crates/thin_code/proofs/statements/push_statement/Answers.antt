use Rattle.rv_machine.proofs.Steps.{on_ok}
use Rattle.rv_code.specs.Pieces.{save_code}
use Rattle.thin_code.specs.Code.{sum_code}
use Rattle.thin_code.specs.Seen.{frame_in, address_in}
use Rattle.thin_code.proofs.Emitted.{emits_then}
use Rattle.thin_code.proofs.statements.push_statement.Goals as goal

pub returns-in_ok-push_sum-in-Assign : goal.returns-in_ok-push_sum-in-Assign
returns-in_ok-push_sum-in-Assign c =
    rw c.in-Assign.is (on_ok c.push_store.result (λ e. emits_then (λ p. sum_code (frame_in c.args.area.now) p c.in-Assign.first c.in-Assign.more) (λ p. save_code p (address_in c.args.area.now c.in-Assign.target) 5) (rw c.as_slice.ensures at (c.in_ok-push_sum-in-Assign.ensures {u = tt})) e) c.push_store.ensures)
