use Rattle.std.proofs.Common.{◌++◌}
use Rattle.rv_machine.proofs.Steps.{on_ok}
use Rattle.rv_code.specs.Pieces.{byte_code, show_code}
use Rattle.thin_code.specs.Code.{term_code}
use Rattle.thin_code.specs.Seen.{frame_in}
use Rattle.thin_code.proofs.Emitted.{emits_then}
use Rattle.thin_code.proofs.statements.push_item.Goals as goal

pub returns-in-Value : goal.returns-in-Value
returns-in-Value c =
    rw c.in-Value.is (on_ok c.push_value.result (λ e. emits_then (λ p. byte_code 32) (λ p. term_code (frame_in c.args.area.now) 10 p c.in-Value.term ++ show_code) (c.in_ok-push_byte.ensures {u = tt}) e) c.push_value.ensures)
