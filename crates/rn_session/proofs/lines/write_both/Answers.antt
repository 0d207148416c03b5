use Rattle.rn_ports.proofs.Sending.{part_first, part_then}
use Rattle.rn_session.proofs.lines.write_both.Goals as goal

pub returns-in-Ok-clause-front : goal.returns-in-Ok-clause-front
returns-in-Ok-clause-front g c = part_then _ (c.in-Ok.ensures {u = tt}).all c.write_whole-in-Ok.ensures.front

pub returns-in-Err-clause-front : goal.returns-in-Err-clause-front
returns-in-Err-clause-front g c = part_first _ c.write_whole.ensures.front
