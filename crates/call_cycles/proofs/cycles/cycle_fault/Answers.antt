use Rattle.std.proofs.Common.{◌∙◌}
use Rattle.call_cycles.proofs.Cycling.{rows_are}
use Rattle.call_cycles.proofs.cycles.cycle_fault.Goals as goal

pub returns : goal.returns
returns c = λ units s t. c.rows_fault.ensures units ((c.in_ok-rows.ensures {u = tt}) ∙ rows_are units c.args.program.now.signatures c.args.program.now.texts s t)
