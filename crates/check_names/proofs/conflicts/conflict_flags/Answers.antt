use Rattle.std.proofs.Common.{rules}
use Rattle.check_names.specs.Conflicts.{conflicts_at}
use Rattle.check_names.proofs.Passes.{read, pushed}
use Rattle.check_names.proofs.Noting.{table_next, conflict_here}
use Rattle.check_names.proofs.conflicts.conflict_flags.Goals as goal

pub loop-statement-preserved : goal.loop-statement-preserved
loop-statement-preserved c =
    let s = c.statement-item.result in
    let u = c.args.unit.now in
    let a = c.args.a.now in
    let k = c.loop-statement.statement-index in
    let stands = read u.statements _ k s c.as_slice-statement-items.ensures c.loop-statement-test.true c.statement-item.is in
    let i = c.loop-statement.invariant in
    record {
      first = search rules;
      table = table_next a u k s _ _ _ stands i.first i.table c.in_ok-note_statement.ensures.table;
      flags = pushed (conflicts_at a u) _ _ _ k i.flags (conflict_here a u k s _ _ _ stands i.first i.table c.in_ok-note_statement.ensures.conflict) c.in_ok-push.ensures.ok;
    }
