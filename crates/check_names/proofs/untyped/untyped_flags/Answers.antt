use Rattle.std.proofs.Common.{rules}
use Rattle.check_names.specs.Untyped.{untyped_at}
use Rattle.check_names.proofs.Passes.{read, pushed}
use Rattle.check_names.proofs.Seeing.{seen_next, untyped_here}
use Rattle.check_names.proofs.untyped.untyped_flags.Goals as goal

pub loop-statement-preserved : goal.loop-statement-preserved
loop-statement-preserved c =
    let s = c.statement-item.result in
    let u = c.args.unit.now in
    let f = c.args.facts.now in
    let k = c.loop-statement.statement-index in
    let stands = read u.statements _ k s c.as_slice-statement-items.ensures c.loop-statement-test.true c.statement-item.is in
    let i = c.loop-statement.invariant in
    record {
      first = search rules;
      seen = seen_next u k s _ _ _ stands i.first i.seen c.in_ok-see_statement.ensures.seen;
      flags = pushed (untyped_at f u) _ _ _ k i.flags (untyped_here f u k s _ _ _ stands i.first i.seen c.in_ok-see_statement.ensures.untyped) c.in_ok-push.ensures.ok;
    }
