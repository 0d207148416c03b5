use Rattle.check_names.specs.LargeArrays.{large_at}
use Rattle.check_names.proofs.Passes.{read, pushed}
use Rattle.check_names.proofs.Seeing.{next_constants, large_here}
use Rattle.check_names.proofs.large_arrays.large_flags.Goals as goal

pub loop-statement-preserved : goal.loop-statement-preserved
loop-statement-preserved c =
    let s = c.statement-item.result in
    let u = c.args.unit.now in
    let a = c.args.a.now in
    let k = c.loop-statement.statement-index in
    let e = c.as_slice-statement-items.ensures in
    let stands = read u.statements _ k s e c.loop-statement-test.true c.statement-item.is in
    let i = c.loop-statement.invariant in
    record {
      constants = next_constants _ k s _ _ c.loop-statement-test.true c.statement-item.is i.constants c.in_ok-define_in.ensures;
      flags = pushed (large_at a u) _ _ _ k i.flags (large_here a u _ k s _ _ e stands i.constants c.has_large.ensures) c.in_ok-push.ensures.ok;
    }
