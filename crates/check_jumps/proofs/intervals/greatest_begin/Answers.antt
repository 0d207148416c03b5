use Rattle.std.proofs.Common.{◌<◌, ◌-◌, arith}
use Rattle.check_jumps.proofs.Chains.{begin_most, step_down}
use Rattle.check_jumps.proofs.intervals.greatest_begin.Goals as goal

pub chain-smaller : goal.chain-smaller
chain-smaller c =
    let within : c.chain.m - 1 < c.args.j = omega arith in
    omega (arith, begin_most _ _ _ (c.requires.before.each (c.chain.m - 1) within))

pub chain-preserved : goal.chain-preserved
chain-preserved c =
    let within : c.chain.m - 1 < c.args.j = omega arith in
    let next = c.requires.before.each (c.chain.m - 1) within in
    record {
      most = omega (arith, begin_most _ _ _ next);
      above = step_down c.args.ends.now c.args.j c.chain.m _ (omega arith) (omega arith) (omega arith) c.chain.invariant.above next;
    }
