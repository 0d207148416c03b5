use Rattle.std.proofs.Common.{◌≤◌, ◌+◌, length, arith}
use Rattle.check_jumps.proofs.Chains.{end_most, step_up}
use Rattle.check_jumps.proofs.intervals.least_end.Goals as goal

pub chain-smaller : goal.chain-smaller
chain-smaller c =
    let within : c.chain.e + 1 ≤ length c.args.ends.now = omega arith in
    omega (arith, end_most _ _ (c.chain.e + 1) _ within (c.requires.behind.each (c.chain.e + 1) (omega arith) within))

pub chain-preserved : goal.chain-preserved
chain-preserved c =
    let within : c.chain.e + 1 ≤ length c.args.ends.now = omega arith in
    let next = c.requires.behind.each (c.chain.e + 1) (omega arith) within in
    record {
      most = omega (arith, end_most _ _ _ _ within next);
      below = step_up c.args.ends.now c.args.firsts.now c.args.j c.chain.e _ c.requires.firsts (omega arith) (omega arith) (omega arith) c.chain.invariant.below next;
    }
