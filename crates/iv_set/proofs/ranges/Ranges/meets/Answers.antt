use Rattle.std.proofs.Common.{rules, ◌≡◌, subst, not}
use Rattle.iv_set.specs.Toggles.{both, is_empty}
use Rattle.iv_set.specs.Sets.{made, IsSet}
use Rattle.iv_set.proofs.Runs.{apart, apart_only}
use Rattle.iv_set.proofs.ranges.Ranges.meets.Goals as goal

pub returns-clause-apart : goal.returns-clause-apart
returns-clause-apart c =
    let one : IsSet c.args.self.now = subst IsSet c.self.view_is c.self.invariant in
    let other : IsSet c.args.other.now = subst IsSet c.other.view_is c.other.invariant in
    let e : c.any.result ≡ not (is_empty (made both c.args.self.now c.args.other.now)) = search rules in
    apart one other c.any.result e

pub returns-clause-only : goal.returns-clause-only
returns-clause-only c =
    let one : IsSet c.args.self.now = subst IsSet c.self.view_is c.self.invariant in
    let other : IsSet c.args.other.now = subst IsSet c.other.view_is c.other.invariant in
    let e : c.any.result ≡ not (is_empty (made both c.args.self.now c.args.other.now)) = search rules in
    apart_only one other c.any.result e
