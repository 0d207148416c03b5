use Rattle.std.proofs.Common.{refl, ◌<◌, ◌≤◌, length, arith}
use Rattle.f77_flow.proofs.Ending.{ends_more, ends_same}
use Rattle.f77_flow.proofs.loops.Ends.add.Goals as goal

pub returns-then-at-len : goal.returns-then-at-len
returns-then-at-len c = λ u none e is.
    let within : c.args.last < length c.args.self.now.innermost = omega (arith, c.len.ensures, c.if-at-len.true) in
    ends_more u c.args.d c.args.last c.number_at.result c.args.self.now _ e is (omega (arith, is.innermost.long)) (c.number_at.ensures.within within) (c.in_ok-push.ensures {u = tt}).ok c.set.ensures

pub returns-else-at-len : goal.returns-else-at-len
returns-else-at-len c = λ u none e is.
    let behind : length c.args.self.now.innermost ≤ c.args.last = omega (arith, c.len.ensures, c.if-at-len.false) in
    ends_same u c.args.d c.args.last c.args.self.now _ e is (omega (arith, is.innermost.long)) (rw (← none, ← c.number_at.ensures.behind behind) ((c.in_ok-push.ensures {u = tt}).ok)) refl
