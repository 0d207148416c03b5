use Rattle.std.proofs.Common.{◌≡◌, length, subst, arith}
use Rattle.check_jumps.specs.Astray.{AreTold}
use Rattle.check_jumps.proofs.Straying.{told_start, told_more, told_all}
use Rattle.check_jumps.proofs.jumps.astray.Goals as goal

pub loop-k-init : goal.loop-k-init
loop-k-init c = told_start _ _ (c.in_ok-flags.ensures {u = tt})

pub loop-k-preserved : goal.loop-k-preserved
loop-k-preserved c = told_more _ c.loop-k.k _ _ c.loop-k.invariant (c.in_ok-flag_statement.ensures {u = tt})

pub returns : goal.returns
returns c =
    let ended : c.loop-k.k ≡ length c.args.nests.now.parts.control.statements.now = omega arith in
    told_all _ _ (subst (λ m. AreTold c.args.nests.now.parts.control.statements.now m c.loop-k.flags) ended c.loop-k.invariant)
