use Rattle.std.proofs.Common.{sym, ap, ◌∙◌, arith}
use Rattle.prog_check.specs.Checks.{is_misfit, has_misfit}
use Rattle.prog_check.proofs.Pairs.{pairs_end}
use Rattle.prog_check.proofs.checks.has_misfit.Goals as goal

pub returns : goal.returns
returns c =
    let wanted = c.as_slice-wanted.result.now in
    let given = c.as_slice-given.result.now in
    sym (pairs_end is_misfit wanted given c.loop-k.k (omega (arith, c.loop-k-test.false, c.min-k-end.ensures)))
    ∙ (c.loop-k.invariant
    ∙ (ap (λ ds. has_misfit ds given) c.as_slice-wanted.ensures ∙ ap (has_misfit c.args.dummies.now) c.as_slice-given.ensures))
