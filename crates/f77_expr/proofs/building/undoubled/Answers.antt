use Rattle.std.proofs.lemmas.List.{drop_all}
use Rattle.f77_expr.proofs.Contents.{half_start, half_skips, half_takes, half_end}
use Rattle.f77_expr.proofs.building.undoubled.Goals as goal
use Rattle.f77_expr.proofs.building.undoubled.Goals.{then-half, else-half+in_ok-push}

pub loop-b-init : goal.loop-b-init
loop-b-init c = rw c.new-all.ensures (half_start c.args.bytes.now)

pub loop-b-preserved : goal.loop-b-preserved
loop-b-preserved c =
    elim c.if-half.branch [
      | then-half w ↦ λ content e. rw (w.half-is, w.all-is) (half_skips c.args.bytes.now c.loop-b.all content c.loop-b.b-index c.loop-b-test.true (rw w.if-half.true at c.loop-b.invariant content e))
      | else-half+in_ok-push w ↦ λ content e. rw (w.half-is, w.all-is, w.in_ok-push.ensures.ok) (half_takes c.args.bytes.now c.loop-b.all content c.loop-b.b-index c.loop-b-test.true (rw w.if-half.false at c.loop-b.invariant content e))
    ]

pub returns : goal.returns
returns c = λ content e. half_end c.loop-b.all content (drop_all c.loop-b.b-index c.args.bytes.now c.loop-b-test.false) (c.loop-b.invariant content e)
