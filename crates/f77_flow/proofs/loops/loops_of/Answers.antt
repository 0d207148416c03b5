use Rattle.std.proofs.Common.{ℕ, slice_index, refl, ◌++◌, ◌∷◌, [], sym, ◌∙◌, ap}
use Rattle.f77_flow.specs.declared.loops.Loop.{Loop}
use Rattle.f77_flow.proofs.RangeList.{loops_more, loops_same}
use Rattle.f77_flow.proofs.loops.loops_of.Goals as goal
use Rattle.f77_flow.proofs.loops.loops_of.Goals.{then-last-lasts+in_ok-push, else-last-lasts}

loop : ℕ → ℕ → Loop
loop d last = record { head = d; last = last }

pub loop-d-preserved : goal.loop-d-preserved
unfolding loop
loop-d-preserved c = λ u is. elim c.if-last-lasts.branch [
  | then-last-lasts+in_ok-push w ↦ w.loops-is ∙ (w.in_ok-push.ensures {u = tt}).ok ∙ ap (λ xs. xs ++ loop c.loop-d.d (slice_index c.args.lasts.now c.loop-d.d) ∷ []) (c.loop-d.invariant u is) ∙ sym (loops_more u c.loop-d.d _ c.args.lasts.now is c.loop-d-test.true refl w.if-last-lasts.true)
  | else-last-lasts w ↦ w.loops-is ∙ c.loop-d.invariant u is ∙ sym (loops_same u c.loop-d.d _ c.args.lasts.now is c.loop-d-test.true refl w.if-last-lasts.false)
]
