use Rattle.std.proofs.Common.{◌≡◌, ◌<◌, ◌-◌, suc, length, drop, arith, sym, ap, ◌∙◌, subst}
use Rattle.f77_flow.specs.Kinds.{kind}
use Rattle.f77_flow.specs.Progress.{HasSeen}
use Rattle.f77_flow.specs.Tables.{IsTableFrom}
use Rattle.f77_flow.specs.Blocks as b
use Rattle.f77_flow.proofs.Passes.{front, table_before}
use Rattle.f77_flow.proofs.blocks.branches_of.Goals as goal

pub place-preserved : goal.place-preserved
place-preserved c =
    let e : c.place.k ≡ suc (c.place.k - 1) = omega arith in
    let within : c.place.k - 1 < length c.args.statements.now = omega arith in
    let seen = subst (λ j. HasSeen c.place.seen j (drop j c.args.statements.now)) e c.place.invariant.seen in
    let below = subst (λ j. IsTableFrom (b.below c.args.statements.now) (length c.args.statements.now) j c.place.below) e c.place.invariant.below in
    let otherwise = subst (λ j. IsTableFrom (b.otherwise c.args.statements.now) (length c.args.statements.now) j c.place.otherwise) e c.place.invariant.otherwise in
    let ends = subst (λ j. IsTableFrom (b.end_if c.args.statements.now) (length c.args.statements.now) j c.place.ends) e c.place.invariant.ends in
    let arms = subst (λ j. IsTableFrom (b.arm_end c.args.statements.now) (length c.args.statements.now) j c.place.arms) e c.place.invariant.arms in
    record {
      within = omega arith;
      seen = rw (front _ _ _ c.index-statements-k.is within) (c.in_ok-see.ensures c.index-statements-k.result _ (ap kind c.index-statements-k.is ∙ sym c.kind_of.ensures) seen);
      below = rw c.set.ensures (table_before _ _ _ _ _ below within seen.coming);
      otherwise = rw c.set-in-place.ensures (table_before _ _ _ _ _ otherwise within (ap (λ x. x.test) c.block-block.ensures ∙ seen.tests 0));
      ends = rw c.set-in-place-2.ensures (table_before _ _ _ _ _ ends within (ap (λ x. x.end) c.block-block.ensures ∙ seen.ends 0));
      arms = rw c.set-in-place-3.ensures (table_before _ _ _ _ _ arms within (ap (λ x. x.part) c.block-block.ensures ∙ seen.parts 0));
    }
