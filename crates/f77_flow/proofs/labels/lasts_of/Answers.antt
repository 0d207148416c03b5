use Rattle.std.proofs.Common.{◌≡◌, ◌<◌, ◌-◌, suc, length, drop, arith, ◌∙◌, subst}
use Rattle.f77_flow.specs.Labels.{has_label, last_of}
use Rattle.f77_flow.specs.Tables.{Mean, IsTableFrom}
use Rattle.f77_flow.proofs.Passes.{front, stands, table_before}
use Rattle.f77_flow.proofs.labels.lasts_of.Goals as goal

pub place-preserved : goal.place-preserved
place-preserved c =
    let e : c.place.k ≡ suc (c.place.k - 1) = omega arith in
    let within : c.place.k - 1 < length c.args.statements.now = omega arith in
    let mean = subst (λ j. Mean has_label c.place.labels j (drop j c.args.statements.now)) e c.place.invariant.mean in
    let lasts = subst (λ j. IsTableFrom (last_of c.args.statements.now) (length c.args.statements.now) j c.place.lasts) e c.place.invariant.lasts in
    record {
      within = omega arith;
      none = c.in_ok-put_label.ensures.none ∙ c.place.invariant.none;
      mean = rw (front _ _ _ c.index-statements-k.is within) (c.in_ok-put_label.ensures.mean _ mean);
      lasts = rw c.set.ensures (table_before _ _ _ _ _ lasts within (c.last_of.ensures _ _ (stands _ _ _ c.index-statements-k.is within) c.place.invariant.none mean));
    }
