use Rattle.std.proofs.Common.{◌≡◌, suc, ◌+◌, ◌-◌, ◌/◌, sym, ap, ◌∙◌, length-set, arith}
use Rattle.std.proofs.Math.ListN.{set}
use Rattle.rn_session.proofs.Digits.{so_far, so_far_step, so_far_end}
use Rattle.rn_session.proofs.running.trap_text.Goals as goal

pub loop-place-preserved : goal.loop-place-preserved
loop-place-preserved c =
    let i = c.loop-place.invariant in
    let left : 16 - c.loop-place.place ≡ suc (15 - c.loop-place.place) = omega arith in
    let next : 15 - c.loop-place.place ≡ 16 - (c.loop-place.place + 1) = omega arith in
    record {
      digits = i.digits ∙ so_far_step _ (15 - c.loop-place.place) c.loop-place.rest c.hex_digit.result c.loop-place.text left (omega arith) c.hex_digit.ensures
          ∙ ap (λ n. so_far n (c.loop-place.rest / 16) (set c.loop-place.text (15 - c.loop-place.place) c.hex_digit.result)) next;
      long = length-set c.loop-place.text (15 - c.loop-place.place) c.hex_digit.result ∙ i.long;
    }

pub returns : goal.returns
returns c = sym (c.loop-place.invariant.digits ∙ so_far_end _ c.loop-place.rest c.loop-place.text (omega arith))
