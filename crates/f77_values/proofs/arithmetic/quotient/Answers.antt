use Rattle.std.proofs.Common.{◌≡◌, negsuc, neg_ℤ, sym, ap, ◌∙◌, w64, to_z, of_z, int_div}
use Rattle.std.proofs.lemmas.Int.{SFits-int_wrap, wrapping_neg_is, to_z-of_z}
use Rattle.std.specs.Int.{int_wrapping_neg}
use Rattle.f77_values.specs.Arithmetic.{wrap}
use Rattle.f77_values.proofs.Powers.{int_div-minus1}
use Rattle.f77_values.proofs.arithmetic.quotient.Goals as goal

pub returns-then-y-eqminus1 : goal.returns-then-y-eqminus1
returns-then-y-eqminus1 c =
    let y : c.args.y ≡ negsuc 0 = sym (to_z-of_z w64 c.args.y c.ranges.y) ∙ ap (to_z w64) c.if-y-eqminus1.true in
    let e = ap (λ y. wrap (int_div c.args.x y)) y ∙ ap wrap (int_div-minus1 c.args.x) in
    let x = to_z-of_z w64 c.args.x c.ranges.x in
    let n = c.wrapping_neg.ensures ∙ (ap (int_wrapping_neg w64) x ∙ wrapping_neg_is w64 c.args.x c.ranges.x) in
    ap (λ r. to_z w64 (of_z w64 r)) n ∙ (to_z-of_z w64 (wrap (neg_ℤ c.args.x)) (SFits-int_wrap w64 (neg_ℤ c.args.x)) ∙ sym e)
