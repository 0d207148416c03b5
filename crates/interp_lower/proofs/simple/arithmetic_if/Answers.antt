use Rattle.std.proofs.Common.{refl, sym, ◌∙◌}
use Rattle.interp_data.specs.Meant.{meant}
use Rattle.interp_lower.proofs.Preludes.{prelude-ArithmeticIf}
use Rattle.interp_lower.proofs.simple.arithmetic_if.Goals as goal

pub returns : goal.returns
returns c =
    let ways = c.args.ways in
    record {
      steps = c.in_ok-steps.ensures {u = tt} ∙ sym (prelude-ArithmeticIf (meant c.args.names.now) c.args.e.now c.args.site ways.0 ways.1 ways.2);
      ending = refl;
    }
