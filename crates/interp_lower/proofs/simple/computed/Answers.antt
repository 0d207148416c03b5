use Rattle.std.proofs.Common.{refl, sym, ◌∙◌}
use Rattle.interp_data.specs.Meant.{meant}
use Rattle.interp_lower.proofs.Preludes.{prelude-ComputedGoTo}
use Rattle.interp_lower.proofs.simple.computed.Goals as goal

pub returns : goal.returns
returns c = record {
  steps = c.in_ok-steps.ensures {u = tt} ∙ sym (prelude-ComputedGoTo (meant c.args.names.now) c.args.ways c.args.e.now c.args.site);
  ending = refl;
}
