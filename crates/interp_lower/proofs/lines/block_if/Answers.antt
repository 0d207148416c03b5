use Rattle.std.proofs.Common.{refl, sym, ◌∙◌}
use Rattle.interp_data.specs.Meant.{meant}
use Rattle.interp_lower.proofs.Preludes.{prelude-If}
use Rattle.interp_lower.proofs.lines.block_if.Goals as goal

pub returns : goal.returns
returns c = record {
  steps = c.in_ok-steps.ensures.steps ∙ sym (prelude-If (meant c.args.names.now) c.args.e.now c.args.site c.args.otherwise);
  ending = refl;
}
