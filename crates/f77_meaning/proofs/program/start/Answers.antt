use Rattle.std.proofs.Common.{◌∙◌}
use Rattle.f77_meaning.proofs.Giving.{given_is}
use Rattle.f77_meaning.proofs.program.start.Goals as goal

pub returns : goal.returns
returns c find us are = λ i. record {
  cells = (c.in_ok-storage.ensures {u = tt} ∙ given_is find c.args.procedures.now us are) i;
  out = c.new.ensures.items i;
  input = c.args.input.now;
  left = c.args.steps;
}
