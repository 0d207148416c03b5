use Rattle.std.proofs.Common.{◌∙◌, ap}
use Rattle.std.proofs.Math.Path.{fun_ext}
use Rattle.ir_core.specs.Listings.{all_indexed}
use Rattle.ir_core.proofs.checks.dummies_agree.Goals as goal

pub returns : goal.returns
returns c = c.all_new.ensures ∙ ap (λ test. all_indexed test c.args.blocks.now) (fun_ext c.in_ok-plain.ensures)
