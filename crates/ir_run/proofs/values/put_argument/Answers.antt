use Rattle.std.proofs.Common.{◌∙◌}
use Rattle.interp_steps.specs.Frames.{interval_of}
use Rattle.ir_run.proofs.Arguments.{in_place}
use Rattle.ir_run.proofs.values.put_argument.Goals as goal

pub returns : goal.returns
returns c = in_place interval_of _ c.args.at c.args.address c.in_ok-make_room.ensures.room ∙ c.in_ok-make_room.ensures.same (interval_of c.args.address)
