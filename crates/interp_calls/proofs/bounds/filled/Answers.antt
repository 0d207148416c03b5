use Rattle.f77_semantics.specs.Units.{filled}
use Rattle.interp_calls.proofs.Gathering.{all_of, none_of}
use Rattle.interp_calls.proofs.bounds.filled.Goals as goal

pub returns-in-Ok : goal.returns-in-Ok
returns-in-Ok c = all_of (filled c.args.star c.args.extents.now) c.new-all.result c.new-all.ensures _ c.in-Ok.ensures

pub returns-in-Err : goal.returns-in-Err
returns-in-Err c = none_of (filled c.args.star c.args.extents.now) c.new-all.result c.new-all.ensures c.in-Err.stop c.in-Err.ensures
