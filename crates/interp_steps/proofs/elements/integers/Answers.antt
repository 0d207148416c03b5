use Rattle.interp_steps.proofs.Numbers.{all_of, none_of}
use Rattle.interp_steps.proofs.elements.integers.Goals as goal

pub returns-in-Ok : goal.returns-in-Ok
returns-in-Ok c = all_of c.args.values.now c.new-all.result c.new-all.ensures _ c.in-Ok.ensures

pub returns-in-Err : goal.returns-in-Err
returns-in-Err c = none_of c.args.values.now c.new-all.result c.new-all.ensures c.in-Err.stop c.in-Err.ensures
