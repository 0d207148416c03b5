use Rattle.std.proofs.Common.{rules, arith}
use Rattle.f77_meaning.proofs.Placing.{main_here}
use Rattle.f77_meaning.proofs.places.main_place.Goals as goal

pub returns-then-is_main-clause-main : goal.returns-then-is_main-clause-main
returns-then-is_main-clause-main c = main_here c.args.units.now c.loop-k.k c.index-units-k.result (omega arith) c.index-units-k.is (search rules) c.loop-k.invariant
