use Rattle.f77_meaning.specs.Places.{find_of}
use Rattle.f77_meaning.proofs.Made.{is_unit}
use Rattle.f77_meaning.proofs.procedures.with_routine.Goals as goal

pub returns : goal.returns
returns c units h u stands follows first lines =
    is_unit (find_of units c.args.main) _ u stands follows first lines c.in_ok-kept.ensures c.in_ok-arrays.ensures (c.find-own.ensures units h) (c.in_ok-callees.ensures units h)
