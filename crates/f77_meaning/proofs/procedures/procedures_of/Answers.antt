use Rattle.std.proofs.Common.{arith}
use Rattle.f77_meaning.specs.Places.{find_of}
use Rattle.f77_meaning.proofs.Made.{made_more}
use Rattle.f77_meaning.proofs.procedures.procedures_of.Goals as goal

pub loop-unit-preserved : goal.loop-unit-preserved
loop-unit-preserved c =
    made_more (find_of c.args.units.now c.args.main) c.args.units.now c.loop-unit.unit-index c.unit-item.result c.loop-unit.all.items c.push.new.self.items c.in_ok-procedure_of.field-0 (omega arith) c.unit-item.is c.in_ok-push.ensures.items c.loop-unit.invariant (c.in_ok-procedure_of.ensures c.args.units.now c.requires)
