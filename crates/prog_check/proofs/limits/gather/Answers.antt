use Rattle.f77_store.specs.Layouts.{local_size, blocks}
use Rattle.prog_check.proofs.Storage.{local_more, blocks_more}
use Rattle.prog_check.proofs.limits.gather.Goals as goal

pub loop-unit-preserved : goal.loop-unit-preserved
loop-unit-preserved c = record {
  local = local_more local_size c.args.units.now c.loop-unit.unit-index c.unit-item.result c.loop-unit.local c.in_ok-size.size c.saturating_add-local.result c.loop-unit-test.true c.unit-item.is c.loop-unit.invariant.local c.in_ok-size.ensures.local c.saturating_add-local.ensures;
  blocks = blocks_more blocks c.args.units.now c.loop-unit.unit-index c.unit-item.result c.loop-unit.blocks c.push_layout.new.all _ c.loop-unit-test.true c.unit-item.is c.in_ok-size.ensures.blocks c.loop-unit.invariant.blocks;
}
