use Rattle.std.proofs.Common.{subst}
use Rattle.f77_store.specs.declared.storage.Slot.{Slot}
use Rattle.interp_data.specs.Meanings.{TellsMore}
use Rattle.interp_data.proofs.Telling.{tells_next}
use Rattle.interp_data.proofs.lookup.tell_all.Goals as goal

pub loop-slot-preserved : goal.loop-slot-preserved
loop-slot-preserved c =
    tells_next c.args.facts.now c.as_slice-slot-items.result.now c.loop-slot.slot-index c.slot-item.result c.loop-slot.told c.tell.new.told c.loop-slot.invariant c.loop-slot-test.true
    (subst (λ (s : Slot). TellsMore c.args.facts.now s c.loop-slot.told c.tell.new.told) c.slot-item.is (c.in_ok-tell.ensures {u = tt}))
