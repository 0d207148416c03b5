use Rattle.std.proofs.Common.{◌≡◌, None, drop}
use Rattle.f77_values.specs.Tables.{Name, what}
use Rattle.f77_semantics.specs.Source.{slot_named}
use Rattle.interp_data.specs.Meanings.{told_or}
use Rattle.interp_data.proofs.lookup.tell_all.Given as goal

-- What the table doesn't tell, the slots that are left say.
abbrev pub invariant-loop-slot : goal.invariant-loop-slot
invariant-loop-slot l = (q : Name) → told_or l.facts q (what l.told q) (slot_named (drop l.slot-index l.slot-items) q) ≡ told_or l.facts q None (slot_named l.slot-items q)
