use Rattle.std.proofs.Common.{◌≡◌, ◌++◌, drop, flat_map}
use Rattle.f77_store.specs.Layouts.{slot_of}
use Rattle.f77_store.proofs.storage.slots_of.Given as goal

abbrev pub invariant-loop-name : goal.invariant-loop-name
invariant-loop-name l = l.found ++ flat_map (slot_of l.facts l.commons l.own) (drop l.name-index l.name-items) ≡ flat_map (slot_of l.facts l.commons l.own) l.name-items
