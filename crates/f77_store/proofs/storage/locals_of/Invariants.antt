use Rattle.std.proofs.Common.{◌≡◌, ◌++◌, drop, flat_map}
use Rattle.f77_store.specs.Layouts.{local_member, locals}
use Rattle.f77_store.proofs.storage.locals_of.Given as goal

abbrev pub invariant-loop-name : goal.invariant-loop-name
invariant-loop-name l = l.found ++ flat_map (local_member l.facts l.commons) (drop l.name-index l.name-items) ≡ locals l.facts l.commons l.name-items
