use Rattle.std.proofs.Common.{◌≡◌, ◌++◌, drop, flat_map}
use Rattle.f77_store.specs.Areas.{member, commons}
use Rattle.f77_store.proofs.areas.commons_of.Given as goal

abbrev pub invariant-loop-declaration : goal.invariant-loop-declaration
invariant-loop-declaration l = l.found ++ flat_map member (drop l.declaration-index l.declaration-items) ≡ commons l.declaration-items
