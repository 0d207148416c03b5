use Rattle.std.proofs.Common.{◌≡◌, ◌++◌, drop, flat_map}
use Rattle.f77_store.specs.Layouts.{callee}
use Rattle.f77_store.proofs.sites.callees_of.Given as goal

abbrev pub invariant-loop-occurrence : goal.invariant-loop-occurrence
invariant-loop-occurrence l = l.found ++ flat_map (callee l.a) (drop l.occurrence-index l.occurrence-items) ≡ flat_map (callee l.a) l.occurrence-items
