use Rattle.std.proofs.Common.{◌≡◌, ◌+◌, drop, length, flat_map}
use Rattle.f77_store.specs.Layouts.{callee}
use Rattle.interp_lower.proofs.sites.count_sites.Given as goal

abbrev pub invariant-loop-occurrence : goal.invariant-loop-occurrence
invariant-loop-occurrence l = l.count + length (flat_map (callee l.attributes) (drop l.occurrence-index l.occurrence-items)) ≡ length (flat_map (callee l.attributes) l.occurrence-items)
