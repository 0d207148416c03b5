use Rattle.std.proofs.Common.{◌≡◌, ◌++◌, drop, flat_map}
use Rattle.check_names.specs.Givings.{by_occurrence}
use Rattle.check_names.proofs.givings.push_occurrences.Given as goal

abbrev pub invariant-loop-occurrence : goal.invariant-loop-occurrence
invariant-loop-occurrence l = l.found ++ flat_map (by_occurrence l.a) (drop l.occurrence-index l.occurrence-items) ≡ l.initial.found ++ flat_map (by_occurrence l.a) l.occurrence-items
