use Rattle.std.proofs.Common.{◌≡◌, drop, fold, flat_map}
use Rattle.f77_values.specs.Tables.{with_name, distinct}
use Rattle.f77_names.specs.Occurrences.{named_if, names_that}
use Rattle.f77_names.proofs.attributes.names_that.Given as goal

-- the names that are still to come make of those so far what is wanted
abbrev pub invariant-loop-occurrence : goal.invariant-loop-occurrence
invariant-loop-occurrence l = fold with_name l.names (flat_map (named_if l.manner) (drop l.occurrence-index l.occurrence-items)) ≡ distinct (names_that l.manner l.occurrence-items)
