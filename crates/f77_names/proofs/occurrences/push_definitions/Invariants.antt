use Rattle.std.proofs.Common.{◌≡◌, ◌++◌, drop, flat_map}
use Rattle.f77_names.specs.Occurrences.{in_definition}
use Rattle.f77_names.proofs.occurrences.push_definitions.Given as goal

abbrev pub invariant-loop-definition : goal.invariant-loop-definition
invariant-loop-definition l = l.found ++ flat_map in_definition (drop l.definition-index l.definition-items) ≡ l.initial.found ++ flat_map in_definition l.definition-items
