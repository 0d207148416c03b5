use Rattle.std.proofs.Common.{◌≡◌, ◌++◌, drop, flat_map}
use Rattle.f77_names.specs.Occurrences.{in_declarator}
use Rattle.f77_names.proofs.occurrences.push_declarators.Given as goal

abbrev pub invariant-loop-declarator : goal.invariant-loop-declarator
invariant-loop-declarator l = l.found ++ flat_map in_declarator (drop l.declarator-index l.declarator-items) ≡ l.initial.found ++ flat_map in_declarator l.declarator-items
