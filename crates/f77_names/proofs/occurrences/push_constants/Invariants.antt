use Rattle.std.proofs.Common.{◌≡◌, ◌++◌, drop, flat_map}
use Rattle.f77_names.specs.Occurrences.{in_constant}
use Rattle.f77_names.proofs.occurrences.push_constants.Given as goal

abbrev pub invariant-loop-constant : goal.invariant-loop-constant
invariant-loop-constant l = l.found ++ flat_map in_constant (drop l.constant-index l.constant-items) ≡ l.initial.found ++ flat_map in_constant l.constant-items
