use Rattle.std.proofs.Common.{◌≡◌, ◌++◌, drop, flat_map}
use Rattle.f77_names.specs.Occurrences.{in_bound}
use Rattle.f77_names.proofs.occurrences.push_bounds.Given as goal

abbrev pub invariant-loop-bound : goal.invariant-loop-bound
invariant-loop-bound l = l.found ++ flat_map in_bound (drop l.bound-index l.bound-items) ≡ l.initial.found ++ flat_map in_bound l.bound-items
