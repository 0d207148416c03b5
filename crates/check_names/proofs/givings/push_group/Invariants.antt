use Rattle.std.proofs.Common.{◌≡◌, ◌++◌, drop, flat_map}
use Rattle.check_names.specs.Givings.{in_range}
use Rattle.check_names.proofs.givings.push_group.Given as goal

abbrev pub invariant-loop-range : goal.invariant-loop-range
invariant-loop-range l = l.found ++ flat_map in_range (drop l.range-index l.range-items) ≡ l.initial.found ++ flat_map in_range l.range-items
