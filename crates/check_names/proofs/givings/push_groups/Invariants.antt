use Rattle.std.proofs.Common.{◌≡◌, ◌++◌, drop, flat_map}
use Rattle.check_names.specs.Givings.{in_group}
use Rattle.check_names.proofs.givings.push_groups.Given as goal

abbrev pub invariant-loop-group : goal.invariant-loop-group
invariant-loop-group l = l.found ++ flat_map in_group (drop l.group-index l.group-items) ≡ l.initial.found ++ flat_map in_group l.group-items
