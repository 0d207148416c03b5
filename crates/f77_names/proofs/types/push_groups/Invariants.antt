use Rattle.std.proofs.Common.{◌≡◌, ◌++◌, drop, flat_map}
use Rattle.f77_names.specs.Types.{group_rules}
use Rattle.f77_names.proofs.types.push_groups.Given as goal

abbrev pub invariant-loop-group : goal.invariant-loop-group
invariant-loop-group l = l.found ++ flat_map group_rules (drop l.group-index l.group-items) ≡ l.initial.found ++ flat_map group_rules l.group-items
