use Rattle.std.proofs.Common.{◌≡◌, ◌++◌, drop, map}
use Rattle.f77_names.specs.Types.{range_rule}
use Rattle.f77_names.proofs.types.push_group.Given as goal

abbrev pub invariant-loop-range : goal.invariant-loop-range
invariant-loop-range l = l.found ++ map (range_rule l.group.0) (drop l.range-index l.range-items) ≡ l.initial.found ++ map (range_rule l.group.0) l.range-items
