use Rattle.std.proofs.Common.{◌≡◌, ◌++◌, drop, flat_map}
use Rattle.check_data.specs.DataTwice.{list_gives}
use Rattle.check_data.proofs.given.push_lists.Given as goal

abbrev pub invariant-loop-list : goal.invariant-loop-list
invariant-loop-list l = l.found ++ flat_map (list_gives l.constants) (drop l.list-index l.list-items) ≡ l.initial.found ++ flat_map (list_gives l.constants) l.list-items
