use Rattle.std.proofs.Common.{◌≡◌, ◌++◌, drop, flat_map}
use Rattle.check_common.specs.Initials.{list_initials}
use Rattle.check_common.proofs.initials.push_lists.Given as goal

abbrev pub invariant-loop-list : goal.invariant-loop-list
invariant-loop-list l =
    l.found.items ++ flat_map (list_initials l.storage l.unit l.line l.named) (drop l.list-index l.list-items)
    ≡ l.initial.found.items ++ flat_map (list_initials l.storage l.unit l.line l.named) l.list-items
