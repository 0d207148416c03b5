use Rattle.std.proofs.Common.{◌≡◌, drop}
use Rattle.std.specs.List.{list_any}
use Rattle.check_data.specs.DataFaults.{wrong_list}
use Rattle.check_data.proofs.data.wrong_lists.Given as goal

-- None of the first lists is wrong.
abbrev pub invariant-loop-list : goal.invariant-loop-list
invariant-loop-list l =
    list_any (wrong_list l.kind l.facts l.commons l.measures l.defined) (drop l.list-index l.list-items)
    ≡ list_any (wrong_list l.kind l.facts l.commons l.measures l.defined) l.list-items
