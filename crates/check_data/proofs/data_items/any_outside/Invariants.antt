use Rattle.std.proofs.Common.{◌≡◌, drop}
use Rattle.check_data.specs.DataItems.{any_outside}
use Rattle.check_data.proofs.data_items.any_outside.Given as goal

-- None of the first subscripts lies outside.
abbrev pub invariant-loop-k : goal.invariant-loop-k
invariant-loop-k l = any_outside l.constants (drop l.k l.list) (drop l.k l.sides) ≡ any_outside l.constants l.list l.sides
