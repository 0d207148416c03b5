use Rattle.std.proofs.Common.{◌≡◌, drop}
use Rattle.std.specs.List.{list_any}
use Rattle.check_types.specs.Breaks.{part_breaks}
use Rattle.check_types.proofs.breaks.parts_break.Given as goal

abbrev pub invariant-loop-e : goal.invariant-loop-e
invariant-loop-e l = list_any (part_breaks l.facts l.constants l.rule l.place) (drop l.e-index l.e-items) ≡ list_any (part_breaks l.facts l.constants l.rule l.place) l.e-items
