use Rattle.std.proofs.Common.{◌≡◌, drop}
use Rattle.std.specs.List.{list_any}
use Rattle.check_types.specs.Breaks.{bound_breaks}
use Rattle.check_types.proofs.breaks.bounds_break.Given as goal

abbrev pub invariant-loop-bound : goal.invariant-loop-bound
invariant-loop-bound l = list_any (bound_breaks l.facts l.constants l.rule) (drop l.bound-index l.bound-items) ≡ list_any (bound_breaks l.facts l.constants l.rule) l.bound-items
