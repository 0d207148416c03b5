use Rattle.std.proofs.Common.{◌≡◌, drop, fold}
use Rattle.call_cycles.specs.Searching.{search, visit}
use Rattle.call_cycles.proofs.searches.visit_all.Given as goal

abbrev pub invariant-loop-e : goal.invariant-loop-e
invariant-loop-e l = fold visit (search l.seen.items l.queue.items) (drop l.e-index l.e-items) ≡ fold visit (search l.initial.seen.items l.initial.queue.items) l.e-items
