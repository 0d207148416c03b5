use Rattle.std.proofs.Common.{◌≡◌, ◌+◌, min, sum_by, take}
use Rattle.f77_tree.specs.Weight.{run_weight, most}
use Rattle.f77_tree.proofs.weights.add_runs.Given as goal

abbrev pub invariant-loop-run : goal.invariant-loop-run
invariant-loop-run l = l.sum ≡ min (l.total + sum_by run_weight (take l.run-index l.run-items)) most
