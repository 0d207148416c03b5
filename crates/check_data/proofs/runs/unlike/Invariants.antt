use Rattle.std.proofs.Common.{◌≡◌, ◌+◌, ◌-◌, length}
use Rattle.check_data.specs.DataRuns as m
use Rattle.check_data.specs.Pairing.{unlike_from, IsWithin}
use Rattle.check_data.proofs.runs.unlike.Given as goal

abbrev pub invariant-loop-at : goal.invariant-loop-at
invariant-loop-at l = record {
  same : unlike_from l.all l.items l.constants l.at ≡ m.unlike l.all (m.types l.items) (m.types l.constants);
  within : IsWithin l.items l.constants l.at;
}

abbrev pub decreases-loop-at : goal.decreases-loop-at
decreases-loop-at l = (length l.items - l.at.item) + (length l.constants - l.at.constant)
