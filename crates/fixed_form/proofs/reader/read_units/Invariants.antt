use Rattle.std.proofs.Common.{length}
use Rattle.fixed_form.specs.Progress.{Gone}
use Rattle.fixed_form.proofs.reader.read_units.Given as goal

abbrev pub invariant-line : goal.invariant-line
invariant-line l = Gone l.text l.rest l.number l.reader

abbrev pub decreases-line : goal.decreases-line
decreases-line l = length l.rest
