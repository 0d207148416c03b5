use Rattle.std.proofs.Common.{length}
use Rattle.fixed_form.specs.UnitNames.{AreNames}
use Rattle.fixed_form.proofs.unit_names.are_names.Given as goal

abbrev pub invariant-name : goal.invariant-name
invariant-name l = record {
  yes : AreNames l.rest → AreNames l.text;
  no : AreNames l.text → AreNames l.rest;
}

abbrev pub decreases-name : goal.decreases-name
decreases-name l = length l.rest
