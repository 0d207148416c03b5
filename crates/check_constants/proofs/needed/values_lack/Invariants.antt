use Rattle.std.proofs.Common.{◌≡◌, drop}
use Rattle.std.specs.Prelude.{◌||◌}
use Rattle.check_constants.specs.Defined.{with_definitions}
use Rattle.check_constants.specs.Needed.{lacks_values}
use Rattle.check_constants.proofs.needed.values_lack.Given as goal

-- what is still to come, under what is defined so far
abbrev pub invariant-loop-definition : goal.invariant-loop-definition
invariant-loop-definition l = record {
  lacks : (l.found || lacks_values l.defined (drop l.definition-index l.definition-items)) ≡ lacks_values l.initial.defined l.definition-items;
  defined : with_definitions l.defined (drop l.definition-index l.definition-items) ≡ with_definitions l.initial.defined l.definition-items;
}
