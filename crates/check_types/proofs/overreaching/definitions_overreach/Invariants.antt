use Rattle.std.proofs.Common.{◌≡◌, drop, fold}
use Rattle.std.specs.Prelude.{◌||◌}
use Rattle.f77_values.specs.Constants.{with_constant}
use Rattle.check_types.specs.Overreaching.{definitions_overreach}
use Rattle.check_types.proofs.overreaching.definitions_overreach.Given as goal

-- what is found, or will be in those that are still to come
abbrev pub invariant-loop-definition : goal.invariant-loop-definition
invariant-loop-definition l = record {
  told : (l.found || definitions_overreach l.constants (drop l.definition-index l.definition-items)) ≡ definitions_overreach l.initial.constants l.definition-items;
  known : fold with_constant l.constants (drop l.definition-index l.definition-items) ≡ fold with_constant l.initial.constants l.definition-items;
}
