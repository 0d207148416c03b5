use Rattle.std.proofs.Common.{◌≡◌, fold, drop}
use Rattle.f77_values.specs.Constants.{with_constant}
use Rattle.f77_values.proofs.constants.define_all.Given as goal

-- what is still to come makes of the constants so far what is wanted
abbrev pub invariant-loop-definition : goal.invariant-loop-definition
invariant-loop-definition l = fold with_constant l.constants (drop l.definition-index l.definition-items) ≡ fold with_constant l.initial.constants l.definition-items
