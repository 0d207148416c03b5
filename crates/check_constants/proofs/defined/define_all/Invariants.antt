use Rattle.std.proofs.Common.{◌≡◌, fold, drop}
use Rattle.check_constants.specs.Defined.{with_definition}
use Rattle.check_constants.proofs.defined.define_all.Given as goal

-- what is still to come makes of the definitions so far what is wanted
abbrev pub invariant-loop-definition : goal.invariant-loop-definition
invariant-loop-definition l = fold with_definition l.defined (drop l.definition-index l.definition-items) ≡ fold with_definition l.initial.defined l.definition-items
