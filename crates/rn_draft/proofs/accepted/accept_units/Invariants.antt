use Rattle.rn_draft.proofs.Gathered.{Gathered}
use Rattle.rn_draft.proofs.accepted.accept_units.Given as goal

abbrev pub invariant-loop-unit : goal.invariant-loop-unit
invariant-loop-unit l = Gathered l.units l.unit-index l.trees
