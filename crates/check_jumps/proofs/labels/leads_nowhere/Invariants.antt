use Rattle.check_jumps.specs.Labels.{LeadsNowhere}
use Rattle.check_jumps.proofs.labels.leads_nowhere.Given as goal

abbrev pub invariant-loop-label : goal.invariant-loop-label
invariant-loop-label l = LeadsNowhere l.control.statements.now l.labels l.label-index → ⊥
