use Rattle.std.proofs.Common.{◌∙◌}
use Rattle.std.proofs.lemmas.Result.{IfOk-weaker}
use Rattle.interp_lower.proofs.routine.names_of.Goals as goal

pub returns-clause-facts : goal.returns-clause-facts
returns-clause-facts c = IfOk-weaker c.new.result _ _ (λ names e. e ∙ c.in_ok-facts.ensures) c.new.ensures.facts
