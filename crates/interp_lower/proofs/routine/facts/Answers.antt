use Rattle.std.proofs.Common.{ap, ◌∙◌}
use Rattle.std.proofs.lemmas.Result.{IfOk-weaker}
use Rattle.f77_names.specs.Roles.{facts_with}
use Rattle.interp_lower.proofs.routine.facts.Goals as goal

pub returns : goal.returns
returns c = IfOk-weaker c.facts_of.result _ _ (λ f e. e ∙ ap (λ all. facts_with all c.args.unit.now) c.in_ok-all.ensures) c.facts_of.ensures
