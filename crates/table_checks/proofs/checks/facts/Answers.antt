use Rattle.std.proofs.Common.{ap, ◌∙◌}
use Rattle.f77_names.specs.Occurrences.{Occurrences}
use Rattle.f77_names.specs.Roles.{facts_with}
use Rattle.f77_values.proofs.Given.{if_ok}
use Rattle.table_checks.proofs.checks.facts.Goals as goal

pub returns : goal.returns
returns c = if_ok c.facts_of.result (λ x e. e ∙ ap (λ (all : Occurrences). facts_with all c.args.unit.now) c.in_ok-all.ensures) c.facts_of.ensures
