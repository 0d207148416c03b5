use Rattle.std.proofs.Common.{ap, ◌∙◌}
use Rattle.f77_names.specs.Roles.{facts_with}
use Rattle.prog_texts.proofs.programs.unit_facts.Goals as goal

pub returns : goal.returns
returns c = (c.in_ok-facts.ensures {u = tt}) ∙ ap (λ all. facts_with all c.args.unit.now) (c.in_ok-all.ensures {u = tt})
