use Rattle.f77_parse.proofs.NamedHeads.{read_named, read_its_name}
use Rattle.f77_parse.proofs.laws.head_law.Goals as goal

pub returns : goal.returns
returns c = record {
  named = read_named;
  tree = read_its_name c.forms_law.ensures.form;
}
