use Rattle.thin_meaning.proofs.Texts.{thin_texts, texts_run_alike}
use Rattle.thin_meaning.proofs.texts_law.Goals as goal

pub returns : goal.returns
returns c = record {
  unit = thin_texts c.forms_law.ensures.form c.drafts_law.ensures.one;
  alike = texts_run_alike c.forms_law.ensures.form c.drafts_law.ensures.one c.units_law.ensures.alike;
}
