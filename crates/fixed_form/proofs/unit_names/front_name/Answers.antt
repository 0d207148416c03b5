use Rattle.std.proofs.Common.{◌∙◌, sym}
use Rattle.fixed_form.proofs.HeadNames.{no_front_word}
use Rattle.fixed_form.proofs.unit_names.front_name.Goals as goal

pub returns-then-not-is_name : goal.returns-then-not-is_name
returns-then-not-is_name c = no_front_word c.word_run.ensures c.split_at.ensures.front (sym c.is_name.ensures ∙ c.if-not-is_name.true)
