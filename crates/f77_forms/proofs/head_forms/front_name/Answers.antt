use Rattle.std.proofs.Common.{sym, ◌∙◌}
use Rattle.f77_forms.proofs.HeadParts.{no_front_word}
use Rattle.f77_forms.proofs.head_forms.front_name.Goals as goal

pub returns-then-not-is_name : goal.returns-then-not-is_name
returns-then-not-is_name c = no_front_word c.word_run.ensures c.split_at.ensures.front (sym c.is_name.ensures ∙ c.if-not-is_name.true)
