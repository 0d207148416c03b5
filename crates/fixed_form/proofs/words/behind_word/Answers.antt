use Rattle.std.proofs.Common.{◌∙◌}
use Rattle.fixed_form.proofs.HeadNames.{lacks_other}
use Rattle.fixed_form.proofs.words.behind_word.Goals as goal

pub returns-else-same : goal.returns-else-same
returns-else-same c = lacks_other c.args.text.now c.args.word.now (λ e. c.if-same.ensures (c.split_at.ensures.front ∙ e))
