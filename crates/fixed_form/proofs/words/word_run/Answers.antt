use Rattle.std.proofs.Common.{sym, ◌∙◌}
use Rattle.fixed_form.proofs.WordRuns.{word_more}
use Rattle.fixed_form.proofs.words.word_run.Goals as goal

pub byte-preserved : goal.byte-preserved
byte-preserved c = word_more c.args.text.now c.byte.i c.byte-test.true c.byte.invariant (sym c.is_word.ensures ∙ c.if-not-is_word.false)
