use Rattle.std.proofs.Common.{sym, ◌∙◌}
use Rattle.f77_tree.specs.Names.{is_word}
use Rattle.f77_expr.proofs.RunLengths.{all_more}
use Rattle.f77_expr.proofs.fronts.word_run.Goals as goal

pub byte-preserved : goal.byte-preserved
byte-preserved c = all_more is_word c.args.text.now c.byte.i c.byte-test.true c.byte.invariant (sym c.is_word.ensures ∙ c.if-not-is_word.false)
