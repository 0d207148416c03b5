use Rattle.std.proofs.Common.{sym, ◌∙◌}
use Rattle.f77_expr.specs.Spelling.{is_digit}
use Rattle.form_kinds.proofs.Digits.{all_more}
use Rattle.form_kinds.proofs.labels.digit_run.Goals as goal

pub byte-preserved : goal.byte-preserved
byte-preserved c = all_more is_digit c.args.text.now c.byte.i c.byte-test.true c.byte.invariant (sym c.is_digit.ensures ∙ c.if-not-is_digit.false)
