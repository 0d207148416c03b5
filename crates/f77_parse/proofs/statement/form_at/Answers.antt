use Rattle.std.proofs.Common.{sym, ◌∙◌}
use Rattle.f77_parse.proofs.Texts.{no_form_at, early_end, form_placed}
use Rattle.f77_parse.proofs.statement.form_at.Goals as goal

pub returns-in_default : goal.returns-in_default
returns-in_default c = λ behind last. no_form_at behind c.args.text.now (rw c.in_default.is at (c.in_ok-form.ensures {u = tt}).form)

pub returns-then-is_early_end : goal.returns-then-is_early_end
returns-then-is_early_end c = λ behind last. early_end c.args.last behind c.args.text.now c.in-Some.form (rw c.in-Some.is at (c.in_ok-form.ensures {u = tt}).form) (sym c.is_early_end.ensures ∙ c.if-is_early_end.true) last

pub returns : goal.returns
returns c = λ behind last. form_placed c.args.last behind c.args.text.now c.in-Some.form (rw c.in-Some.is at (c.in_ok-form.ensures {u = tt}).form) (sym c.is_early_end.ensures ∙ c.if-is_early_end.false) last
