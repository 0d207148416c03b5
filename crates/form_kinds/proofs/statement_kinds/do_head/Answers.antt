use Rattle.std.proofs.Common.{inl, inr, sym, ◌∙◌}
use Rattle.form_kinds.proofs.KindTests.{no_do_word, no_do_digits, no_do_name, emptied}
use Rattle.form_kinds.proofs.statement_kinds.do_head.Goals as goal

pub returns-in_default : goal.returns-in_default
returns-in_default c = no_do_word (rw c.as_slice.ensures at (c.in_default.ensures {u = tt}))

pub returns-then-is_empty : goal.returns-then-is_empty
returns-then-is_empty c = no_do_digits (rw c.as_slice.ensures at (c.in-Some.ensures {u = tt})) c.digit_run.ensures c.split_at.ensures.front (inl (emptied c.split_at.result.0.now c.is_empty.result c.is_empty.ensures c.if-is_empty.true))

pub returns-then-digits-gt5 : goal.returns-then-digits-gt5
returns-then-digits-gt5 c = no_do_digits (rw c.as_slice.ensures at (c.in-Some.ensures {u = tt})) c.digit_run.ensures c.split_at.ensures.front (inr c.if-digits-gt5.true)

pub returns-then-not-is_name : goal.returns-then-not-is_name
returns-then-not-is_name c = no_do_name (rw c.as_slice.ensures at (c.in-Some.ensures {u = tt})) c.digit_run.ensures c.split_at.ensures.back c.behind_comma-name.ensures (sym c.is_name.ensures ∙ c.if-not-is_name.true)
