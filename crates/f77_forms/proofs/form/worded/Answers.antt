use Rattle.std.proofs.Common.{sym, ◌∙◌}
use Rattle.f77_forms.proofs.FormTables.{sole_head, never_word, never_word_tokens, found_worded}
use Rattle.f77_forms.proofs.form.worded.Goals as goal

pub returns-in-Some : goal.returns-in-Some
returns-in-Some c = sole_head (rw c.in-Some.is at (c.in_ok-head.ensures {u = tt}))

pub returns-in_default-keyword_of : goal.returns-in_default-keyword_of
returns-in_default-keyword_of c = never_word (rw c.in_default.is at (c.in_ok-head.ensures {u = tt})) (sym c.keyword_of.ensures ∙ c.in_default-keyword_of.is)

pub returns-in_default-2 : goal.returns-in_default-2
returns-in_default-2 c =
    never_word_tokens (rw c.in_default.is at (c.in_ok-head.ensures {u = tt})) (sym c.keyword_of.ensures ∙ c.in-Some-keyword_of.is) c.behind.ensures (rw c.in_default-2.is at (c.in_ok-tokens.ensures {u = tt}))

pub returns : goal.returns
returns c =
    found_worded c.in-Some-keyword_of.word c.word_form.result (rw c.in_default.is at (c.in_ok-head.ensures {u = tt})) (sym c.keyword_of.ensures ∙ c.in-Some-keyword_of.is) c.behind.ensures (rw c.in-Some-2.is at (c.in_ok-tokens.ensures {u = tt}))
    (rw c.as_slice.ensures at c.word_form.ensures)
