use Rattle.std.proofs.Common.{sym, ◌∙◌}
use Rattle.f77_forms.proofs.HeadParts.{never_named_word, never_named_list, sole_named}
use Rattle.f77_forms.proofs.head_forms.named_list.Goals as goal

pub returns-then-not-is_name : goal.returns-then-not-is_name
returns-then-not-is_name c = never_named_word c.word_run.ensures c.split_at.ensures.front (sym c.is_name.ensures ∙ c.if-not-is_name.true)

pub returns-in_default : goal.returns-in_default
returns-in_default c = never_named_list c.word_run.ensures c.split_at.ensures.back (rw c.in_default.is at (c.in_ok-names.ensures {u = tt}))

pub returns : goal.returns
returns c = rw (c.in_ok-name_of.ensures {u = tt}) (sole_named c.word_run.ensures c.split_at.ensures.front c.split_at.ensures.back (sym c.is_name.ensures ∙ c.if-not-is_name.false) (rw c.in-Some.is at (c.in_ok-names.ensures {u = tt})))
