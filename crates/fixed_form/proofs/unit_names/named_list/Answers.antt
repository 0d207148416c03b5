use Rattle.std.proofs.Common.{◌∙◌, sym}
use Rattle.fixed_form.proofs.HeadNames.{no_named_word, no_named_list, named_list_at}
use Rattle.fixed_form.proofs.unit_names.named_list.Goals as goal

pub returns-then-not-is_name : goal.returns-then-not-is_name
returns-then-not-is_name c = no_named_word c.word_run.ensures c.split_at.ensures.front (sym c.is_name.ensures ∙ c.if-not-is_name.true)

pub returns-then-not-is_list : goal.returns-then-not-is_list
returns-then-not-is_list c = no_named_list c.word_run.ensures c.split_at.ensures.back c.if-not-is_list.ensures

pub returns : goal.returns
returns c = named_list_at c.word_run.result c.split_at.ensures.front c.split_at.ensures.back (sym c.is_name.ensures ∙ c.if-not-is_name.false) c.if-not-is_list.ensures
