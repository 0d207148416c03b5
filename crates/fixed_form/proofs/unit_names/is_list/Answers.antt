use Rattle.fixed_form.proofs.HeadNames.{no_list_word, list_of}
use Rattle.fixed_form.proofs.unit_names.is_list.Goals as goal

pub returns-in_default : goal.returns-in_default
returns-in_default c = λ list. no_list_word c.if-is_empty_list.ensures (rw c.as_slice.ensures at (c.in_default.ensures {u = tt})) list

pub returns : goal.returns
returns c = list_of c.are_names.result c.if-is_empty_list.ensures (rw c.as_slice.ensures at (c.in-Some.ensures {u = tt})) c.are_names.ensures
