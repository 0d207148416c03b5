use Rattle.fixed_form.proofs.HeadNames.{no_function_behind, function_of}
use Rattle.fixed_form.proofs.unit_names.function_after.Goals as goal

pub returns-in_default-behind_word : goal.returns-in_default-behind_word
returns-in_default-behind_word c = no_function_behind c.args.word.now (c.in-Some.ensures {u = tt}) (rw c.as_slice.ensures at (c.in_default-behind_word.ensures {u = tt}))

pub returns : goal.returns
returns c = function_of c.args.word.now c.named_list.result (c.in-Some.ensures {u = tt}) (rw c.as_slice.ensures at (c.in-Some-behind_word.ensures {u = tt})) c.named_list.ensures
