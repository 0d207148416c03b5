use Rattle.std.proofs.Common.{◌∙◌, ap}
use Rattle.f77_forms.specs.HeadForms.{type_at}
use Rattle.f77_forms.proofs.HeadParts.{never_function_type, never_function_word, never_function_list, sole_function}
use Rattle.f77_forms.proofs.head_forms.function.Goals as goal

pub returns-in_default : goal.returns-in_default
returns-in_default c = never_function_type c.type_at-typed.result (c.type_at-typed.ensures ∙ ap type_at c.first_byte.ensures) (rw c.type_spelling.ensures at (c.in_default.ensures {u = tt}))

pub returns-in_default-behind_word : goal.returns-in_default-behind_word
returns-in_default-behind_word c = never_function_word c.type_at-typed.result (c.type_at-typed.ensures ∙ ap type_at c.first_byte.ensures) (rw c.type_spelling.ensures at (c.in-Some.ensures {u = tt})) (rw c.as_slice.ensures at (c.in_default-behind_word.ensures {u = tt}))

pub returns-in_default-2 : goal.returns-in_default-2
returns-in_default-2 c = never_function_list c.type_at-typed.result (c.type_at-typed.ensures ∙ ap type_at c.first_byte.ensures) (rw c.type_spelling.ensures at (c.in-Some.ensures {u = tt})) (rw c.as_slice.ensures at (c.in-Some-behind_word.ensures {u = tt})) (rw c.in_default-2.is at (c.in_ok-name.ensures {u = tt}))

pub returns : goal.returns
returns c = sole_function c.type_at-typed.result (c.type_at-typed.ensures ∙ ap type_at c.first_byte.ensures) (rw c.type_spelling.ensures at (c.in-Some.ensures {u = tt})) (rw c.as_slice.ensures at (c.in-Some-behind_word.ensures {u = tt})) (rw c.in-Some-2.is at (c.in_ok-name.ensures {u = tt}))
