use Rattle.std.proofs.Common.{ℤ, [], ◌∷◌, ◌++◌, ◌∙◌, ap, rules, w64, SFits}
use Rattle.std.proofs.lemmas.Int.{to_z-of_z}
use Rattle.interp_steps.proofs.Numbers.{more_given}
use Rattle.interp_steps.proofs.elements.+push_numbers.Goals as goal

pub returns-in_ok-push-in-Some-Integer-default : goal.returns-in_ok-push-in-Some-Integer-default
returns-in_ok-push-in-Some-Integer-default t c =
    let n = c.in-Some-Integer-default.n in
    let fits : SFits w64 n = search rules in
    let more = (c.in_ok-push-in-Some-Integer-default.ensures {u = tt}).ok in
    more_given c.push_numbers.result _ n _ _ _ c.args.all.now _ c.in-Some-Integer-default.ensures.cases.0 c.in-Some-Integer-default.field-0-0-is
    (more ∙ ap (λ (m : ℤ). c.args.all.now ++ m ∷ []) (to_z-of_z w64 n fits)) c.push_numbers.ensures
