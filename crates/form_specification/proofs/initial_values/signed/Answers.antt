use Rattle.std.proofs.Common.{rules, SFits, w64}
use Rattle.std.proofs.lemmas.Int.{to_z-of_z}
use Rattle.form_specification.proofs.DataParts.{signed_minus, signed_plus, signed_bare, no_signed_minus, no_signed_plus, no_signed}
use Rattle.form_specification.proofs.initial_values.signed.Goals as goal

pub returns-in_err-n-clause-signed : goal.returns-in_err-n-clause-signed
returns-in_err-n-clause-signed c = rw c.from_residual.ensures (no_signed_minus (c.in-Some.ensures {u = tt}).next (c.in_err-n.ensures {u = tt}).integer)

pub returns-in-Some-clause-signed : goal.returns-in-Some-clause-signed
returns-in-Some-clause-signed c =
    let fits : SFits w64 c.in_ok-n.n = search rules in
    let fits_too : SFits w64 c.negated.result = search rules in
    rw (to_z-of_z w64 c.negated.result fits_too, c.negated.ensures, to_z-of_z w64 c.in_ok-n.n fits) (signed_minus (c.in-Some.ensures {u = tt}).next (c.in_ok-n.ensures {u = tt}).integer)

pub returns-in_err-n-2-clause-signed : goal.returns-in_err-n-2-clause-signed
returns-in_err-n-2-clause-signed c = rw c.from_residual-in_err-n-2.ensures (no_signed_plus (c.in-Some-eat.ensures {u = tt}).next (c.in_err-n-2.ensures {u = tt}).integer)

pub returns-in-Some-eat-clause-signed : goal.returns-in-Some-eat-clause-signed
returns-in-Some-eat-clause-signed c =
    let fits : SFits w64 c.in_ok-n-2.n = search rules in
    rw (to_z-of_z w64 c.in_ok-n-2.n fits) (signed_plus (c.in-Some-eat.ensures {u = tt}).next (c.in_ok-n-2.ensures {u = tt}).integer)

pub returns-in_err-n-3-clause-signed : goal.returns-in_err-n-3-clause-signed
returns-in_err-n-3-clause-signed c = rw c.from_residual-in_err-n-3.ensures (no_signed (c.in_default.ensures {u = tt}).next (c.in_default-eat.ensures {u = tt}).next (c.in_err-n-3.ensures {u = tt}).integer)

pub returns-clause-signed : goal.returns-clause-signed
returns-clause-signed c =
    let fits : SFits w64 c.in_ok-n-3.n = search rules in
    rw (to_z-of_z w64 c.in_ok-n-3.n fits) (signed_bare (c.in_ok-n-3.ensures {u = tt}).integer)
