use Rattle.std.proofs.Common.{sym, subst}
use Rattle.std.specs.Str.{IsUtf8}
use Rattle.obj_form.proofs.Spelled.{IsUtf8-name, IsUtf8-block}
use Rattle.obj_form.proofs.leaves.name_value.Goals as goal

pub returns-in-Err-clause-named : goal.returns-in-Err-clause-named
returns-in-Err-clause-named c =
    λ d h. absurd (c.in-Err.ensures.cases.0 (subst IsUtf8 (sym c.as_bytes.ensures) (IsUtf8-name c.args.name.now h.1)))

pub returns-in-Err-clause-block : goal.returns-in-Err-clause-block
returns-in-Err-clause-block c =
    λ d h. absurd (c.in-Err.ensures.cases.0 (subst IsUtf8 (sym c.as_bytes.ensures) (IsUtf8-block c.args.name.now h.1)))
