use Rattle.f77_tree.specs.declared.form.Form.TheVariants as f
use Rattle.form_parts.specs.Answers.{Made}
use Rattle.form_execution.specs.Control.{IsTest}
use Rattle.form_parts.proofs.Answered.{sole_in, never_in, never_tokens, sole_made, never_made}
use Rattle.f77_forms.proofs.FormTables.{sole_behind, never_behind, never_if}
use Rattle.f77_forms.proofs.form.block_if.Goals as goal

pub returns-in_default : goal.returns-in_default
returns-in_default c = never_if (Made IsTest f.BlockIf) (rw c.as_slice.ensures at (c.in_default.ensures {u = tt}))

pub returns-in_default-2 : goal.returns-in_default-2
returns-in_default-2 c = never_behind (Made IsTest f.BlockIf) (rw c.as_slice.ensures at (c.in-Some.ensures {u = tt})) (never_tokens (rw c.in_default-2.is at (c.in_ok-tokens.ensures {u = tt})))

pub returns-in_default-3 : goal.returns-in_default-3
returns-in_default-3 c =
    let tokens = rw c.in-Some-2.is at (c.in_ok-tokens.ensures {u = tt}) in
    never_behind (Made IsTest f.BlockIf) (rw c.as_slice.ensures at (c.in-Some.ensures {u = tt})) (never_in tokens (never_made f.BlockIf (rw (c.in_default-3.is, c.as_slice-2.ensures) at (c.in_ok-x.ensures {u = tt}))))

pub returns : goal.returns
returns c =
    let tokens = rw c.in-Some-2.is at (c.in_ok-tokens.ensures {u = tt}) in
    sole_behind (Made IsTest f.BlockIf) (rw c.as_slice.ensures at (c.in-Some.ensures {u = tt})) (sole_in tokens (sole_made f.BlockIf (rw (c.in-Some-3.is, c.as_slice-2.ensures) at (c.in_ok-x.ensures {u = tt}))))
