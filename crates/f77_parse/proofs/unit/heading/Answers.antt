use Rattle.std.proofs.Common.{List, ℕ, sym, subst}
use Rattle.form_parts.specs.Only.{Never, Sole}
use Rattle.f77_forms.specs.Forms.{HasForm}
use Rattle.f77_tree.specs.declared.unit.UnitKind.TheVariants as unit
use Rattle.f77_parse.specs.Statements.{HasHead}
use Rattle.f77_parse.proofs.Headings.{formless_head, formless_only, copied_head, copied_only}
use Rattle.f77_parse.proofs.unit.heading.Goals as goal

pub returns-in_default-2-clause-head : goal.returns-in_default-2-clause-head
returns-in_default-2-clause-head c =
    let none = subst (λ (t : List ℕ). Never HasForm t) c.as_slice.ensures (rw c.in_default-2.is at (c.in_ok-form.ensures {u = tt}).form) in
    subst (λ (names : List (List ℕ)). HasHead c.args.lines.now unit.Main names) (sym c.new-in_default-2.ensures)
    (formless_head c.args.lines.now c.in-Some.first.now c.in-Some.field-0-1.now (c.in-Some.ensures {u = tt}).cases.0 none)

pub returns-in_default-2-clause-only : goal.returns-in_default-2-clause-only
returns-in_default-2-clause-only c =
    let none = subst (λ (t : List ℕ). Never HasForm t) c.as_slice.ensures (rw c.in_default-2.is at (c.in_ok-form.ensures {u = tt}).form) in
    formless_only c.args.lines.now c.in-Some.first.now c.in-Some.field-0-1.now (c.in-Some.ensures {u = tt}).cases.0 none

pub returns-clause-head : goal.returns-clause-head
returns-clause-head c =
    let sole = subst (λ (t : List ℕ). Sole HasForm t c.in-Some-2.form) c.as_slice.ensures (rw c.in-Some-2.is at (c.in_ok-form.ensures {u = tt}).form) in
    copied_head c.args.lines.now c.in-Some.first.now c.in-Some.field-0-1.now c.in-Some-2.form (c.in-Some.ensures {u = tt}).cases.0 sole c.head_of.result c.head_of.ensures

pub returns-clause-only : goal.returns-clause-only
returns-clause-only c =
    let sole = subst (λ (t : List ℕ). Sole HasForm t c.in-Some-2.form) c.as_slice.ensures (rw c.in-Some-2.is at (c.in_ok-form.ensures {u = tt}).form) in
    copied_only c.args.lines.now c.in-Some.first.now c.in-Some.field-0-1.now c.in-Some-2.form (c.in-Some.ensures {u = tt}).cases.0 sole c.head_of.result c.head_of.ensures
