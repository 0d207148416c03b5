use Rattle.std.proofs.Common.{⊎_elim, subst}
use Rattle.fixed_form.specs.Heads.{FrontName}
use Rattle.fixed_form.proofs.HeadNames.{names_ended, names_marked, names_more, names_behind}
use Rattle.fixed_form.proofs.unit_names.are_names.Goals as goal

pub returns-then-mark-eq41 : goal.returns-then-mark-eq41
returns-then-mark-eq41 c =
    names_ended c.in-Some.after.now c.is_empty.result c.is_empty.ensures (subst (λ m. FrontName c.name.rest.now m c.in-Some.after.now) c.if-mark-eq41.true (c.in-Some.ensures {u = tt})) c.name.invariant.yes c.name.invariant.no

pub returns-then-mark-ne44 : goal.returns-then-mark-ne44
returns-then-mark-ne44 c = λ names. ⊎_elim c.if-mark-eq41.false c.if-mark-ne44.true (names_marked (c.in-Some.ensures {u = tt}) (c.name.invariant.no names))

pub name-preserved : goal.name-preserved
name-preserved c =
    let front = subst (λ m. FrontName c.name.rest.now m c.in-Some.after.now) c.if-mark-ne44.false (c.in-Some.ensures {u = tt}) in
    record { yes = λ names. c.name.invariant.yes (names_more front names); no = λ names. names_behind front (c.name.invariant.no names) }
