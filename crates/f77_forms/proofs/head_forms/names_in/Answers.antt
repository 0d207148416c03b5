use Rattle.f77_forms.proofs.HeadParts.{found_last, never_mark, sole_next, never_next}
use Rattle.f77_forms.proofs.head_forms.names_in.Goals as goal

pub returns-then-mark-eq41 : goal.returns-then-mark-eq41
returns-then-mark-eq41 c =
    found_last c.name.all c.if_last.result (c.in-Some.ensures {u = tt}) c.if-mark-eq41.true (rw (c.in_ok-name_of.ensures {u = tt}) at (c.in_ok-push.ensures {u = tt}).ok) c.if_last.ensures c.name.invariant.sole c.name.invariant.never

pub returns-then-mark-ne44 : goal.returns-then-mark-ne44
returns-then-mark-ne44 c = c.name.invariant.never (never_mark (c.in-Some.ensures {u = tt}) c.if-mark-eq41.false c.if-mark-ne44.true)

pub name-preserved : goal.name-preserved
name-preserved c = record {
  sole = sole_next c.name.all (c.in-Some.ensures {u = tt}) c.if-mark-ne44.false (rw (c.in_ok-name_of.ensures {u = tt}) at (c.in_ok-push.ensures {u = tt}).ok) c.name.invariant.sole;
  never = never_next (c.in-Some.ensures {u = tt}) c.if-mark-ne44.false c.name.invariant.never;
}
