use Rattle.std.proofs.Common.{append_assoc, append-nil, sym}
use Rattle.form_parts.proofs.NextToken.{filled, emptied}
use Rattle.form_parts.proofs.Entries.{sole_none, sole_some, never_some, never_begins}
use Rattle.form_parts.proofs.part_lists.chained.Goals as goal

pub returns-in_default : goal.returns-in_default
returns-in_default g c = c.entry.invariant.fails (never_begins (filled c.entry.rest.now c.is_empty.ensures c.entry-test.true) (rw (c.in_default.is, c.behind_comma.ensures.behind) at (c.in_ok-next.ensures {u = tt}).entry))

pub entry-preserved : goal.entry-preserved
entry-preserved g c =
    let some = filled c.entry.rest.now c.is_empty.ensures c.entry-test.true in
    let entry = rw (c.in-Some.is, c.behind_comma.ensures.behind) at (c.in_ok-next.ensures {u = tt}).entry in
    record {
      shallow = rw c.in-Some.is at (c.in_ok-next.ensures {u = tt}).shallow;
      best = λ others s. rw ((c.in_ok-push-2.ensures {u = tt}).ok, append_assoc c.entry.all) (c.entry.invariant.best _ (sole_some some entry s));
      fails = λ never. c.entry.invariant.fails (never_some some entry never);
    }

pub returns : goal.returns
returns g c = rw (sym (append-nil c.entry.all)) (c.entry.invariant.best _ (sole_none (emptied c.entry.rest.now c.is_empty.ensures c.entry-test.false)))
