use Rattle.std.proofs.Common.{append_assoc, append-nil, sym}
use Rattle.form_parts.proofs.Lists.{only_list, no_list, tail_goes, tail_stops, tail_ends}
use Rattle.form_parts.proofs.part_lists.listed.Goals.{in-Some-eat+in_ok-next+in_default-2, in_default-eat}
use Rattle.form_parts.proofs.part_lists.listed.Goals as goal

pub returns-in_default-clause-list : goal.returns-in_default-clause-list
returns-in_default-clause-list g c = no_list (rw c.in_default.is at (c.in_ok-first.ensures {u = tt}).part)

pub part-init : goal.part-init
part-init g c = record {
  shallow = rw c.in-Some.is at (c.in_ok-first.ensures {u = tt}).shallow;
  best = λ others s t. rw ((c.in_ok-push.ensures {u = tt}).ok, c.new-all.ensures) (only_list (rw c.in-Some.is at (c.in_ok-first.ensures {u = tt}).part) t);
}

pub part-preserved : goal.part-preserved
part-preserved g c = record {
  shallow = rw c.in-Some-2.is at (c.in_ok-next.ensures {u = tt}).shallow;
  best = λ others s t. rw ((c.in_ok-push-2.ensures {u = tt}).ok, append_assoc c.part.all) (c.part.invariant.best _ s (tail_goes c.in-Some-eat.ensures.next (rw c.in-Some-2.is at (c.in_ok-next.ensures {u = tt}).part) t));
}

pub returns-clause-list : goal.returns-clause-list
returns-clause-list g c =
    rw (sym (append-nil c.part.all)) (c.part.invariant.best _ c.part.rest.now (elim c.match-eat.branch [
      | in-Some-eat+in_ok-next+in_default-2 w ↦ tail_ends w.in-Some-eat.ensures.next (rw w.in_default-2.is at (w.in_ok-next.ensures {u = tt}).part)
      | in_default-eat w ↦ tail_stops w.in_default-eat.ensures.next
    ]))
