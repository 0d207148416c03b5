use Rattle.form_parts.proofs.Enclosed.{front_enclosed, not_opened, no_list_inside, not_closed}
use Rattle.form_parts.proofs.part_lists.parenthesized.Goals as goal

pub returns-in_default-clause-list : goal.returns-in_default-clause-list
returns-in_default-clause-list g c = not_opened (c.in_default.ensures {u = tt}).next

pub returns-in_default-2-clause-list : goal.returns-in_default-2-clause-list
returns-in_default-2-clause-list g c = no_list_inside (c.in-Some.ensures {u = tt}).next (rw c.in_default-2.is at (c.in_ok-all.ensures {u = tt}).list)

pub returns-in_default-eat-clause-list : goal.returns-in_default-eat-clause-list
returns-in_default-eat-clause-list g c = not_closed (c.in-Some.ensures {u = tt}).next (rw c.in-Some-2.is at (c.in_ok-all.ensures {u = tt}).list) (c.in_default-eat.ensures {u = tt}).next

pub returns-clause-list : goal.returns-clause-list
returns-clause-list g c = front_enclosed (c.in-Some.ensures {u = tt}).next (rw c.in-Some-2.is at (c.in_ok-all.ensures {u = tt}).list) (c.in-Some-eat.ensures {u = tt}).next
