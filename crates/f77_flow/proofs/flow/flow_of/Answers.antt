use Rattle.std.proofs.Common.{List, [], ◌∙◌, ap, subst, length, arith}
use Rattle.f77_tree.specs.declared.unit.Stmt.{Stmt}
use Rattle.f77_flow.specs.Graph.{At, follow}
use Rattle.f77_flow.specs.Next as n
use Rattle.f77_flow.specs.Adding.{Adds}
use Rattle.f77_flow.proofs.Checked.{leads_to_nodes}
use Rattle.f77_flow.proofs.Listing.{next_each, is_next, next_more, longer, all_within, fits, fresh}
use Rattle.f77_flow.proofs.flow.flow_of.Goals as goal

pub once-requires-clause-within : goal.once-requires-clause-within
once-requires-clause-within c =
    let same = (c.in_ok-control.ensures {u = tt}) ∙ c.as_slice-statements.ensures in
    let adds = subst (λ (u : List Stmt). Adds u (follow u (At c.loop-k.k)) [] c.in_ok-all.all) same (c.in_ok-all.ensures {u = tt}) in
    rw c.as_slice.ensures (fits _ _ _ (all_within _ _ _ adds) c.loop-k.invariant.room)

pub once-requires-clause-fresh : goal.once-requires-clause-fresh
once-requires-clause-fresh c = fresh _ _ c.loop-k.invariant.marks

pub loop-k-preserved : goal.loop-k-preserved
loop-k-preserved c =
    let same = (c.in_ok-control.ensures {u = tt}) ∙ c.as_slice-statements.ensures in
    let adds = subst (λ (u : List Stmt). Adds u (follow u (At c.loop-k.k)) [] c.in_ok-all.all) same (c.in_ok-all.ensures {u = tt}) in
    let here = is_next _ c.loop-k.k _ _ adds ((c.in_ok-once.ensures {u = tt}).once ∙ ap n.once c.as_slice.ensures) in
    let pushed = (c.in_ok-push.ensures {u = tt}).ok in
    record {
      long = rw pushed (longer _ _ _ c.loop-k.invariant.long);
      each = rw pushed (next_more _ _ _ _ c.loop-k.invariant.long c.loop-k.invariant.each here);
      room = (c.in_ok-once.ensures {u = tt}).long ∙ c.loop-k.invariant.room;
      marks = (c.in_ok-once.ensures {u = tt}).most;
    }

pub returns-clause-next : goal.returns-clause-next
returns-clause-next c = next_each _ _ (omega (arith, ap length c.as_slice-statements.ensures)) c.loop-k.invariant.each

pub returns-clause-nodes : goal.returns-clause-nodes
returns-clause-nodes c = leads_to_nodes _ _ (next_each _ _ (omega (arith, ap length c.as_slice-statements.ensures)) c.loop-k.invariant.each)
