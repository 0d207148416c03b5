-- Serving composes, and callees may be others that do the same.
use Rattle.std.proofs.Common.{List, subst}
use Rattle.run_model.specs.Storage.{Interval}
use Rattle.run_model.specs.Acts.{World, Handler}
use Rattle.run_calls.specs.Calls.{Call, Each}
use Rattle.run_calls.specs.Same.{SameRun, AnswersAlike}
use Rattle.run_calls.proofs.Ends.{same_self, same_trans, if_defined, if_holds, with_second}
use Rattle.run_records.specs.Records.{Association, Record}
use Rattle.run_records.specs.Rows.{Respects}
use Rattle.run_records.specs.Serving.{SameCall, SameCalls}
use Rattle.run_records.specs.Laws.{Composes, ServesItself, StandInsAlike, CalleesMayChange}
use Rattle.run_records.proofs.Stands.{same_calls_trans, same_calls_self, stand_ins, respects_too}

pub composes : Composes
composes associate r a b c p q = record {
  same_run = λ h ds w en re. if_defined (a.run h ds w) (c.run h ds w) _ (p.same_calls h ds w en re) (λ same. same_trans (a.run h ds w) (b.run h ds w) (c.run h ds w) (p.same_run h ds w en re) (q.same_run h ds w en (too h ds w re same)));
  same_calls = λ h ds w en re. with_second (a.run h ds w) (b.run h ds w) _ (SameCalls r (associate ds) (b.calls h ds w) (c.calls h ds w)) _ (p.same_run h ds w en re) (p.same_calls h ds w en re) (λ same. q.same_calls h ds w en (too h ds w re same)) (λ s t. same_calls_trans r (associate ds) _ _ _ s t);
}
  where
    too : (h : Handler) (ds : List Interval) (w : World) → Each (Respects r (associate ds) h) (a.calls h ds w) → SameCalls r (associate ds) (a.calls h ds w) (b.calls h ds w) → Each (Respects r (associate ds) h) (b.calls h ds w)
    too h ds w re same = stand_ins r (associate ds) (Respects r (associate ds) h) (Respects r (associate ds) h) (respects_too r (associate ds) h) (a.calls h ds w) (b.calls h ds w) re same

pub serves_itself : ServesItself
serves_itself associate r a = record {
  same_run = λ h ds w en re. same_self (a.run h ds w);
  same_calls = λ h ds w en re. if_holds (a.run h ds w) _ (same_calls_self r (associate ds) (a.calls h ds w));
}

-- the answers to a call of the second run are alike
alike_too : (r : Record) (place : Association) (h g : Handler) (c d : Call) → StandInsAlike r place h g c → SameCall r place c d → AnswersAlike h g d
alike_too r place h g c d p e = subst (λ s. SameRun (h s d.actuals d.world) (g s d.actuals d.world)) e.site (subst (λ ds. SameRun (h c.site ds d.world) (g c.site ds d.world)) e.actuals (p d.world e.world))

pub callees_may_change : CalleesMayChange
callees_may_change associate r a b serves depends h g ds w en respects alike =
    if_defined (a.run h ds w) (b.run g ds w) _ respects (λ re.
    if_defined (a.run h ds w) (b.run g ds w) _ alike (λ al.
    if_defined (a.run h ds w) (b.run g ds w) _ (serves.same_calls h ds w en re) (λ same.
    same_trans (a.run h ds w) (b.run h ds w) (b.run g ds w) (serves.same_run h ds w en re)
    (depends.alike h g ds w (stand_ins r (associate ds) (StandInsAlike r (associate ds) h g) (AnswersAlike h g) (alike_too r (associate ds) h g) (a.calls h ds w) (b.calls h ds w) al same)))))
