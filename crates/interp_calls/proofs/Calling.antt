-- Calls, played.
use Rattle.std.proofs.Common.{◌≡◌, ℕ, suc, List, [], Option, None, Some, option_map, Result, Err, sym, ap}
use Rattle.run_model.specs.Storage.{Interval}
use Rattle.run_model.specs.Acts as acts
use Rattle.run_model.specs.Acts.{World, Fine, Outcome, then_do, Act, Ask, Answer, Handler, play}
use Rattle.f77_tree.specs.declared.unit.Value.{Value}
use Rattle.f77_semantics.specs.Units.{Program, at_sites, meaning, run_unit}
use Rattle.f77_semantics.specs.Values.{stored}
use Rattle.f77_values.specs.Tables.{Name}
use Rattle.interp_code.specs.Steps.{Operands, with_some, passed_above}
use Rattle.interp_steps.specs.declared.stop.Stop.TheVariants.{Stuck}
use Rattle.interp_calls.specs.declared.halt.Halt.{Halt}
use Rattle.interp_calls.specs.declared.halt.Halt.TheVariants.{Stop}
use Rattle.interp_calls.specs.Behind.{behind, AllAppend}
use Rattle.interp_calls.specs.Calls.{asking, Answers}
use Rattle.interp_calls.specs.Sending.{Sends}
use Rattle.interp_calls.proofs.Appending.{acts_append}
use Rattle.interp_calls.proofs.Reaching.{sends_from, sends_then}

module _ (h : Handler) (all : AllAppend h) (site : ℕ) (old new : Operands) (before after : World) (then now : Option (List ℕ)) where
  -- a call on these actual arguments
  pub answered : (r : Result (Option Value) Halt) (ds : List Interval) → passed_above old [] ≡ Some (ds, new) → Sends r (λ v. Fine (option_map stored v)) before after then now (h site ds) → Answers r h site old new before after then now
  answered r ds e sends go =
      let next : Answer → World → Outcome Operands = λ x w. play h (go x new) w in
      sends_from before after then now r (λ v w. next (option_map stored v) w) (λ w. then_do (h site ds w) next) (play h (asking site old go)) before
      (λ sent. ap (λ o. play h (with_some o (λ p. Ask site p.0 (λ x. go x p.1))) (behind sent before)) e)
      (sends_then before after then now r (λ v. Fine (option_map stored v)) (h site ds) next (λ x. acts_append h all (go x new)) sends)

  pub not_called : passed_above old [] ≡ None → before ≡ after → Answers (Err (Stop Stuck)) h site old new before before then then
  not_called e same go start sent a = record { sent = sent; appended = a; arrives = ap (λ o. play h (with_some o (λ p. Ask site p.0 (λ x. go x p.1))) (behind sent before)) e }

-- where calls may go deeper, and where they may not
pub goes_deeper : (units : Program) (depth d : ℕ) (q : Name) (ds : List Interval) (w : World) → depth ≡ suc d → run_unit (at_sites (units q) (meaning units d)) (units q) ds w ≡ meaning units depth q ds w
goes_deeper units depth d q ds w e = ap (λ n. meaning units n q ds w) (sym e)

pub goes_no_deeper : (units : Program) (depth : ℕ) (q : Name) (ds : List Interval) (w : World) → depth ≡ 0 → meaning units depth q ds w ≡ acts.Stop acts.Stuck w
goes_no_deeper units depth q ds w e = ap (λ n. meaning units n q ds w) e
