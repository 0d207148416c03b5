use Rattle.std.proofs.Common.{◌≡◌, true, false, sym, subst}
use Rattle.serde_json.specs.View.{view}
use Rattle.obj_form.specs.Grammar.{IsArrayOf, IsRun, Reads}
use Rattle.obj_form.specs.Objects.{AreRuns}
use Rattle.obj_form.proofs.Reading.{not_in_order}
use Rattle.obj_form.proofs.runs.initial_of.Goals as goal

pub returns-in_default : goal.returns-in_default
returns-in_default c = λ runs h. subst (Reads (IsArrayOf IsRun) (view c.args.value.now)) c.in_default.is c.in_ok-runs.ensures runs h.0

pub returns-else-are_runs : goal.returns-else-are_runs
returns-else-are_runs c =
    not_in_order (view c.args.value.now) c.in-Some.runs (subst (Reads (IsArrayOf IsRun) (view c.args.value.now)) c.in-Some.is c.in_ok-runs.ensures)
    (λ all. let yes : false ≡ true = c.if-are_runs.ensures.1 (subst AreRuns (sym c.as_slice.ensures) all) in cc yes)
