-- Units as behaviours, and the induction up the calls of a program.
use Rattle.std.proofs.Common.{ℕ, zero, suc, List, [], ◌∷◌, length, refl, sym, ap, ◌∙◌}
use Rattle.run_model.specs.Storage.{Interval}
use Rattle.run_model.specs.Acts.{World, Spent, Ended, Undefined, Stuck, Outcome, Fine, Stop, Answer}
use Rattle.run_model.specs.Runs.{Going, Finished, answer}
use Rattle.f77_values.specs.Tables.{Name}
use Rattle.f77_semantics.specs.Statements.{turn}
use Rattle.f77_semantics.specs.Units.{Program, entry, entered, beginning, cleared, callee, at_sites, meaning, named, fresh_world}
use Rattle.f77_semantics.specs.Source.{routine}
use Rattle.run_calls.specs.Calls.{Call, Each}
use Rattle.run_calls.specs.Same.{SameRun}
use Rattle.run_calls.specs.Behaviours.{Behaviour, DependsOnItsCalls}
use Rattle.run_calls.proofs.Depends.{activations_depend}
use Rattle.run_calls.proofs.Ends.{if_map}
use Rattle.run_records.specs.Records.{Association, Record}
use Rattle.run_records.specs.Serving.{Serves}
use Rattle.run_records.specs.Laws.{StandInsAlike}
use Rattle.run_records.proofs.Composed.{composes, callees_may_change}
use Rattle.run_records.proofs.Rowed.{gives_rows}
use Rattle.run_records.proofs.Narrowed.{widest_serves}
use Rattle.unit_serves.specs.Units.{unit_behaviour, associate}
use Rattle.unit_serves.specs.Programs.{together, callees_at, calls_in, HoldAlong, ServedRun}
use Rattle.unit_serves.specs.Laws.{RunIsBehaviour, UnitsDependOnTheirCalls, PassesCompose, UnitsByRows, WidestServesUnits, ServeTogether, ServePrograms}

pub run_is_behaviour : RunIsBehaviour
run_is_behaviour h u ds w = refl

pub units_depend : UnitsDependOnTheirCalls
units_depend u = activations_depend (λ ds. entry (entered u ds) u.dummy_arrays) (turn u) (λ f. beginning u)

pub passes_compose : PassesCompose
passes_compose r u b c p q = composes (associate u) r (unit_behaviour (routine u)) b c p q

pub units_by_rows : UnitsByRows
units_by_rows r u b p = gives_rows (associate u) r (unit_behaviour (routine u)) b p

pub widest_units : WidestServesUnits
widest_units r u b pairs p = widest_serves (associate u) r (unit_behaviour (routine u)) b pairs p

each_map : (P Q : Call → Type 0) → ((c : Call) → P c → Q c) → (cs : List Call) → Each P cs → Each Q cs
each_map P Q f [] e = tt
each_map P Q f (c ∷ cs) e = (f c e.0, each_map P Q f cs e.1)

module _ (units : Program) (places : Name → List Interval → Association) (records : Name → Record) (behaviours : Name → Behaviour) (serves : (q : Name) → Serves (places q) (records q) (unit_behaviour (units q)) (behaviours q)) (depends : (q : Name) → DependsOnItsCalls (behaviours q)) where
  pub serve_together : (d : ℕ) (q : Name) (ds : List Interval) (w : World) → HoldAlong units places records d q ds w → SameRun (meaning units d q ds w) (together behaviours units d q ds w)
  serve_together zero q ds w hold = tt
  serve_together (suc d) q ds w hold =
      callees_may_change (places q) (records q) (unit_behaviour (units q)) (behaviours q) (serves q) (depends q)
      (callees_at units d q) (at_sites (units q) (together behaviours units d)) ds (cleared (units q) w) hold.0 hold.1
      (if_map (meaning units (suc d) q ds w) _ _ (each_map _ (StandInsAlike (records q) (places q ds) (callees_at units d q) (at_sites (units q) (together behaviours units d))) (λ c f v s. serve_together d (callee (units q) c.site) c.actuals v (f v s)) (calls_in units d q ds w)) hold.2)

pub all_together : ServeTogether
all_together units places records behaviours serves depends depth q ds w hold = serve_together units places records behaviours serves depends depth q ds w hold

same_answer : (n : ℕ) (o p : Outcome Answer) → SameRun o p → ServedRun (answer n o) (answer n p)
same_answer n (Fine x v) p s = tt
same_answer n (Stop Spent v) p s = ap (answer n) s.is ∙ ap Going (sym s.alike.out)
same_answer n (Stop (Ended k) v) p s = ap (answer n) s.is ∙ ap (Finished k) (sym s.alike.out)
same_answer n (Stop (Undefined c) v) p s = tt
same_answer n (Stop Stuck v) p s = tt

pub serve_programs : ServePrograms
serve_programs us main places records behaviours serves depends input n hold =
    same_answer n _ _ (serve_together (named us main) places records behaviours serves depends (length us) main.name [] (fresh_world us input n) hold)
