-- Bodies as behaviours that serve.
use Rattle.std.proofs.Common.{◌≡◌, List, [], ◌∷◌, Bool, true, false, cond, map, refl, sym, ap, subst}
use Rattle.run_model.specs.Storage.{Interval, name_eq}
use Rattle.run_model.specs.Acts.{World, Done, Handler}
use Rattle.f77_tree.specs.declared.unit.Unit.{Unit}
use Rattle.f77_values.specs.Tables.{Name}
use Rattle.f77_semantics.specs.Statements.{turn}
use Rattle.f77_semantics.specs.Units.{entry, entered, beginning, named}
use Rattle.f77_semantics.specs.Source.{routine, with_main}
use Rattle.run_calls.specs.Behaviours.{Behaviour}
use Rattle.run_calls.proofs.Depends.{activations_depend}
use Rattle.run_calls.proofs.Ends.{if_map}
use Rattle.run_alike.specs.Alike.{Alike}
use Rattle.run_alike.proofs.Runs.{enters_like}
use Rattle.run_records.specs.Records.{Association, Record, IsEntry}
use Rattle.run_records.specs.Serving.{Serves, SameCalls}
use Rattle.run_records.proofs.Stands.{same_calls_self}
use Rattle.run_records.proofs.Composed.{composes, serves_itself}
use Rattle.run_records.proofs.Rowed.{gives_rows}
use Rattle.run_records.proofs.Narrowed.{narrows, widest_serves}
use Rattle.unit_serves.specs.Units.{unit_behaviour, associate}
use Rattle.unit_serves.specs.Programs.{ServedRun}
use Rattle.unit_serves.proofs.Served.{serve_programs}
use Rattle.ir_core.specs.Runs.{body_turn, entrance}
use Rattle.body_serves.specs.Bodies.{activated, body_behaviour}
use Rattle.body_serves.specs.Laws.{RunIsBehaviour, BodiesDependOnTheirCalls, PassesCompose, BodiesServeFurther, FollowingServes, unit_named, places_in, behaviours_in, bodies_run, BodiesServeTogether}

pub run_is_behaviour : RunIsBehaviour
run_is_behaviour h u l ds w = refl

pub bodies_depend : BodiesDependOnTheirCalls
bodies_depend u l = activations_depend (λ ds. Done (activated u ds)) (λ a. body_turn a l) (λ a. entrance)

pub passes_compose : PassesCompose
passes_compose = record {
  serves = λ r u old new p q. composes (associate u) r (unit_behaviour (routine u)) (body_behaviour (routine u) old) (body_behaviour (routine u) new) p q;
  keeps = λ r u a b c p q. composes (associate u) r (body_behaviour (routine u) a) (body_behaviour (routine u) b) (body_behaviour (routine u) c) p q;
  itself = λ r u l. serves_itself (associate u) r (body_behaviour (routine u) l);
}

pub serve_further : BodiesServeFurther
serve_further = record {
  narrower = λ r s u l wide p. narrows (associate u) r s (unit_behaviour (routine u)) (body_behaviour (routine u) l) wide p;
  widest = λ r u l pairs p. widest_serves (associate u) r (unit_behaviour (routine u)) (body_behaviour (routine u) l) pairs p;
  rows = λ r u l p. gives_rows (associate u) r (unit_behaviour (routine u)) (body_behaviour (routine u) l) p;
}

-- the routine of the unit of a name is the routine of that name
routine_named : (units : List Unit) (main : Unit) (q : Name) → routine (unit_named units main q) ≡ named (map routine units) (routine main) q
routine_named [] main q = refl
routine_named (u ∷ units) main q = at_test (name_eq u.name q) (routine_named units main q)
  where
    at_test : (b : Bool) → routine (unit_named units main q) ≡ named (map routine units) (routine main) q → routine (cond b u (unit_named units main q)) ≡ cond b (routine u) (named (map routine units) (routine main) q)
    at_test true ih = refl
    at_test false ih = ih

pub serve_together : BodiesServeTogether
serve_together units main is_main records bodies serves input n hold =
    subst (λ run. ServedRun run (bodies_run units main bodies input n)) (sym (ap (λ m. with_main (map routine units) m input n) is_main))
    (serve_programs (map routine units) (routine main) (places_in units main) records (behaviours_in units main bodies)
    (λ q. subst (λ u. Serves (places_in units main q) (records q) (unit_behaviour u) (behaviours_in units main bodies q)) (routine_named units main q) (serves q))
    (λ q. bodies_depend (routine (unit_named units main q)) (bodies q))
    input n hold)

-- what runs alike from each entry serves
alike_serves : (places : List Interval → Association) (r : Record) (a b : Behaviour) → ((h : Handler) (ds : List Interval) (w : World) → IsEntry r (places ds) w → Alike (a.run h ds w) (b.run h ds w) (a.calls h ds w) (b.calls h ds w)) → Serves places r a b
alike_serves places r a b f = record {
  same_run = λ h ds w en re. (f h ds w en).run;
  same_calls = λ h ds w en re. if_map (a.run h ds w) (a.calls h ds w ≡ b.calls h ds w) (SameCalls r (places ds) (a.calls h ds w) (b.calls h ds w)) (λ e. subst (λ cs. SameCalls r (places ds) (a.calls h ds w) cs) e (same_calls_self r (places ds) (a.calls h ds w))) (f h ds w en).calls;
}

pub following_serves : FollowingServes
following_serves u l follows r =
    alike_serves (associate u) r (unit_behaviour (routine u)) (body_behaviour (routine u) l) (λ h ds w en.
    enters_like h (turn (routine u)) (λ f. beginning (routine u)) (entry (entered (routine u) ds) (routine u).dummy_arrays) (body_turn (activated (routine u) ds) l) entrance (follows ds en.associated) w)
