-- Laws of what serves units.
use Rattle.std.specs.Prelude.{◌≡◌, ℕ, List, [], ℤ, length}
use Rattle.run_model.specs.Storage.{Interval}
use Rattle.run_model.specs.Acts.{World, Handler}
use Rattle.f77_tree.specs.declared.unit.Unit.{Unit}
use Rattle.f77_values.specs.Tables.{Name}
use Rattle.f77_semantics.specs.Program.{Routine}
use Rattle.f77_semantics.specs.Units.{Program, cleared, run_unit, meaning, named, fresh_world, running}
use Rattle.run_calls.specs.Same.{SameRun}
use Rattle.run_calls.specs.Behaviours.{Behaviour, DependsOnItsCalls}
use Rattle.run_records.specs.Records.{Association, Record}
use Rattle.run_records.specs.Serving.{Serves}
use Rattle.run_records.specs.Widest.{widest}
use Rattle.run_records.specs.Laws.{PairsDummies}
use Rattle.unit_serves.specs.Units.{unit_behaviour, associate, ServesUnit, ServesUnitByRows}
use Rattle.unit_serves.specs.Programs.{together, HoldAlong, serving_run, ServedRun}

-- A unit's run is its behaviour from where its cells were cleared.
abbrev pub RunIsBehaviour : Type 0
RunIsBehaviour = (h : Handler) (u : Routine) (ds : List Interval) (w : World) → run_unit h u ds w ≡ (unit_behaviour u).run h ds (cleared u w)

abbrev pub UnitsDependOnTheirCalls : Type 0
UnitsDependOnTheirCalls = (u : Routine) → DependsOnItsCalls (unit_behaviour u)

-- What serves what serves a unit serves the unit.
abbrev pub PassesCompose : Type 0
PassesCompose = (r : Record) (u : Unit) (b c : Behaviour) → ServesUnit r u b → Serves (associate u) r b c → ServesUnit r u c

abbrev pub UnitsByRows : Type 0
UnitsByRows = (r : Record) (u : Unit) (b : Behaviour) → ServesUnit r u b → ServesUnitByRows r u b

-- What serves a unit under the widest record serves it under every record.
abbrev pub WidestServesUnits : Type 0
WidestServesUnits = (r : Record) (u : Unit) (b : Behaviour) → PairsDummies r → ServesUnit widest u b → ServesUnit r u b

-- Behaviours that each serve their unit do together what the program does, along each run along which their records hold.
abbrev pub ServeTogether : Type 0
ServeTogether = (units : Program) (places : Name → List Interval → Association) (records : Name → Record) (behaviours : Name → Behaviour)
    → ((q : Name) → Serves (places q) (records q) (unit_behaviour (units q)) (behaviours q)) → ((q : Name) → DependsOnItsCalls (behaviours q))
    → (depth : ℕ) (q : Name) (ds : List Interval) (w : World) → HoldAlong units places records depth q ds w
    → SameRun (meaning units depth q ds w) (together behaviours units depth q ds w)

-- So a program goes on, and ends, as its units' behaviours do together, on each input and for each number of steps.
abbrev pub ServePrograms : Type 0
ServePrograms = (units : List Routine) (main : Routine) (places : Name → List Interval → Association) (records : Name → Record) (behaviours : Name → Behaviour)
    → ((q : Name) → Serves (places q) (records q) (unit_behaviour (named units main q)) (behaviours q)) → ((q : Name) → DependsOnItsCalls (behaviours q))
    → (input : List ℤ) (n : ℕ) → HoldAlong (named units main) places records (length units) main.name [] (fresh_world units input n)
    → ServedRun (running units main input n) (serving_run behaviours units main input n)
