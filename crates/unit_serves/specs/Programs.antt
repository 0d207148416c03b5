-- Programs whose units are served by other behaviours, and records that hold along their runs.
use Rattle.std.specs.Prelude.{◌≡◌, ℕ, zero, suc, List, [], ℤ, length}
use Rattle.run_model.specs.Storage.{Interval}
use Rattle.run_model.specs.Acts.{World, Stuck, Stop, Handler}
use Rattle.run_model.specs.Runs.{Run, Going, Finished, UndefinedAt, Wrong, answer}
use Rattle.f77_values.specs.Tables.{Name}
use Rattle.f77_semantics.specs.Program.{Routine}
use Rattle.f77_semantics.specs.Units.{Program, Meanings, cleared, callee, at_sites, meaning, named, fresh_world}
use Rattle.run_calls.specs.Calls.{Call, Each}
use Rattle.run_calls.specs.Same.{IfDefined}
use Rattle.run_calls.specs.Behaviours.{Behaviour}
use Rattle.run_records.specs.Records.{Association, Record, StandsIn, IsEntry}
use Rattle.run_records.specs.Rows.{Respects}
use Rattle.unit_serves.specs.Units.{unit_behaviour}

-- what the behaviours do together, each in its unit's place, with so many calls below one another
abbrev pub together : (Name → Behaviour) → Program → (depth : ℕ) → Meanings
together behaviours units zero q ds w = Stop Stuck w
together behaviours units (suc d) q ds w = (behaviours q).run (at_sites (units q) (together behaviours units d)) ds (cleared (units q) w)

-- the calls of a unit by its own callees
abbrev pub callees_at : Program → ℕ → Name → Handler
callees_at units d q = at_sites (units q) (meaning units d)

abbrev pub calls_in : Program → ℕ → Name → List Interval → World → List Call
calls_in units d q ds w = (unit_behaviour (units q)).calls (callees_at units d q) ds (cleared (units q) w)

-- The records hold along the run of a unit: it begins at an entry, and as long as it is defined its calls keep to the record, and from all
-- that stands in at a call they hold along the callee's run, and so on.
abbrev pub HoldAlong : Program → (Name → List Interval → Association) → (Name → Record) → (depth : ℕ) → Name → List Interval → World → Type 0
HoldAlong units places records zero q ds w = Unit {0}
HoldAlong units places records (suc d) q ds w =
    IsEntry (records q) (places q ds) (cleared (units q) w)
    × IfDefined (meaning units (suc d) q ds w) (Each (Respects (records q) (places q ds) (callees_at units d q)) (calls_in units d q ds w))
    × IfDefined (meaning units (suc d) q ds w)
    (Each (λ c. (v : World) → StandsIn (records q) (places q ds) c.site c.world v → HoldAlong units places records d (callee (units q) c.site) c.actuals v) (calls_in units d q ds w))

-- what the behaviours make of a program with an input, just before step n + 1 would begin
abbrev pub serving_run : (Name → Behaviour) → List Routine → (main : Routine) → List ℤ → ℕ → Run
serving_run behaviours us main input n = answer n (together behaviours (named us main) (length us) main.name [] (fresh_world us input n))

-- the same run, where the first is defined
abbrev pub ServedRun : Run → Run → Type 0
ServedRun (Going out) r = r ≡ Going out
ServedRun (Finished k out) r = r ≡ Finished k out
ServedRun (UndefinedAt step cause out) r = Unit {0}
ServedRun Wrong r = Unit {0}
