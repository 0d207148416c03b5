-- What it is to serve: to do what another behaviour does, as far as a record lets the difference show.
use Rattle.std.specs.Prelude.{◌≡◌, List, [], ◌∷◌}
use Rattle.run_model.specs.Storage.{Interval}
use Rattle.run_model.specs.Acts.{World, Handler}
use Rattle.run_calls.specs.Calls.{Call, Each}
use Rattle.run_calls.specs.Same.{SameRun, IfDefined}
use Rattle.run_calls.specs.Behaviours.{Behaviour}
use Rattle.run_records.specs.Records.{Association, Record, StandsIn, IsEntry}
use Rattle.run_records.specs.Rows.{Respects}

-- the same site with the same actual arguments, from a world that stands in
pub record SameCall (r : Record) (place : Association) (c d : Call) : Type 0 where
  pub site : c.site ≡ d.site
  pub actuals : c.actuals ≡ d.actuals
  pub world : StandsIn r place c.site c.world d.world

abbrev pub SameCalls : Record → Association → List Call → List Call → Type 0
SameCalls r place [] [] = Unit {0}
SameCalls r place (c ∷ cs) (d ∷ ds) = SameCall r place c d × SameCalls r place cs ds
SameCalls r place [] (d ∷ ds) = ⊥
SameCalls r place (c ∷ cs) [] = ⊥

-- The second behaviour serves the first. Take any handler, and any entry, where the handler keeps to the record at the calls that the first
-- makes. Then the second runs as the first, as far as that is defined: it prints, reads, ends and takes steps as it does, returns with the
-- same answer and the same storage, and makes the same calls, from storage that differs at most in what isn't read through.
pub record Serves (associate : List Interval → Association) (r : Record) (a b : Behaviour) : Type 0 where
  pub same_run : (h : Handler) (ds : List Interval) (w : World) → IsEntry r (associate ds) w → Each (Respects r (associate ds) h) (a.calls h ds w)
      → SameRun (a.run h ds w) (b.run h ds w)
  pub same_calls : (h : Handler) (ds : List Interval) (w : World) → IsEntry r (associate ds) w → Each (Respects r (associate ds) h) (a.calls h ds w)
      → IfDefined (a.run h ds w) (SameCalls r (associate ds) (a.calls h ds w) (b.calls h ds w))
