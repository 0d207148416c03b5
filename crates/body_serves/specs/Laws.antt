-- Laws of bodies that serve, and of what is spent.
use Rattle.std.specs.Prelude.{◌≡◌, ℕ, List, [], ◌∷◌, Some, cond, ℤ, map, length}
use Rattle.run_model.specs.Storage.{Interval, name_eq}
use Rattle.run_model.specs.Acts.{World, Handler}
use Rattle.run_model.specs.Runs.{Run}
use Rattle.f77_tree.specs.declared.unit.Item.{Item}
use Rattle.f77_tree.specs.declared.unit.Unit.{Unit}
use Rattle.f77_values.specs.Tables.{Name}
use Rattle.f77_semantics.specs.Program.{Routine}
use Rattle.f77_semantics.specs.Units.{named, fresh_world}
use Rattle.f77_semantics.specs.Source.{routine, main_of, Source}
use Rattle.run_calls.specs.Behaviours.{Behaviour, DependsOnItsCalls}
use Rattle.run_records.specs.Records.{Association, Record}
use Rattle.run_records.specs.Widest.{AsWide, widest}
use Rattle.run_records.specs.Laws.{PairsDummies}
use Rattle.unit_serves.specs.Units.{associate, ServesUnitByRows}
use Rattle.unit_serves.specs.Programs.{HoldAlong, serving_run, ServedRun}
use Rattle.ir_core.specs.Listings.{Listing}
use Rattle.ir_core.specs.Runs.{run_body}
use Rattle.body_serves.specs.Bodies.{activated, body_behaviour, BodyServes, BodyKeeps, Follows}
use Rattle.body_serves.specs.Spent.{Point, IsPoint, Holder, Known, IsGreatest, Copies, AreAllCopies, Lives, IsLeast}

-- A body's run is its behaviour.
abbrev pub RunIsBehaviour : Type 0
RunIsBehaviour = (h : Handler) (u : Routine) (l : Listing) (ds : List Interval) (w : World) → run_body h (activated u ds) l w ≡ (body_behaviour u l).run h ds w

abbrev pub BodiesDependOnTheirCalls : Type 0
BodiesDependOnTheirCalls = (u : Routine) (l : Listing) → DependsOnItsCalls (body_behaviour u l)

-- A body that follows its unit act by act serves it under every record.
abbrev pub FollowingServes : Type 0
FollowingServes = (u : Unit) (l : Listing) → Follows u l → (r : Record) → BodyServes r u l

-- A pass that keeps what a body does keeps that it serves, and so do two passes one after the other.
pub record PassesCompose : Type 0 where
  pub serves : (r : Record) (u : Unit) (old new : Listing) → BodyServes r u old → BodyKeeps r u old new → BodyServes r u new
  pub keeps : (r : Record) (u : Unit) (a b c : Listing) → BodyKeeps r u a b → BodyKeeps r u b c → BodyKeeps r u a c
  pub itself : (r : Record) (u : Unit) (l : Listing) → BodyKeeps r u l l

-- A body that serves under a record serves under each that tells more, one that serves under the widest under all, and each by rows.
pub record BodiesServeFurther : Type 0 where
  pub narrower : (r s : Record) (u : Unit) (l : Listing) → AsWide r s → BodyServes s u l → BodyServes r u l
  pub widest : (r : Record) (u : Unit) (l : Listing) → PairsDummies r → BodyServes widest u l → BodyServes r u l
  pub rows : (r : Record) (u : Unit) (l : Listing) → BodyServes r u l → ServesUnitByRows r u (body_behaviour (routine u) l)

-- the unit of a name, among these
abbrev pub unit_named : List Unit → Unit → Name → Unit
unit_named [] other q = other
unit_named (u ∷ us) other q = cond (name_eq u.name q) u (unit_named us other q)

abbrev pub places_in : List Unit → Unit → Name → List Interval → Association
places_in units main q = associate (unit_named units main q)

abbrev pub behaviours_in : List Unit → Unit → (Name → Listing) → Name → Behaviour
behaviours_in units main bodies q = body_behaviour (routine (unit_named units main q)) (bodies q)

-- what the bodies make of a program together
abbrev pub bodies_run : List Unit → Unit → (Name → Listing) → List ℤ → ℕ → Run
bodies_run units main bodies input n = serving_run (behaviours_in units main bodies) (map routine units) (routine main) input n

-- Bodies that each serve their unit under a record do together what the program does, where the records hold along its run.
abbrev pub BodiesServeTogether : Type 0
BodiesServeTogether = (units : List Unit) (main : Unit) → main_of units ≡ Some main → (records : Name → Record) (bodies : Name → Listing)
    → ((q : Name) → BodyServes (records q) (unit_named units main q) (bodies q))
    → (input : List ℤ) (n : ℕ) → HoldAlong (named (map routine units) (routine main)) (places_in units main) records (length (map routine units)) main.name [] (fresh_world (map routine units) input n)
    → ServedRun (Source units input n) (bodies_run units main bodies input n)

-- Each of the three solutions by which a body is spent is one.
pub record SolutionsAreOne : Type 0 where
  pub constants : (r : Record) (l : Listing) (known other : Known) → IsGreatest r l known → IsGreatest r l other
      → (p : Point) → IsPoint l p → (h : Holder) → known p h ≡ other p h
  pub copies : (r : Record) (l : Listing) (copies other : Copies) → AreAllCopies r l copies → AreAllCopies r l other
      → (p : Point) → IsPoint l p → (x : Item) (t : ℕ) → copies p x t ≡ other p x t
  pub lives : (r : Record) (l : Listing) (live other : Lives) → IsLeast r l live → IsLeast r l other
      → (p : Point) → IsPoint l p → (x : Item) → live p x ≡ other p x
