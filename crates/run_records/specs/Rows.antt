-- What a call answers, as a row, and that a handler keeps to a record at a call.
use Rattle.std.specs.Prelude.{◌≡◌, ℕ, List, ◌++◌, Option, Some, None, ℤ}
use Rattle.run_model.specs.Storage.{Value, Loc, Cells}
use Rattle.run_model.specs.Acts.{World, Reason, Spent, Ended, Undefined, Outcome, Fine, Stop, Answer, Handler}
use Rattle.run_calls.specs.Calls.{Call}
use Rattle.run_records.specs.Records.{Association, Record, IsChanged, StandsIn}

-- The locations that change, each with its new cell. One that is made undefined changes too, also where its cell stays as it was.
abbrev pub Changes : Type 0
Changes = Loc → Option (Option Value)

abbrev pub over : {A : Type 0} → Option A → A → A
over None old = old
over (Some new) old = new

abbrev pub changed : Changes → Cells → Cells
changed ch cells l = over (ch l) (cells l)

-- A result, with what changes, what is printed, and the input and the steps that are left; or an end of the run; or that the callee goes
-- on for ever, or for as long as steps are left; or that it is undefined.
pub data Row : Type 0 where
  Results : Answer → Changes → (printed : List ℕ) → (input : List ℤ) → (left : ℕ) → Row
  Ends : (status : ℕ) → (printed : List ℕ) → (input : List ℤ) → (left : ℕ) → Row
  GoesOn : (printed : List ℕ) → (input : List ℤ) → (left : ℕ) → Row
  Fails : (cause : ℕ) → (printed : List ℕ) → Row

pub record StopsWith (reason : Reason) (out : List ℕ) (input : List ℤ) (left : ℕ) (o : Outcome Answer) : Type 0 where
  pub world : World
  pub is : o ≡ Stop reason world
  pub printed : world.out ≡ out
  pub unread : world.input ≡ input
  pub steps : world.left ≡ left

pub record FailsWith (cause : ℕ) (out : List ℕ) (o : Outcome Answer) : Type 0 where
  pub world : World
  pub is : o ≡ Stop (Undefined cause) world
  pub printed : world.out ≡ out

-- an outcome is that of a row from a world
abbrev pub IsRow : Row → World → Outcome Answer → Type 0
IsRow (Results r ch printed input left) w o = o ≡ Fine r (record { cells = changed ch w.cells; out = w.out ++ printed; input = input; left = left })
IsRow (Ends k printed input left) w o = StopsWith (Ended k) (w.out ++ printed) input left o
IsRow (GoesOn printed input left) w o = StopsWith Spent (w.out ++ printed) input left o
IsRow (Fails c printed) w o = FailsWith c (w.out ++ printed) o

abbrev pub AllChanges : (Loc → Type 0) → Changes → Type 0
AllChanges P ch = (l : Loc) (c : Option Value) → ch l ≡ Some c → P l

abbrev pub IsBound : (Loc → Type 0) → Row → Type 0
IsBound P (Results r ch printed input left) = AllChanges P ch
IsBound P (Ends k printed input left) = Unit {0}
IsBound P (GoesOn printed input left) = Unit {0}
IsBound P (Fails c printed) = Unit {0}

-- At this call the handler answers one row, which changes only what the record lets it change, and it answers it from each world that
-- stands in for the call's.
pub record Respects (r : Record) (place : Association) (h : Handler) (c : Call) : Type 0 where
  pub row : Row
  pub bound : IsBound (IsChanged r place c.site) row
  pub same : (v : World) → StandsIn r place c.site c.world v → IsRow row v (h c.site c.actuals v)
