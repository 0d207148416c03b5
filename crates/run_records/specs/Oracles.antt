-- Call oracles: finite lists of rows, of which the first that fits answers.
use Rattle.std.specs.Prelude.{◌≡◌, ℕ, List, [], ◌∷◌, ◌⊎◌, ℤ}
use Rattle.run_model.specs.Storage.{Loc, Interval, Cells}
use Rattle.run_model.specs.Acts.{World, Answer, Handler}
use Rattle.run_calls.specs.Calls.{Call}
use Rattle.run_calls.specs.Same.{SameRun, IfDefined}
use Rattle.run_calls.specs.Behaviours.{Behaviour}
use Rattle.run_records.specs.Records.{Association, Record, IsReadThrough, IsChanged, IsEntry}
use Rattle.run_records.specs.Rows.{Changes, Row, Results, Ends, GoesOn, Fails, IsRow, AllChanges}
use Rattle.run_records.specs.Serving.{SameCalls}

-- what a callee does, which is no step of its caller
pub data Reply : Type 0 where
  Gives : Answer → Changes → (printed : List ℕ) → (input : List ℤ) → Reply
  Finishes : (status : ℕ) → (printed : List ℕ) → Reply
  Forever : (printed : List ℕ) → Reply
  IsUndefined : (cause : ℕ) → (printed : List ℕ) → Reply

-- a site, actual arguments, a storage, the input left, and the reply
pub record Line : Type 0 where
  pub site : ℕ
  pub actuals : List Interval
  pub cells : Cells
  pub input : List ℤ
  pub reply : Reply

-- A line fits a call where it has the call's site, actual arguments and input, and its storage on all that is read through there.
pub record Fits (r : Record) (place : Association) (x : Line) (c : Call) : Type 0 where
  pub site : x.site ≡ c.site
  pub actuals : x.actuals ≡ c.actuals
  pub input : x.input ≡ c.world.input
  pub cells : (l : Loc) → IsReadThrough r place c.site l → x.cells l ≡ c.world.cells l

-- The reply of the first line that fits. Where none fits the run stops there, having printed nothing more.
abbrev pub IsFirst : Record → Association → List Line → Call → Reply → Type 0
IsFirst r place [] c a = a ≡ Forever []
IsFirst r place (x ∷ xs) c a = (Fits r place x c × (a ≡ x.reply)) ⊎ ((Fits r place x c → ⊥) × IsFirst r place xs c a)

-- the row of a reply from a world
abbrev pub row_of : Reply → World → Row
row_of (Gives a ch printed input) w = Results a ch printed input w.left
row_of (Finishes k printed) w = Ends k printed w.input w.left
row_of (Forever printed) w = GoesOn printed w.input w.left
row_of (IsUndefined c printed) w = Fails c printed

-- the handler answers each call by the first line that fits
abbrev pub IsOracle : Record → Association → List Line → Handler → Type 0
IsOracle r place lines h = (c : Call) → (a : Reply) × IsFirst r place lines c a × IsRow (row_of a c.world) c.world (h c.site c.actuals c.world)

abbrev pub ReplyBound : (Loc → Type 0) → Reply → Type 0
ReplyBound P (Gives a ch printed input) = AllChanges P ch
ReplyBound P (Finishes k printed) = Unit {0}
ReplyBound P (Forever printed) = Unit {0}
ReplyBound P (IsUndefined c printed) = Unit {0}

-- each line changes only what the record lets a call at its site change
abbrev pub LinesBound : Record → Association → List Line → Type 0
LinesBound r place [] = Unit {0}
LinesBound r place (x ∷ xs) = ReplyBound (IsChanged r place x.site) x.reply × LinesBound r place xs

-- the second run ends as the first, and makes the same calls where that is defined
pub record RunsAs (associate : List Interval → Association) (r : Record) (a b : Behaviour) (h : Handler) (ds : List Interval) (w : World) : Type 0 where
  pub run : SameRun (a.run h ds w) (b.run h ds w)
  pub calls : IfDefined (a.run h ds w) (SameCalls r (associate ds) (a.calls h ds w) (b.calls h ds w))

-- to serve under every call oracle and every entry
abbrev pub ServesByRows : (List Interval → Association) → Record → Behaviour → Behaviour → Type 0
ServesByRows associate r a b = (lines : List Line) (h : Handler) (ds : List Interval) (w : World)
    → LinesBound r (associate ds) lines → IsOracle r (associate ds) lines h → IsEntry r (associate ds) w
    → RunsAs associate r a b h ds w
