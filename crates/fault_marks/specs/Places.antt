-- Faults by the statements that show them.
use Rattle.std.specs.Prelude.{◌≡◌, ℕ, ◌<◌, Bool, true, false, List, Some, None, slice_get}
use Rattle.std.specs.declared.option.Option.{Option}
use Rattle.std.specs.Bool.{MatchBool}
use Rattle.f77_tree.specs.declared.unit.Stmt.{Stmt}
use Rattle.fault_marks.specs.declared.marks.Mark.{Mark}

-- this fault, where something holds
pub record Marks (Holds : Type 0) (line number limit : ℕ) (mark : Mark) : Type 0 where
  pub holds : Holds
  pub line_is : mark.line ≡ line
  pub number_is : mark.number ≡ number
  pub limit_is : mark.limit ≡ limit

-- A statement at which a condition holds shows the fault of this number and limit.
pub record ShowsAt (statements : List Stmt) (Holds : ℕ → Type 0) (number limit : ℕ) (mark : Mark) : Type 0 where
  pub place : ℕ
  pub statement : Stmt
  pub stands : slice_get statements place ≡ Some statement
  pub holds : Holds place
  pub line_is : mark.line ≡ statement.line
  pub number_is : mark.number ≡ number
  pub limit_is : mark.limit ≡ limit

abbrev pub flag_of : Option Bool → Bool
flag_of None = false
flag_of (Some flag) = flag

-- the flag of a statement is set
abbrev pub IsFlagged : List Bool → ℕ → Type 0
IsFlagged flags k = slice_get flags k ≡ Some true

abbrev pub Flagged : List Stmt → List Bool → ℕ → ℕ → Mark → Type 0
Flagged statements flags number limit = ShowsAt statements (IsFlagged flags) number limit

-- those at the first statements
abbrev pub FlaggedBefore : List Stmt → List Bool → ℕ → ℕ → ℕ → Mark → Type 0
FlaggedBefore statements flags number limit n = ShowsAt statements (λ k. (k < n) × IsFlagged flags k) number limit

-- Each statement has a flag, which tells whether the condition holds at it.
abbrev pub Decides : List Stmt → (ℕ → Type 0) → List Bool → Type 0
Decides statements Holds flags = (k : ℕ) (s : Stmt) → slice_get statements k ≡ Some s → (b : Bool) × (slice_get flags k ≡ Some b) × MatchBool b (Holds k) (Holds k → ⊥)
