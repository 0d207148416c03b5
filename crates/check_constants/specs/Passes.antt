-- Conditions on a statement and what stands before it, told for each statement of a list.
use Rattle.std.specs.Prelude.{◌≡◌, ℕ, Bool, true, List, [], ◌∷◌, Some, take, fold, slice_get}
use Rattle.f77_tree.specs.declared.unit.Stmt.{Stmt}

module _ {State : Type 0} (next : State → Stmt → State) (holds : State → Stmt → Bool) where
  -- the condition at each statement, from a state on
  abbrev pub flags_from : State → List Stmt → List Bool
  flags_from state [] = []
  flags_from state (s ∷ others) = holds state s ∷ flags_from (next state s) others

  -- It holds at statement k, in the state that the statements before it leave.
  pub record HoldsAt (initial : State) (statements : List Stmt) (k : ℕ) : Type 0 where
    pub statement : Stmt
    pub stands : slice_get statements k ≡ Some statement
    pub holds_there : holds (fold next initial (take k statements)) statement ≡ true
