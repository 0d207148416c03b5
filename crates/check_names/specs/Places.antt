-- What stands at a statement of a unit, and before it.
use Rattle.std.specs.Prelude.{ℕ, zero, suc, ◌==◌, Bool, true, false, List, [], ◌++◌, Option, Some, None, slice_get}
use Rattle.f77_tree.specs.declared.unit.Stmt.{Stmt}
use Rattle.f77_tree.specs.declared.unit.Unit.{Unit}
use Rattle.f77_names.specs.Occurrences.{Occurrences, in_head, in_statement}

-- what a statement has, where there is one
abbrev pub where_stands : {A : Type 0} → A → (Stmt → A) → Option Stmt → A
where_stands none has None = none
where_stands none has (Some s) = has s

-- what the statements before the k-th have, in their order
abbrev pub before : {A : Type 0} → (ℕ → List A) → ℕ → List A
before at zero = []
before at (suc k) = before at k ++ at k

-- The names of a head count with the first statement.
abbrev pub in_text : Unit → Bool → Stmt → Occurrences
in_text u true s = in_head u ++ in_statement s
in_text u false s = in_statement s

abbrev pub occurrences_at : Unit → ℕ → Occurrences
occurrences_at u k = where_stands [] (in_text u (k == 0)) (slice_get u.statements k)
