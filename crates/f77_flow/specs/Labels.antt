-- Which statements the labels of jumps and of DO statements mean (ANSI X3.9-1978, 3.4 and 11). Statements are numbered from 0,
-- and the number of statements stands for none.
use Rattle.std.specs.Prelude.{ℕ, suc, ◌&&◌, ◌==◌, nat_lt, Bool, List, [], ◌∷◌, drop, length, if◌then◌else◌}
use Rattle.f77_tree.specs.declared.unit.Stmt.{Stmt}
use Rattle.f77_flow.specs.declared.kinds.Kind.TheVariants.{Do}
use Rattle.f77_flow.specs.Kinds.{kind, kind_at, is_executable}

-- a label of value 0 stands on no statement
abbrev pub has_label : ℕ → Stmt → Bool
has_label label s = nat_lt 0 label && label == s.label

abbrev pub is_target : ℕ → Stmt → Bool
is_target label s = has_label label s && is_executable (kind s)

-- the first of these statements, numbered from k, that meets the test
abbrev pub first_with : (Stmt → Bool) → ℕ → List Stmt → ℕ
first_with test k [] = k
first_with test k (s ∷ ss) = if test s then k else first_with test (suc k) ss

-- where a jump goes: the first executable statement with the label
abbrev pub target : List Stmt → ℕ → ℕ
target u label = first_with (is_target label) 0 u

-- the last statement of the range of the DO at d: the first statement below it with its label
abbrev pub last_of : List Stmt → ℕ → ℕ
last_of u d = elim (kind_at u d) [ Do label ↦ first_with (has_label label) (suc d) (drop (suc d) u) | _ ↦ length u ]

-- the last statement of the DO at d stands below it
abbrev pub has_range : List Stmt → ℕ → Bool
has_range u d = nat_lt (last_of u d) (length u)
