-- Block IFs and their parts (ANSI X3.9-1978, 11.6 to 11.9). The IF-level of a statement is counted from the statements that a
-- search begins with: 0 is their own level, and each block IF that the search meets is one more until its END IF.
use Rattle.std.specs.Prelude.{ℕ, zero, suc, List, [], ◌∷◌, drop}
use Rattle.f77_tree.specs.declared.unit.Stmt.{Stmt}
use Rattle.f77_flow.specs.declared.kinds.Kind.TheVariants.{Declaration, BlockIf, ElseIf, Else, EndIf}
use Rattle.f77_flow.specs.Kinds.{kind}

-- the next END IF of the level in these statements, numbered from k
abbrev pub next_end : (level k : ℕ) → List Stmt → ℕ
next_end level k [] = k
next_end level k (s ∷ ss) = elim (kind s) [
  | BlockIf ↦ next_end (suc level) (suc k) ss
  | EndIf ↦ elim level [ zero ↦ k | suc outer ↦ next_end outer (suc k) ss ]
  | _ ↦ next_end level (suc k) ss
]

-- the next ELSE IF, ELSE or END IF of the level
abbrev pub next_part : (level k : ℕ) → List Stmt → ℕ
next_part level k [] = k
next_part level k (s ∷ ss) = elim (kind s) [
  | BlockIf ↦ next_part (suc level) (suc k) ss
  | ElseIf ↦ elim level [ zero ↦ k | suc outer ↦ next_part (suc outer) (suc k) ss ]
  | Else ↦ elim level [ zero ↦ k | suc outer ↦ next_part (suc outer) (suc k) ss ]
  | EndIf ↦ elim level [ zero ↦ k | suc outer ↦ next_part outer (suc k) ss ]
  | _ ↦ next_part level (suc k) ss
]

-- what begins where control comes to these statements, numbered from k, from the text above them. An arm that ends goes to its END IF.
abbrev pub coming : ℕ → List Stmt → ℕ
coming k [] = k
coming k (s ∷ ss) = elim (kind s) [
  | Declaration ↦ coming (suc k) ss
  | ElseIf ↦ next_end 0 (suc k) ss
  | Else ↦ next_end 0 (suc k) ss
  | _ ↦ k
]

-- where a false condition goes: to the next ELSE IF of the level, into the arm of its ELSE, or to its END IF
abbrev pub next_test : (level k : ℕ) → List Stmt → ℕ
next_test level k [] = k
next_test level k (s ∷ ss) = elim (kind s) [
  | BlockIf ↦ next_test (suc level) (suc k) ss
  | ElseIf ↦ elim level [ zero ↦ k | suc outer ↦ next_test (suc outer) (suc k) ss ]
  | Else ↦ elim level [ zero ↦ coming (suc k) ss | suc outer ↦ next_test (suc outer) (suc k) ss ]
  | EndIf ↦ elim level [ zero ↦ k | suc outer ↦ next_test outer (suc k) ss ]
  | _ ↦ next_test level (suc k) ss
]

-- the END IF of the block IF at k, or of the one whose ELSE IF or ELSE stands at k
abbrev pub end_if : List Stmt → ℕ → ℕ
end_if u k = next_end 0 (suc k) (drop (suc k) u)

-- where the arm ends that the block IF, ELSE IF or ELSE at k begins
abbrev pub arm_end : List Stmt → ℕ → ℕ
arm_end u k = next_part 0 (suc k) (drop (suc k) u)

abbrev pub otherwise : List Stmt → ℕ → ℕ
otherwise u k = next_test 0 (suc k) (drop (suc k) u)

-- what begins behind the statement at k, where no DO ends
abbrev pub below : List Stmt → ℕ → ℕ
below u k = coming (suc k) (drop (suc k) u)

-- with what a run of the unit begins
abbrev pub first : List Stmt → ℕ
first u = coming 0 u
