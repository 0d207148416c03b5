-- How runs end.
use Rattle.std.specs.Prelude.{◌≡◌, ℕ, ◌≤◌, ◌⊎◌, List, ℤ}
use Rattle.run_model.specs.Runs.{Finished, UndefinedAt}
use Rattle.f77_tree.specs.declared.unit.Unit.{Unit as SourceUnit}
use Rattle.f77_semantics.specs.Source.{Source}

-- A program that ends by STOP or END has status 0, and one whose input is used up has 3.
abbrev pub IsStatus : ℕ → Type 0
IsStatus status = (status ≡ 0) ⊎ (status ≡ 3)

-- Undefined actions have the numbers 1 to 6.
abbrev pub IsCause : ℕ → Type 0
IsCause cause = (1 ≤ cause) × (cause ≤ 6)

abbrev pub EndsWithStatus : Type 0
EndsWithStatus = (units : List SourceUnit) (input : List ℤ) (n status : ℕ) (out : List ℕ) → Source units input n ≡ Finished status out → IsStatus status

abbrev pub HasACause : Type 0
HasACause = (units : List SourceUnit) (input : List ℤ) (n step cause : ℕ) (out : List ℕ) → Source units input n ≡ UndefinedAt step cause out → IsCause cause
