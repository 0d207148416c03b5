-- The integers of accepted texts, and of their runs.
use Rattle.std.specs.Prelude.{◌≡◌, ℕ, ℤ, List, Some, true}
use Rattle.std.specs.List.{list_all}
use Rattle.run_inputs.specs.Inputs.{AllWord64}
use Rattle.f77_tree.specs.declared.unit.Unit.{Unit as SourceUnit}
use Rattle.fixed_form.specs.declared.reader.UnitText.{UnitText}
use Rattle.f77_semantics.specs.Source.{main_of}
use Rattle.rn_draft.specs.Accepted.{Accepted}
use Rattle.word_laws.specs.Literals.{unit_has_word64}
use Rattle.word_laws.specs.Words.{EndsInWord64, stand}

-- The integers in the trees of accepted units have 64 bits.
abbrev pub AcceptedHaveWord64 : Type 0
AcceptedHaveWord64 = (units : List UnitText) (trees : List SourceUnit) → Accepted units trees → list_all unit_has_word64 trees ≡ true

-- From an input of integers of 64 bits their program's run stays in worlds of such integers.
abbrev pub AcceptedStayInWord64 : Type 0
AcceptedStayInWord64 = (units : List UnitText) (trees : List SourceUnit) → Accepted units trees → (main : SourceUnit) → main_of trees ≡ Some main → (input : List ℤ) → AllWord64 input → (n : ℕ) → EndsInWord64 (stand trees main input n)
