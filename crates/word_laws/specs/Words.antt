-- Worlds whose integers have 64 bits, and that runs stay in such worlds.
use Rattle.std.specs.Prelude.{◌≡◌, ℕ, List, [], Some, None, true, ℤ, map, length}
use Rattle.std.specs.List.{list_all}
use Rattle.run_inputs.specs.Inputs.{IsWord64, AllWord64}
use Rattle.run_model.specs.Storage.{Value, Integer, Logical, Loc, Interval}
use Rattle.run_model.specs.Acts.{World, Outcome, Fine, Stop, Answer}
use Rattle.run_model.specs.Runs.{answer}
use Rattle.f77_tree.specs.declared.unit.Unit.{Unit as SourceUnit}
use Rattle.f77_values.specs.Tables.{Name}
use Rattle.f77_semantics.specs.Units.{meaning, named, fresh_world}
use Rattle.f77_semantics.specs.Source.{main_of, routine, Source}
use Rattle.word_laws.specs.Literals.{unit_has_word64}

-- a value of a cell
abbrev pub HasWord64 : Value → Type 0
HasWord64 (Integer x) = IsWord64 x
HasWord64 (Logical b) = Unit {0}

-- each INTEGER cell and each integer of the input that is left
pub record InWord64 (w : World) : Type 0 where
  pub cells : (l : Loc) (v : Value) → w.cells l ≡ Some v → HasWord64 v
  pub input : AllWord64 w.input

abbrev pub AnswersWord64 : Answer → Type 0
AnswersWord64 None = Unit {0}
AnswersWord64 (Some v) = HasWord64 v

-- a run that stands in such a world, or has answered in one with such a value
abbrev pub EndsInWord64 : Outcome Answer → Type 0
EndsInWord64 (Fine r w) = AnswersWord64 r × InWord64 w
EndsInWord64 (Stop reason w) = InWord64 w

-- the run of a program, as it stands before step n + 1 would begin
abbrev pub stand : List SourceUnit → (main : SourceUnit) → List ℤ → ℕ → Outcome Answer
stand units main input n = meaning (named (map routine units) (routine main)) (length (map routine units)) main.name [] (fresh_world (map routine units) input n)

-- From an input of such integers a run stays in such worlds, where the units' literals are such.
abbrev pub StaysInWord64 : Type 0
StaysInWord64 = (units : List SourceUnit) → list_all unit_has_word64 units ≡ true → (main : SourceUnit) → main_of units ≡ Some main → (input : List ℤ) → AllWord64 input → (n : ℕ) → EndsInWord64 (stand units main input n)

-- What is told of that run is `Source`.
abbrev pub IsTheSource : Type 0
IsTheSource = (units : List SourceUnit) (main : SourceUnit) → main_of units ≡ Some main → (input : List ℤ) (n : ℕ) → Source units input n ≡ answer n (stand units main input n)

-- So it is with each unit, on whatever actual arguments, from whatever world of such integers.
abbrev pub ActivationsStayInWord64 : Type 0
ActivationsStayInWord64 = (units : List SourceUnit) → list_all unit_has_word64 units ≡ true → (main : SourceUnit) → main_of units ≡ Some main → (depth : ℕ) (unit : Name) (actuals : List Interval) → (w : World) → InWord64 w
    → EndsInWord64 (meaning (named (map routine units) (routine main)) depth unit actuals w)
