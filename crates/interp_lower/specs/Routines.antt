-- What the data of a unit stand for.
use Rattle.std.specs.Prelude.{ℕ, List}
use Rattle.f77_semantics.specs.Program as program
use Rattle.interp_code.specs.declared.step.Step.{Step}
use Rattle.interp_code.specs.Entries.{bounds_code}
use Rattle.interp_lower.specs.declared.arrays.DummyArray.{DummyArray}

-- a dummy array: its position and the steps of its bounds
abbrev pub Dimensioned : Type 0
Dimensioned = ℕ × List Step

abbrev pub dummy_of : DummyArray → Dimensioned
dummy_of a = (a.dummy, a.bounds)

abbrev pub dummy_as : program.DummyArray → Dimensioned
dummy_as a = (a.dummy, bounds_code a.bounds)
