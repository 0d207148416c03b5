-- What the interpreter's answers say of runs.
use Rattle.std.specs.Prelude.{◌≡◌, ℕ, List, Option, Result, Ok, Err}
use Rattle.std.specs.Io.KnownBytes.{Appends}
use Rattle.rn_ports.specs.Sent.{AppendsPart}
use Rattle.run_model.specs.Runs as runs
use Rattle.run_model.specs.Runs.{text_of}
use Rattle.f77_meaning.specs.declared.runs.InterpretRefused.{InterpretRefused}
use Rattle.f77_meaning.specs.declared.runs.Undefinedness.{Undefinedness}
use Rattle.f77_meaning.specs.declared.runs.Undefinedness.TheVariants.{Cell, Subscript, ShortActual, Extent, Divisor, Step}
use Rattle.f77_meaning.specs.declared.runs.Run.{Run}
use Rattle.f77_meaning.specs.declared.runs.Run.TheVariants.{Going, Ended, Undefined}

-- the number of an undefined action
abbrev pub number_of : Undefinedness → ℕ
number_of Cell = 1
number_of Subscript = 2
number_of ShortActual = 3
number_of Extent = 4
number_of Divisor = 5
number_of Step = 6

-- the run of this answer and this output
abbrev pub run_of : Run → List ℕ → runs.Run
run_of Going out = runs.Going out
run_of (Ended status) out = runs.Finished status out
run_of (Undefined step cause) out = runs.UndefinedAt step (number_of cause) out

-- The run is told and its output is written, or a front of it is.
abbrev pub IsTold : Result Run InterpretRefused → (old new : Option (List ℕ)) → runs.Run → Type 0
IsTold (Ok run) old new r = (r ≡ run_of run (text_of r)) × Appends old new (text_of r)
IsTold (Err e) old new r = AppendsPart old new (text_of r)
