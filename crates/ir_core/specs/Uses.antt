-- What instructions and ends read and write, and where ends go.
use Rattle.std.specs.Prelude.{ℕ, List, [], ◌∷◌, Option, Some, None}
use Rattle.f77_tree.specs.declared.unit.Ty.{Ty}
use Rattle.ir_core.specs.declared.instruction.Spot.{Spot}
use Rattle.ir_core.specs.declared.instruction.Instr.{Instr}
use Rattle.ir_core.specs.declared.instruction.Instr.TheVariants as instr
use Rattle.ir_core.specs.declared.block.End.{End}
use Rattle.ir_core.specs.declared.block.End.TheVariants.{Jump, Branch, Switch, Return, Exit}

abbrev pub index_read : Option ℕ → List ℕ
index_read None = []
index_read (Some t) = t ∷ []

-- the temporaries that an instruction reads
abbrev pub reads : Instr → List ℕ
reads (instr.Const t n) = []
reads (instr.Copy t u) = u ∷ []
reads (instr.Load t spot) = index_read spot.index
reads (instr.Store spot ty u) = u ∷ index_read spot.index
reads (instr.Calc t c u v) = u ∷ v ∷ []
reads (instr.Address t spot) = index_read spot.index
reads (instr.Fresh t seat ty u) = u ∷ []
reads (instr.Argument k u) = u ∷ []
reads (instr.Call site r) = []
reads (instr.PrintInt u) = u ∷ []
reads (instr.PrintTruth u) = u ∷ []
reads (instr.PrintByte b) = []
reads instr.EndLine = []
reads (instr.Read t) = []

-- the temporary that an instruction writes, if it writes one
abbrev pub writes : Instr → Option ℕ
writes (instr.Const t n) = Some t
writes (instr.Copy t u) = Some t
writes (instr.Load t spot) = Some t
writes (instr.Store spot ty u) = None
writes (instr.Calc t c u v) = Some t
writes (instr.Address t spot) = Some t
writes (instr.Fresh t seat ty u) = Some t
writes (instr.Argument k u) = None
writes (instr.Call site r) = r
writes (instr.PrintInt u) = None
writes (instr.PrintTruth u) = None
writes (instr.PrintByte b) = None
writes instr.EndLine = None
writes (instr.Read t) = Some t

-- the spot that a Load or a Store is of
abbrev pub accessed : Instr → Option Spot
accessed (instr.Load t spot) = Some spot
accessed (instr.Store spot ty u) = Some spot
accessed _ = None

-- the temporary that a result is taken from
abbrev pub result_read : Option (Ty × ℕ) → List ℕ
result_read None = []
result_read (Some r) = r.1 ∷ []

-- the temporaries that an end reads
abbrev pub end_reads : End → List ℕ
end_reads (Jump b) = []
end_reads (Branch t b c) = t ∷ []
end_reads (Switch t labels b) = t ∷ []
end_reads (Return r) = result_read r
end_reads (Exit status) = []

-- the blocks where an end may go
abbrev pub goes_to : End → List ℕ
goes_to (Jump b) = b ∷ []
goes_to (Branch t b c) = b ∷ c ∷ []
goes_to (Switch t labels b) = b ∷ labels
goes_to (Return r) = []
goes_to (Exit status) = []
