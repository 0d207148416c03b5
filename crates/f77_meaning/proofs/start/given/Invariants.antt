use Rattle.std.proofs.Common.{◌≡◌, None, take}
use Rattle.interp_cells.specs.Cells.{cells_of}
use Rattle.f77_meaning.specs.Given.{given_by}
use Rattle.f77_meaning.proofs.start.given.Given as goal

abbrev pub invariant-loop-k : goal.invariant-loop-k
invariant-loop-k l = given_by (take l.k l.procedures) (cells_of l.cells) ≡ given_by l.procedures (λ l. None)
