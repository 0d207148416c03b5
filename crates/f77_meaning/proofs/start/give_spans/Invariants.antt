use Rattle.std.proofs.Common.{◌≡◌, flat_map, take}
use Rattle.interp_cells.specs.Cells.{cells_of}
use Rattle.interp_data.specs.Spans.{units_of}
use Rattle.f77_meaning.specs.Given.{given_over}
use Rattle.f77_meaning.proofs.start.give_spans.Given as goal

abbrev pub invariant-loop-k : goal.invariant-loop-k
invariant-loop-k l = given_over l.name (flat_map units_of (take l.k l.all)) (cells_of l.cells) ≡ given_over l.name (flat_map units_of l.all) (cells_of l.initial.cells)
