use Rattle.std.proofs.Common.{◌≡◌}
use Rattle.interp_cells.specs.Cells.{cells_of}
use Rattle.interp_data.specs.Spans.{given_from, units_of}
use Rattle.f77_meaning.specs.Given.{given_over}
use Rattle.f77_meaning.proofs.start.give_span.Given as goal

-- the units still to come give over these cells what all give over the first
abbrev pub invariant-loop-k : goal.invariant-loop-k
invariant-loop-k l = given_over l.name (given_from l.span.base l.span.skip l.k l.span.value) (cells_of l.cells) ≡ given_over l.name (units_of l.span) (cells_of l.initial.cells)
