-- The world that a state stands for.
use Rattle.run_model.specs.Acts.{World}
use Rattle.interp_cells.specs.Cells.{cells_of}
use Rattle.interp_steps.specs.declared.state.State.{State}

abbrev pub world_of : State → World
world_of m = record { cells = cells_of m.storage; out = m.out.items; input = m.input.now; left = m.left }
