-- What a stack of operands stands for. Its last operand is on top.
use Rattle.std.specs.Prelude.{List, map, reverse}
use Rattle.interp_cells.specs.Spots.{loc_of}
use Rattle.interp_code.specs.Steps as steps
use Rattle.interp_steps.specs.declared.operand.Operand.{Operand}
use Rattle.interp_steps.specs.declared.operand.Operand.TheVariants.{Item, Place, Passed, Bytes, Mark}
use Rattle.interp_steps.specs.Frames.{interval_of}

abbrev pub operand_of : Operand → steps.Operand
operand_of (Item v) = steps.Item v
operand_of (Place spot) = steps.Place (loc_of spot)
operand_of (Passed interval) = steps.Passed (interval_of interval)
operand_of (Bytes bytes) = steps.Bytes bytes.now
operand_of Mark = steps.Mark

abbrev pub stack_of : List Operand → steps.Operands
stack_of operands = reverse (map operand_of operands)
