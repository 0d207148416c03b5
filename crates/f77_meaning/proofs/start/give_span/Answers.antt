use Rattle.std.proofs.Common.{arith}
use Rattle.interp_cells.specs.Cells.{cells_of}
use Rattle.f77_meaning.proofs.Giving.{one_unit, no_unit_left}
use Rattle.f77_meaning.proofs.start.give_span.Goals as goal

pub loop-k-preserved : goal.loop-k-preserved
loop-k-preserved c =
    one_unit c.args.name.now c.args.span.now.base c.args.span.now.skip c.loop-k.k c.args.span.now.value (cells_of c.loop-k.cells) (cells_of c.give_unit.new.cells) _ (omega arith) (c.in_ok-give_unit.ensures {u = tt}) c.loop-k.invariant

pub returns : goal.returns
returns c =
    no_unit_left c.args.name.now c.args.span.now.base c.args.span.now.skip c.loop-k.k c.args.span.now.value (cells_of c.loop-k.cells) _ (omega arith) c.loop-k.invariant
