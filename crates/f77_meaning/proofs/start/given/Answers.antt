use Rattle.std.proofs.Common.{◌-◌, get_or, refl, arith}
use Rattle.interp_cells.specs.Cells.{cells_of}
use Rattle.f77_meaning.proofs.Giving.{none_given, one_procedure}
use Rattle.f77_meaning.proofs.start.given.Goals as goal

pub loop-k-init : goal.loop-k-init
loop-k-init c = none_given c.args.procedures.now (cells_of c.new-cells.result) c.new-cells.ensures

pub loop-k-preserved : goal.loop-k-preserved
loop-k-preserved c =
    one_procedure c.args.procedures.now c.loop-k.k c.index-procedures-k.result (get_or c.args.procedures.now (c.loop-k.k - 1) c.index-procedures-k.result) (cells_of c.loop-k.cells) (cells_of c.give_spans.new.cells) _ (omega arith) (omega arith) refl (c.in_ok-give_spans.ensures {u = tt}) c.loop-k.invariant
