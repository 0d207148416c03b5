use Rattle.std.proofs.Common.{sym, ap, ◌∙◌}
use Rattle.std.specs.Option.{option_map}
use Rattle.f77_values.specs.Tables.{saturated}
use Rattle.check_common.proofs.Elements.{found_more, lacks, unlike}
use Rattle.check_common.proofs.offsets.offset.Goals as goal

pub returns-then-bounds-subscripts : goal.returns-then-bounds-subscripts
returns-then-bounds-subscripts c = sym (ap (option_map saturated) (unlike c.args.all.now c.args.named.now c.args.bounds.now c.args.subscripts.now c.if-bounds-subscripts.true))

pub returns-in_default : goal.returns-in_default
returns-in_default c =
    lacks c.args.all.now c.args.named.now c.args.bounds.now c.args.subscripts.now c.loop-k.k c.joined.result c.loop-k-test.true c.loop-k.auto.k c.if-bounds-subscripts.false c.in_default.is
    (found_more c.args.all.now c.args.named.now c.args.bounds.now c.args.subscripts.now c.loop-k.k c.index-bounds-k.result c.index-subscripts-k.result c.steps_in-i.result c.extent.result c.joined.result c.loop-k.found
    c.loop-k-test.true c.loop-k.auto.k c.if-bounds-subscripts.false c.index-bounds-k.is c.index-subscripts-k.is c.steps_in-i.ensures c.extent.ensures.size c.loop-k.invariant c.joined.ensures)

pub loop-k-preserved : goal.loop-k-preserved
loop-k-preserved c =
    sym c.in-Some.is
    ∙ found_more c.args.all.now c.args.named.now c.args.bounds.now c.args.subscripts.now c.loop-k.k c.index-bounds-k.result c.index-subscripts-k.result c.steps_in-i.result c.extent.result c.joined.result c.loop-k.found
    c.loop-k-test.true c.loop-k.auto.k c.if-bounds-subscripts.false c.index-bounds-k.is c.index-subscripts-k.is c.steps_in-i.ensures c.extent.ensures.size c.loop-k.invariant c.joined.ensures
