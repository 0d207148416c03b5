use Rattle.std.proofs.Common.{◌∙◌}
use Rattle.check_common.specs.Searching.{all_apart}
use Rattle.check_common.proofs.Apart.{apart_end, apart_more}
use Rattle.check_common.proofs.order.are_apart.Goals as goal

pub loop-k-preserved : goal.loop-k-preserved
loop-k-preserved c =
    apart_more c.args.all.now c.loop-k.k c.index-all-k.result c.index-all-k-in-loop-k.result (all_apart c.args.all.now) c.loop-k.auto.k c.loop-k-test.true
    c.index-all-k.is c.index-all-k-in-loop-k.is (c.if-not-is_apart.ensures {u = tt}) c.loop-k.invariant

pub returns : goal.returns
returns c = apart_end c.args.all.now c.loop-k.k c.loop-k-test.false ∙ c.loop-k.invariant
