use Rattle.std.proofs.Common.{sym, ◌∙◌, arith}
use Rattle.call_cycles.specs.Searching.{search}
use Rattle.call_cycles.proofs.Cycling.{explore_more}
use Rattle.call_cycles.proofs.searches.led_to.Goals as goal

pub loop-i-preserved : goal.loop-i-preserved
loop-i-preserved c =
    sym (explore_more c.args.rows.now c.loop-i.i (search c.loop-i.seen.items c.loop-i.queue.items) (search c.step.new.seen.items c.step.new.queue.items) (omega (arith, c.loop-i-test.true, c.len-i-end.ensures)) (c.in_ok-step.ensures {u = tt}))
    ∙ c.loop-i.invariant
