use Rattle.std.proofs.Common.{◌≡◌, ◌-◌, length}
use Rattle.call_cycles.specs.Searching.{search, explore, led_to}
use Rattle.call_cycles.proofs.searches.led_to.Given as goal

abbrev pub invariant-loop-i : goal.invariant-loop-i
invariant-loop-i l = explore l.rows (length l.rows - l.i) l.i (search l.seen.items l.queue.items) ≡ led_to l.rows l.start
