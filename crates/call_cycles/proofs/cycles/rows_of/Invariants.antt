use Rattle.std.proofs.Common.{◌≡◌, ◌++◌, drop, map}
use Rattle.call_cycles.specs.Searching.{row_of}
use Rattle.call_cycles.proofs.cycles.rows_of.Given as goal

abbrev pub invariant-loop-text : goal.invariant-loop-text
invariant-loop-text l = l.rows ++ map (row_of l.units) (drop l.text-index l.text-items) ≡ map (row_of l.units) l.text-items
