use Rattle.std.proofs.Common.{◌≡◌, ◌++◌, drop, flat_map}
use Rattle.call_cycles.specs.Searching.{edges_of, row_of}
use Rattle.call_cycles.proofs.cycles.row_of.Given as goal

abbrev pub invariant-loop-mention : goal.invariant-loop-mention
invariant-loop-mention l = l.found ++ flat_map (edges_of l.units) (drop l.mention-index l.mention-items) ≡ row_of l.units l.mention-items
