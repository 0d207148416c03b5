use Rattle.std.proofs.Common.{◌≡◌, drop}
use Rattle.call_cycles.specs.Searching.{some_lead_up}
use Rattle.call_cycles.proofs.ranks.some_lead_up.Given as goal

abbrev pub invariant-loop-place : goal.invariant-loop-place
invariant-loop-place l = some_lead_up l.ranks.items l.place (drop l.place l.rows) ≡ some_lead_up l.ranks.items 0 l.rows
