use Rattle.std.proofs.Common.{◌≡◌, drop, fold}
use Rattle.prog_check.specs.Scans.{with_mention, earliest_line}
use Rattle.prog_check.proofs.scans.earliest_line.Given as goal

abbrev pub invariant-loop-mention : goal.invariant-loop-mention
invariant-loop-mention l = fold (with_mention l.check l.units) l.best (drop l.mention-index l.mention-items) ≡ earliest_line l.check l.units l.mention-items
