use Rattle.std.proofs.Common.{◌≡◌, ◌++◌, drop}
use Rattle.check_common.specs.Initials.{initials_from, initials}
use Rattle.check_common.proofs.initials.initials_of.Given as goal

abbrev pub invariant-loop-place : goal.invariant-loop-place
invariant-loop-place l = l.found.items ++ initials_from l.place (drop l.place l.units) ≡ initials l.units
