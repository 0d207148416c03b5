use Rattle.std.proofs.Common.{◌≡◌, drop}
use Rattle.prog_check.specs.Scans.{first_text}
use Rattle.prog_check.proofs.scans.first_text.Given as goal

abbrev pub invariant-loop-place : goal.invariant-loop-place
invariant-loop-place l = first_text l.check l.units l.place (drop l.place l.texts) ≡ first_text l.check l.units 0 l.texts
