use Rattle.std.proofs.Common.{◌≡◌, drop}
use Rattle.std.specs.List.{list_any, zip}
use Rattle.prog_check.specs.Checks.{is_misfit, has_misfit}
use Rattle.prog_check.proofs.checks.has_misfit.Given as goal

-- the pairs that are left tell the same as all
abbrev pub invariant-loop-k : goal.invariant-loop-k
invariant-loop-k l = list_any is_misfit (zip (drop l.k l.wanted) (drop l.k l.given)) ≡ has_misfit l.wanted l.given
