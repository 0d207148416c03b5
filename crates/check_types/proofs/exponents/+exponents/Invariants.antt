use Rattle.std.proofs.Common.{◌≡◌, drop}
use Rattle.std.specs.List.{list_any}
use Rattle.check_types.specs.Exponents.{has_wrong_exponent}
use Rattle.check_types.proofs.exponents.+exponents.Given as goal

abbrev pub invariant-have_wrong_exponents-loop-e : goal.invariant-have_wrong_exponents-loop-e
invariant-have_wrong_exponents-loop-e l = list_any (has_wrong_exponent l.constants) (drop l.e-index l.e-items) ≡ list_any (has_wrong_exponent l.constants) l.e-items
