-- Absolute values and remainders.
use Rattle.std.proofs.Common.{◌≡◌, ℤ, pos, negsuc, neg_ℤ, ◌<ℤ◌, ◌≤ℤ◌, ◌-ℤ◌, ◌*ℤ◌, Option, None, Some, w64, SFits, refl, sym, arith}
use Rattle.std.proofs.lemmas.Int.{ints, int_wrap_fits}
use Rattle.f77_tree.specs.declared.unit.Value.TheVariants.{Integer}
use Rattle.f77_values.specs.Arithmetic.{wrap, integer}
use Rattle.f77_semantics.specs.Values.{absolute, remainder}

pub size_below : (x : ℤ) → x <ℤ pos 0 → wrap (neg_ℤ x) ≡ absolute x
size_below (pos n) h = absurd (omega (arith, ints))
size_below (negsuc n) h = refl

pub size_above : (x : ℤ) → SFits w64 x → pos 0 ≤ℤ x → x ≡ absolute x
size_above (pos n) fits h = sym (int_wrap_fits w64 (pos n) fits)
size_above (negsuc n) fits h = absurd (omega (arith, ints))

pub remains : (x y q : ℤ) (d : Option ℤ) → integer d ≡ Some (Integer q) → Some (wrap (x -ℤ wrap (q *ℤ y))) ≡ remainder x y d
remains x y q None e = cc
remains x y q (Some z) e = cc

pub ruleset sizes = (size_below, size_above)
