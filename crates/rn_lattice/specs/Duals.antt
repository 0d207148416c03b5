-- An order upside down.
use Rattle.std.specs.Prelude.{Bool}
use Rattle.std.proofs.Common.{ap}
use Rattle.rn_lattice.specs.Order.{IsOrderFrom, IsGreatest}
use Rattle.rn_lattice.specs.declared.dual.Dual.{Dual}

abbrev pub dual_leq : {L : Type 0} → (L → L → Bool) → Dual L → Dual L → Bool
dual_leq leq x y = leq y.inner x.inner

abbrev pub dual_of : {L : Type 0} → L → Dual L
dual_of x = record { inner = x }

module _ {L : Type 0} {v : L → Type 0} {p : L → L → Bool} {bottom : L} (o : IsOrderFrom v p bottom) where
  pub dual_order : {top : L} → IsGreatest v p top → IsOrderFrom (λ x. v x.inner) (dual_leq p) (dual_of top)
  dual_order g = record {
    reflexive = λ x h. o.reflexive _ h;
    transitive = λ x y z hx hy hz xy yz. o.transitive _ _ _ hz hy hx yz xy;
    antisymmetric = λ x y hx hy xy yx. ap dual_of (o.antisymmetric _ _ hx hy yx xy);
    bottom_value = g.top_value;
    bottom_least = λ x h. g.top_greatest _ h;
  }

  pub dual_greatest : IsGreatest (λ x. v x.inner) (dual_leq p) (dual_of bottom)
  dual_greatest = record {
    top_value = o.bottom_value;
    top_greatest = λ x h. o.bottom_least _ h;
  }
