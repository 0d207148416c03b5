-- The flat order: a value is above the bottom and below the top alone.
use Rattle.std.specs.Prelude.{◌≡◌, Bool, true, false, IsTrue, ⊤, refl}
use Rattle.std.specs.Cmp.{IsEquivalence}
use Rattle.std.proofs.Common.{ap, ◌∙◌}
use Rattle.rn_lattice.specs.Order.{IsOrderFrom, IsGreatest}
use Rattle.rn_lattice.specs.declared.flat.Flat.{Flat}
use Rattle.rn_lattice.specs.declared.flat.Flat.TheVariants.{Bottom, Is, Top}

-- by the equality of the values
abbrev pub flat_leq : {V : Type 0} → (V → V → Bool) → Flat V → Flat V → Bool
flat_leq eq Bottom y = true
flat_leq eq (Is v) Bottom = false
flat_leq eq (Is v) (Is w) = eq v w
flat_leq eq (Is v) Top = true
flat_leq eq Top Bottom = false
flat_leq eq Top (Is w) = false
flat_leq eq Top Top = true

module _ {V : Type 0} {eq : V → V → Bool} (laws : IsEquivalence eq) (same : (v w : V) → IsTrue (eq v w) → v ≡ w) where
  reflexive : (x : Flat V) → IsTrue (flat_leq eq x x)
  reflexive Bottom = refl
  reflexive (Is v) = laws.refl v
  reflexive Top = refl

  transitive : (x y z : Flat V) → IsTrue (flat_leq eq x y) → IsTrue (flat_leq eq y z) → IsTrue (flat_leq eq x z)
  transitive Bottom y z xy yz = refl
  transitive (Is v) Bottom z xy yz = absurd (cc)
  transitive (Is v) (Is w) Bottom xy yz = absurd (cc)
  transitive (Is v) (Is w) (Is u) xy yz = laws.congr v w u xy ∙ yz
  transitive (Is v) (Is w) Top xy yz = refl
  transitive (Is v) Top Bottom xy yz = absurd (cc)
  transitive (Is v) Top (Is u) xy yz = absurd (cc)
  transitive (Is v) Top Top xy yz = refl
  transitive Top Bottom z xy yz = absurd (cc)
  transitive Top (Is w) z xy yz = absurd (cc)
  transitive Top Top z xy yz = yz

  antisymmetric : (x y : Flat V) → IsTrue (flat_leq eq x y) → IsTrue (flat_leq eq y x) → x ≡ y
  antisymmetric Bottom Bottom xy yx = refl
  antisymmetric Bottom (Is w) xy yx = absurd (cc)
  antisymmetric Bottom Top xy yx = absurd (cc)
  antisymmetric (Is v) Bottom xy yx = absurd (cc)
  antisymmetric (Is v) (Is w) xy yx = ap Is (same v w xy)
  antisymmetric (Is v) Top xy yx = absurd (cc)
  antisymmetric Top Bottom xy yx = absurd (cc)
  antisymmetric Top (Is w) xy yx = absurd (cc)
  antisymmetric Top Top xy yx = refl

  below_top : (x : Flat V) → IsTrue (flat_leq eq x Top)
  below_top Bottom = refl
  below_top (Is v) = refl
  below_top Top = refl

  pub flat_order : IsOrderFrom (λ _. ⊤) (flat_leq eq) Bottom
  flat_order = record {
    reflexive = λ x _. reflexive x;
    transitive = λ x y z _ _ _. transitive x y z;
    antisymmetric = λ x y _ _. antisymmetric x y;
    bottom_value = tt;
    bottom_least = λ x _. refl;
  }

  pub flat_greatest : IsGreatest (λ _. ⊤) (flat_leq eq) Top
  flat_greatest = record { top_value = tt; top_greatest = λ x _. below_top x }
