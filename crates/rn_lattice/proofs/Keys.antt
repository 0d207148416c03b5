-- Keys that their order tells apart.
use Rattle.std.proofs.Common.{◌≡◌, ◌≢◌, false, refl, sym}
use Rattle.std.specs.declared.cmp.Ordering.{Ordering}
use Rattle.std.specs.declared.cmp.Ordering.TheVariants.{Less, Equal, Greater}
use Rattle.std.specs.BTreeMap.{is_at}
use Rattle.std.specs.Ordering.{is_eq}
use Rattle.std.proofs.lemmas.Map.Lookups.{CmpEqualImpliesEq}

-- another key is not at a key
pub is_at-apart : {K : Type 0} (cmp : K → K → Ordering) → CmpEqualImpliesEq cmp → (k q : K) → q ≢ k → is_at (cmp k) q ≡ false
is_at-apart cmp exact k q apart = elim (cmp k q) as (λ r. cmp k q ≡ r → is_eq r ≡ false) [
  | Less ↦ λ _. refl
  | Equal ↦ λ same. absurd (apart (sym (exact k q same)))
  | Greater ↦ λ _. refl
] refl
