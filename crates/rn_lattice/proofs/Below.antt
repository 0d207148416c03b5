-- Whether a map is below another is told one entry after another.
use Rattle.std.specs.Prelude.{◌≡◌, ◌≢◌, Bool, true, false, ◌&&◌, List, ◌∷◌, Some, None, unwrap_or, refl}
use Rattle.std.specs.declared.cmp.Ordering.{Ordering}
use Rattle.std.proofs.Common.{ap, sym, ◌∙◌}
use Rattle.rn_lattice.specs.Order.{IsOrderFrom}
use Rattle.rn_lattice.specs.Maps.{get, map_leq}

module _ {K L : Type 0} (cmp : K → K → Ordering) (leq : L → L → Bool) (bottom : L) (m rest other : List (K × L)) (e : K × L)
    (same : map_leq cmp leq bottom m other ≡ map_leq cmp leq bottom (e ∷ rest) other) where
  -- an entry that is below leaves it to the others
  pub below_goes_on : (above : L) → Some above ≡ get cmp other e.0 → leq e.1 above ≡ true → map_leq cmp leq bottom m other ≡ map_leq cmp leq bottom rest other
  below_goes_on above found below = same ∙ ap (λ r. leq e.1 (unwrap_or r bottom) && map_leq cmp leq bottom rest other) (sym found) ∙ ap (λ b. b && map_leq cmp leq bottom rest other) below

  -- an entry whose key the other map has not is not below it
  pub below_stops : {is_value : L → Type 0} → IsOrderFrom is_value leq bottom → is_value e.1 → e.1 ≢ bottom → None ≡ get cmp other e.0 → false ≡ map_leq cmp leq bottom m other
  below_stops o value kept absent =
      let not_below : leq e.1 bottom ≡ false = elim (leq e.1 bottom) as (λ b. leq e.1 bottom ≡ b → b ≡ false) [
        | true ↦ λ below. absurd (kept (o.antisymmetric e.1 bottom value o.bottom_value below (o.bottom_least e.1 value)))
        | false ↦ λ _. refl
      ] refl in
      sym (same ∙ ap (λ r. leq e.1 (unwrap_or r bottom) && map_leq cmp leq bottom rest other) (sym absent) ∙ ap (λ b. b && map_leq cmp leq bottom rest other) not_below)
