-- The units that procedures are, by their places.
use Rattle.std.proofs.Common.{◌≡◌, ℕ, zero, suc, List, [], ◌∷◌, None, Some, map, get_or, slice_get, refl, ap, ◌∙◌, subst}
use Rattle.f77_values.specs.Tables.{Name}
use Rattle.f77_semantics.specs.Program.{Routine}
use Rattle.f77_semantics.specs.Units.{Program, callee}
use Rattle.interp_calls.specs.declared.procedure.Procedure.{Procedure}
use Rattle.interp_calls.specs.Procedures.{place, IsUnit, AreUnits, IsOf}

pub unit_at : (find : Name → ℕ) (ps : List Procedure) (us : List Routine) → AreUnits find ps us → (k : ℕ) (u : Routine) (p : Procedure) → slice_get us k ≡ Some u → slice_get ps k ≡ Some p → IsUnit find p u
unit_at find [] [] are k u p e d = absurd cc
unit_at find [] (v ∷ us) are k u p e d = absurd are
unit_at find (q ∷ ps) [] are k u p e d = absurd are
unit_at find (q ∷ ps) (v ∷ us) are zero u p e d =
    let one : v ≡ u = cc in
    let other : q ≡ p = cc in
    subst (λ (q : Procedure). IsUnit find q u) other (subst (λ (v : Routine). IsUnit find q v) one are.0)
unit_at find (q ∷ ps) (v ∷ us) are (suc k) u p e d = unit_at find ps us are.1 k u p e d

pub no_unit : (find : Name → ℕ) (ps : List Procedure) (us : List Routine) → AreUnits find ps us → (k : ℕ) (u : Routine) → slice_get us k ≡ Some u → slice_get ps k ≡ None → ⊥
no_unit find [] [] are k u e d = cc
no_unit find [] (v ∷ us) are k u e d = are
no_unit find (q ∷ ps) [] are k u e d = are
no_unit find (q ∷ ps) (v ∷ us) are zero u e d = cc
no_unit find (q ∷ ps) (v ∷ us) are (suc k) u e d = no_unit find ps us are.1 k u e d

found_each : (find : Name → ℕ) (names : List Name) (k : ℕ) (other : Name) → get_or (map find names) k (find other) ≡ find (get_or names k other)
found_each find [] k other = refl
found_each find (n ∷ names) zero other = refl
found_each find (n ∷ names) (suc k) other = found_each find names k other

placed : (find : Name → ℕ) (p : Procedure) (u : Routine) → IsUnit find p u → (site : ℕ) → place p.own p.callees.items site ≡ find (callee u site)
placed find p u is zero = is.own
placed find p u is (suc k) = (λ i. get_or (is.callees i) k (is.own i)) ∙ found_each find u.callees k u.name

-- the callee of a site is found
pub callee_found : (ps : List Procedure) (p : Procedure) (units : Program) (u : Routine) (of : IsOf ps p units u) (site : ℕ) → slice_get of.all (place p.own p.callees.items site) ≡ Some (units (callee u site))
callee_found ps p units u of site = ap (λ k. slice_get of.all k) (placed of.represents.find p u of.unit site) ∙ of.represents.found (callee u site)
