-- Where no mark tells of a first cycle, no unit leads back to itself.
use Rattle.std.proofs.Common.{◌≡◌, ℕ, zero, suc, ◌<◌, Some, List, [], ◌∷◌, map, slice_get, refl, ap, ◌∙◌, arith}
use Rattle.f77_tree.specs.declared.unit.Unit.{Unit as SourceUnit}
use Rattle.call_cycles.specs.declared.marks.ProgramMark.{ProgramMark}
use Rattle.call_cycles.specs.Cycles.{LeadsBack, IsFirstCycle, HasCycle, edge, rows}
use Rattle.prog_texts.specs.Mentions.{sites}
use Rattle.call_cycles.specs.Marks.{mark_at}
use Rattle.prog_texts.specs.Signatures.{signatures}

-- ---- what an entry of a mapped list was made of

record Preimage {A B : Type 0} (f : A → B) (xs : List A) (k : ℕ) (y : B) : Type 0 where
  source : A
  stands : slice_get xs k ≡ Some source
  image : f source ≡ y

preimage : {A B : Type 0} (f : A → B) (xs : List A) (k : ℕ) (y : B) → slice_get (map f xs) k ≡ Some y → Preimage f xs k y
preimage f [] k y e = cc
preimage f (x ∷ xs) zero y e = record { source = x; stands = refl; image = some_is (f x) y e }
  where
    some_is : {A : Type 0} (x y : A) → Some x ≡ Some y → x ≡ y
    some_is x y e = cc
preimage f (x ∷ xs) (suc k) y e = let r = preimage f xs k y e in record { source = r.source; stands = r.stands; image = r.image }

-- ---- no cycle, unit by unit and site by site: the least would be a first one

module _ (units : List SourceUnit) (none : (mark : ProgramMark) → HasCycle units mark → ⊥) where
  abbrev NoneBefore : ℕ → Type 0
  NoneBefore n = (unit : ℕ) → unit < n → (site : ℕ) → LeadsBack (rows units) unit site → ⊥

  no_first : (unit site : ℕ) → IsFirstCycle (rows units) unit site → ⊥
  no_first unit site h =
      let u = preimage (λ u. map (edge (signatures units)) (sites u)) units unit h.back.row h.back.stands in
      let s = preimage (edge (signatures units)) (sites u.source) site h.back.edge (ap (λ r. slice_get r site) u.image ∙ h.back.calls) in
      none (mark_at 34 0 (Some unit) s.source.line) (record { place = unit; unit = u.source; stands = u.stands; at = site; site = s.source; calls = s.stands; first = h; mark_is = refl })

  none_at_sites : (unit : ℕ) → NoneBefore unit → (n site : ℕ) → site < n → LeadsBack (rows units) unit site → ⊥
  none_at_sites unit before zero site l b = absurd (omega (arith, l))
  none_at_sites unit before (suc n) site l b = no_first unit site (record { back = b; first_site = λ o k c. none_at_sites unit before n o (omega (arith, k, l)) c; first_unit = before })

  none_before : (n : ℕ) → NoneBefore n
  none_before zero unit l site b = absurd (omega (arith, l))
  none_before (suc n) unit l site b = none_at_sites unit (λ k m. none_before n k (omega (arith, m, l))) (suc site) site (omega arith) b

  pub acyclic : (unit site : ℕ) → LeadsBack (rows units) unit site → ⊥
  acyclic unit site b = none_before (suc unit) unit (omega arith) site b
