-- Bounds among operands, extents and shapes, one by one.
use Rattle.std.proofs.Common.{◌≡◌, ℕ, List, [], ◌∷◌, ◌++◌, Option, None, Some, ℤ, pos, ◌+ℤ◌, ◌-ℤ◌, map, reverse, nat_lt, Bool, true, false, if◌then◌else◌, refl, sym, ap, ◌∙◌, append-nil, append_assoc}
use Rattle.std.proofs.lemmas.List.{reverse-append, reverse-reverse}
use Rattle.run_model.specs.Acts.{Act, Done, Fail, Undefined, and_then}
use Rattle.f77_tree.specs.declared.unit.Value.TheVariants.{Integer, Logical}
use Rattle.f77_semantics.specs.Units.{extents, filled, positive}
use Rattle.f77_semantics.specs.Values.{or_fail}
use Rattle.interp_code.specs.Entries.{pairs_in, with_pair}
use Rattle.interp_code.specs.Steps.{Operand, Operands, Item, Place, Passed, Bytes, Mark, operands_onto, with_some}
use Rattle.interp_steps.specs.declared.operand.Operand as code
use Rattle.interp_steps.specs.Stacks.{operand_of, stack_of}
use Rattle.interp_calls.specs.Bounds.{pair_on, pairs_of, sized, filled_one}
use Rattle.interp_calls.specs.Gathering.{before}

onto_is : (os s : Operands) → operands_onto os s ≡ reverse os ++ s
onto_is [] s = refl
onto_is (o ∷ os) s = onto_is os (o ∷ s) ∙ (sym (append_assoc (reverse os) (o ∷ []) s) ∙ ap (λ l. l ++ s) (sym (reverse-append (o ∷ []) os)))

turned : (os : Operands) → operands_onto (reverse os) [] ≡ os
turned os = onto_is (reverse os) [] ∙ (append-nil (reverse (reverse os)) ∙ reverse-reverse os)

-- the operands of a stack, the lowest first
pub lowest_first : (operands : List code.Operand) → operands_onto (stack_of operands) [] ≡ map operand_of operands
lowest_first operands = turned (map operand_of operands)

abbrev paired : Option ((ℤ × Option ℤ) × Operands) → Option (List (ℤ × Option ℤ))
paired None = None
paired (Some p) = with_pair p.0.0 p.0.1 (pairs_in p.1)

in_pairs : (o : Operand) (os : Operands) → pairs_in (o ∷ os) ≡ paired (pair_on (o ∷ os))
in_pairs (Item (Integer x)) [] = refl
in_pairs (Item (Integer x)) (Mark ∷ os) = refl
in_pairs (Item (Integer x)) (Item (Integer y) ∷ os) = refl
in_pairs (Item (Integer x)) (Item (Logical b) ∷ os) = refl
in_pairs (Item (Integer x)) (Place l ∷ os) = refl
in_pairs (Item (Integer x)) (Passed d ∷ os) = refl
in_pairs (Item (Integer x)) (Bytes bs ∷ os) = refl
in_pairs (Item (Logical b)) os = refl
in_pairs (Place l) os = refl
in_pairs (Passed d) os = refl
in_pairs (Bytes bs) os = refl
in_pairs Mark os = refl

more_pairs : (x : ℤ) (y : Option ℤ) (o : Option (List (ℤ × Option ℤ))) → with_some (with_pair x y o) (λ ps. Done ps) ≡ and_then (with_some o (λ ps. Done ps)) (λ ps. Done ((x, y) ∷ ps))
more_pairs x y None = refl
more_pairs x y (Some ps) = refl

pub pair_first : (o : Operand) (os : Operands) (x : ℤ) (y : Option ℤ) (t : Operands) → pair_on (o ∷ os) ≡ Some ((x, y), t) → pairs_of (o ∷ os) ≡ before (Done (x, y)) (pairs_of t)
pair_first o os x y t e = ap (λ p. with_some p (λ ps. Done ps)) (in_pairs o os ∙ ap paired e) ∙ more_pairs x y (pairs_in t)

pub no_pair : (o : Operand) (os : Operands) → pair_on (o ∷ os) ≡ None → pairs_in (o ∷ os) ≡ None
no_pair o os e = in_pairs o os ∙ ap paired e

pub extents_are : (p : ℤ × Option ℤ) (ps : List (ℤ × Option ℤ)) → extents (p ∷ ps) ≡ before (sized p) (extents ps)
extents_are (x, None) ps = refl
extents_are (x, Some y) ps = at (positive ((y -ℤ x) +ℤ pos 1))
  where
    at : (o : Option ℕ) → elim o [ None ↦ Fail (Undefined 4) | Some n ↦ and_then (extents ps) (λ rest. Done ((x, Some n) ∷ rest)) ] ≡ before (and_then (or_fail (Undefined 4) o) (λ n. Done (x, Some n))) (extents ps)
    at None = refl
    at (Some n) = refl

pub filled_are : (star : ℕ) (e : ℤ × Option ℕ) (es : List (ℤ × Option ℕ)) → filled star (e ∷ es) ≡ before (filled_one star e) (filled star es)
filled_are star (x, Some n) es = refl
filled_are star (x, None) es = at (nat_lt star 1)
  where
    at : (b : Bool) → (if b then Fail (Undefined 4) else and_then (filled star es) (λ rest. Done (record { lower = x; size = star } ∷ rest))) ≡ before (if b then Fail (Undefined 4) else Done (record { lower = x; size = star })) (filled star es)
    at true = refl
    at false = refl

-- what goes on with the pairs that there are
pub pairs_go : {A : Type 0} → (o : Option (List (ℤ × Option ℤ))) (ps : List (ℤ × Option ℤ)) (go : List (ℤ × Option ℤ) → Act A) → with_some o (λ ps. Done ps) ≡ Done ps → with_some o go ≡ go ps
pairs_go None ps go e = absurd cc
pairs_go (Some qs) ps go e = let same : qs ≡ ps = cc in ap go same
