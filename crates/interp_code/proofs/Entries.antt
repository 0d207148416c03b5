-- The steps of bounds do what the bounds do.
use Rattle.std.proofs.Common.{◌≡◌, ℕ, List, [], ◌∷◌, Option, None, Some, ℤ, refl, sym, ap, ◌∙◌}
use Rattle.run_model.specs.Acts.{Done, and_then}
use Rattle.f77_tree.specs.declared.unit.Value.TheVariants.{Integer}
use Rattle.f77_semantics.specs.Program.{Term, Bound}
use Rattle.f77_semantics.specs.Expressions.{Frame}
use Rattle.f77_semantics.specs.Units.{lower_of, upper_of, bounds_of, dimensions}
use Rattle.interp_code.specs.Steps.{Step, Operands, Item, operands_onto, steps}
use Rattle.interp_code.specs.Entries.{lower_code, upper_code, bounds_code, upper_operand, pair_operands, with_pair, pairs_in, measured, shaped}
use Rattle.interp_code.proofs.Acts.{assoc}
use Rattle.interp_code.proofs.Statements.{number_does, turned_back}

lower_does : (f : Frame) (o : Option Term) (cs : List Step) (s : Operands) → steps f (lower_code o cs) s ≡ and_then (lower_of f o) (λ x. steps f cs (Item (Integer x) ∷ s))
lower_does f None cs s = refl
lower_does f (Some e) cs s = number_does f e cs s

upper_does : (f : Frame) (o : Option Term) (cs : List Step) (s : Operands) → steps f (upper_code o cs) s ≡ and_then (upper_of f o) (λ y. steps f cs (upper_operand y ∷ s))
upper_does f None cs s = refl
upper_does f (Some e) cs s = number_does f e cs s ∙ simp assoc

bounds_do : (f : Frame) (bs : List Bound) (s : Operands) → steps f (bounds_code bs) s ≡ and_then (bounds_of f bs) (λ ps. Done (operands_onto (pair_operands ps) s))
bounds_do f [] s = refl
bounds_do f (b ∷ bs) s = simp (lower_does f b.lower, upper_does f b.upper, bounds_do f bs, assoc)

pairs_back : (ps : List (ℤ × Option ℤ)) → pairs_in (pair_operands ps) ≡ Some ps
pairs_back [] = refl
pairs_back ((x, None) ∷ ps) = ap (with_pair x None) (pairs_back ps)
pairs_back ((x, Some y) ∷ ps) = ap (with_pair x (Some y)) (pairs_back ps)

pub dimensions_do : (f : Frame) (long : ℕ) (bs : List Bound) → dimensions f long bs ≡ and_then (steps f (bounds_code bs) []) (shaped long)
dimensions_do f long bs = simp (bounds_do f bs, turned_back, pairs_back, assoc)
