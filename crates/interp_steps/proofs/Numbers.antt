-- Numbers behind others.
use Rattle.std.proofs.Common.{◌≡◌, ℤ, List, [], ◌∷◌, ◌++◌, append-nil, append_assoc, refl, ap, sym, ◌∙◌, subst, Result}
use Rattle.run_model.specs.Acts.{Act, Done, Get, Put, Say, Take, Ask, Fail, and_then}
use Rattle.interp_code.proofs.Acts.{assoc}
use Rattle.f77_tree.specs.declared.unit.Value.{Value}
use Rattle.f77_tree.specs.declared.unit.Value.TheVariants.{Integer}
use Rattle.f77_semantics.specs.Expressions.{integers}
use Rattle.interp_steps.specs.declared.stop.Stop.{Stop}
use Rattle.interp_steps.specs.Stops.{Gives, Stopped}

pub more : (n : ℤ) (vs : List Value) (all : List ℤ) → and_then (integers vs) (λ xs. Done ((all ++ n ∷ []) ++ xs)) ≡ and_then (integers (Integer n ∷ vs)) (λ xs. Done (all ++ xs))
more n vs all = simp (assoc, append_assoc)

pub nothing : (all : List ℤ) → Done (all ++ []) ≡ Done all
nothing all = ap (λ xs. Done xs) (append-nil all)

same : {A : Type 0} → (a : Act A) → and_then a (λ x. Done x) ≡ a
same (Done x) = refl
same (Get l k) = λ i. Get l (λ v. same (k v) i)
same (Put l v a) = λ i. Put l v (same a i)
same (Say bs a) = λ i. Say bs (same a i)
same (Take k) = λ i. Take (λ x. same (k x) i)
same (Ask s ds k) = λ i. Ask s ds (λ r. same (k r) i)
same (Fail r) = refl

pub ended : (vs : List Value) → and_then (integers vs) (λ xs. Done ([] ++ xs)) ≡ integers vs
ended vs = same (integers vs)

-- a number more, of numbers behind others
pub more_given : (r : Result (Unit {0}) Stop) (new : List ℤ) (n : ℤ) (v : Value) (vs vs' : List Value) (all all' : List ℤ) → vs' ≡ v ∷ vs → v ≡ Integer n → all' ≡ all ++ n ∷ []
    → Gives r (λ _. new) (and_then (integers vs) (λ xs. Done (all' ++ xs))) → Gives r (λ _. new) (and_then (integers vs') (λ xs. Done (all ++ xs)))
more_given r new n v vs vs' all all' e1 e2 e3 g =
    let path : and_then (integers vs) (λ xs. Done (all' ++ xs)) ≡ and_then (integers vs') (λ xs. Done (all ++ xs)) =
    ap (λ (l : List ℤ). and_then (integers vs) (λ xs. Done (l ++ xs))) e3 ∙ (more n vs all ∙ ap (λ (l : List Value). and_then (integers l) (λ xs. Done (all ++ xs))) (sym (e1 ∙ ap (λ (x : Value). x ∷ vs) e2))) in
    subst (λ (act : Act (List ℤ)). Gives r (λ _. new) act) path g

module _ (vs : List Value) (l : List ℤ) (none : l ≡ []) where
  all_path : and_then (integers vs) (λ xs. Done (l ++ xs)) ≡ integers vs
  all_path = ap (λ (l : List ℤ). and_then (integers vs) (λ xs. Done (l ++ xs))) none ∙ ended vs

  pub all_of : (new : List ℤ) → and_then (integers vs) (λ xs. Done (l ++ xs)) ≡ Done new → integers vs ≡ Done new
  all_of new e = sym all_path ∙ e

  pub none_of : (e : Stop) → Stopped e (λ r. and_then (integers vs) (λ xs. Done (l ++ xs)) ≡ Fail r) → Stopped e (λ r. integers vs ≡ Fail r)
  none_of e h = subst (λ (act : Act (List ℤ)). Stopped e (λ r. act ≡ Fail r)) all_path h

pub ruleset numbers = (nothing, more, ended)
