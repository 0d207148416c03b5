-- The steps of the bounds of dummy arrays.
use Rattle.std.proofs.Common.{◌≡◌, ℕ, ◌+◌, ◌<◌, ◌≤◌, List, [], ◌∷◌, ◌++◌, length, drop, get_or, map, Option, Some, None, refl, sym, ap, ◌∙◌, append_assoc, append-nil}
use Rattle.std.proofs.lemmas.List.{drop_all, map-append}
use Rattle.f77_tree.specs.declared.expr.Expr.{Expr}
use Rattle.f77_names.specs.declared.roles.Role.{Role}
use Rattle.f77_names.specs.declared.roles.Role.TheVariants.{Array}
use Rattle.f77_values.specs.Tables.{Name}
use Rattle.f77_semantics.specs.Terms.{Meant}
use Rattle.f77_semantics.specs.Resolve.{term, optional}
use Rattle.f77_semantics.specs.Source.{bound_of, dummy_array}
use Rattle.interp_code.specs.declared.step.Step.{Step}
use Rattle.interp_code.specs.declared.step.Step.TheVariants.{Number}
use Rattle.interp_code.specs.Entries.{lower_code, upper_code, bounds_code}
use Rattle.interp_lower.specs.declared.arrays.DummyArray.{DummyArray}
use Rattle.interp_lower.specs.Pieces.{value_steps, step_steps, upper_steps, bound_steps, bounds_steps}
use Rattle.interp_lower.specs.Routines.{dummy_of, dummy_as}
use Rattle.interp_lower.proofs.Behind.{code-append}
use Rattle.interp_lower.proofs.Coming.{opened}
use Rattle.interp_lower.proofs.Preludes.{preludes}

module _ (m : Name → Meant) where
  lower-steps : (e : Option Expr) (cs : List Step) → lower_code (optional m e 1) cs ≡ step_steps m e 1 ++ cs
  unfolding value_steps
  lower-steps None cs = refl
  lower-steps (Some e) cs = code-append (term m e 1) (Number ∷ []) cs ∙ ap (λ xs. xs ++ cs) (code-append (term m e 1) [] (Number ∷ []))

  upper-steps : (e : Option Expr) (cs : List Step) → upper_code (optional m e 1) cs ≡ upper_steps m e ++ cs
  unfolding value_steps
  upper-steps None cs = refl
  upper-steps (Some e) cs = code-append (term m e 1) (Number ∷ []) cs ∙ ap (λ xs. xs ++ cs) (code-append (term m e 1) [] (Number ∷ []))

  pub bounds-none : bounds_steps m [] ≡ []
  unfolding bounds_steps
  bounds-none = refl

  pub bounds-next : (b : Option Expr × Option Expr) (bs : List (Option Expr × Option Expr)) → bounds_steps m (b ∷ bs) ≡ bound_steps m b ++ bounds_steps m bs
  unfolding bounds_steps
  bounds-next b bs =
      let others : List Step = bounds_code (map (bound_of m) bs) in
      lower-steps b.0 (upper_code (optional m b.1 1) others)
      ∙ (ap (λ cs. step_steps m b.0 1 ++ cs) (upper-steps b.1 others) ∙ sym (append_assoc (step_steps m b.0 1) (upper_steps m b.1) others))

  -- a loop over bounds: what is still to come, one further, and at the end
  pub bounds_more : (bs : List (Option Expr × Option Expr)) (i : ℕ) (b : Option Expr × Option Expr) (old new whole : List Step) → i < length bs → b ≡ get_or bs i b → new ≡ old ++ bound_steps m b
      → old ++ bounds_steps m (drop i bs) ≡ whole → new ++ bounds_steps m (drop (i + 1) bs) ≡ whole
  bounds_more bs i b old new whole h is more was =
      let others : List Step = bounds_steps m (drop (i + 1) bs) in
      let here : bounds_steps m (drop i bs) ≡ bound_steps m b ++ others = ap (bounds_steps m) (opened bs i b h is) ∙ bounds-next b (drop (i + 1) bs) in
      ap (λ xs. xs ++ others) more ∙ (append_assoc old (bound_steps m b) others ∙ (ap (λ xs. old ++ xs) (sym here) ∙ was))

  pub bounds_end : (bs : List (Option Expr × Option Expr)) (i : ℕ) (old whole : List Step) → length bs ≤ i → old ++ bounds_steps m (drop i bs) ≡ whole → old ≡ whole
  bounds_end bs i old whole h was = sym (append-nil old) ∙ (ap (λ xs. old ++ xs) (sym (ap (bounds_steps m) (drop_all i bs h) ∙ bounds-none)) ∙ was)

  -- one array more
  pub array_more : (old new : List DummyArray) (made : DummyArray) (bounds : List (Option Expr × Option Expr)) (role : Role) → role ≡ Array bounds → made.bounds ≡ bounds_steps m bounds → new ≡ old ++ made ∷ []
      → map dummy_of new ≡ map dummy_of old ++ map dummy_as (dummy_array m made.dummy role)
  unfolding bounds_steps
  array_more old new made bounds role is steps more =
      ap (map dummy_of) more
      ∙ (map-append dummy_of old (made ∷ [])
      ∙ (ap (λ (cs : List Step). map dummy_of old ++ (made.dummy, cs) ∷ []) steps ∙ ap (λ r. map dummy_of old ++ map dummy_as (dummy_array m made.dummy r)) (sym is)))

pub ruleset dimensions = (preludes, bounds-none, bounds-next)
