-- Loops over expressions: what is still to come behind what is there, one element on, and at the end.
use Rattle.std.proofs.Common.{◌≡◌, ℕ, suc, ◌+◌, ◌<◌, ◌≤◌, List, [], ◌∷◌, ◌++◌, length, drop, get_or, sym, ap, ◌∙◌, arith, append_assoc, append-nil, add-one}
use Rattle.std.proofs.lemmas.List.{drop_more, drop_all}
use Rattle.f77_tree.specs.declared.expr.Expr.{Expr}
use Rattle.f77_values.specs.Tables.{Name}
use Rattle.f77_semantics.specs.Terms.{Meant}
use Rattle.interp_code.specs.declared.step.Step.{Step}
use Rattle.interp_code.specs.declared.step.Step.TheVariants.{TakeIn}
use Rattle.interp_lower.specs.Pieces.{site_count, site_total, value_steps, values_steps, actual_steps, actuals_steps, target_steps, targets_steps, item_steps, items_steps}
use Rattle.interp_lower.proofs.Parts.{sites-none, sites-next, values-none, values-next, actuals-none, actuals-next}
use Rattle.interp_lower.proofs.Items.{targets-none, targets-next, items-none, items-next}

-- what is left of a list, by the element that was read there
pub opened : {X : Type 0} (xs : List X) (i : ℕ) (x : X) → i < length xs → x ≡ get_or xs i x → drop i xs ≡ x ∷ drop (i + 1) xs
opened xs i x h is = drop_more xs i x h ∙ ap (λ y. y ∷ drop (i + 1) xs) (sym is)

-- the steps of a list from a position and a site on: those of the first element stand before those of the others
module _ (count : Expr → ℕ) (one : ℕ → Expr → ℕ → List Step) (all : ℕ → List Expr → ℕ → List Step) where
  steps_more : ((j : ℕ) (e : Expr) (es : List Expr) (s : ℕ) → all j (e ∷ es) s ≡ one j e s ++ all (suc j) es (s + count e))
      → (es : List Expr) (i s n : ℕ) (e : Expr) (old new whole : List Step) → i < length es → e ≡ get_or es i e → n ≡ s + count e → new ≡ old ++ one i e s
      → old ++ all i (drop i es) s ≡ whole → new ++ all (i + 1) (drop (i + 1) es) n ≡ whole
  steps_more next es i s n e old new whole h is site more was =
      let others : List Step = all (i + 1) (drop (i + 1) es) n in
      let here : all i (drop i es) s ≡ one i e s ++ others =
      ap (λ xs. all i xs s) (opened es i e h is) ∙ (next i e (drop (i + 1) es) s ∙ (λ k. one i e s ++ all (sym (add-one i) k) (drop (i + 1) es) (sym site k))) in
      ap (λ xs. xs ++ others) more ∙ (append_assoc old (one i e s) others ∙ (ap (λ xs. old ++ xs) (sym here) ∙ was))

  steps_end : ((j s : ℕ) → all j [] s ≡ []) → (es : List Expr) (i j s : ℕ) (old whole : List Step) → length es ≤ i → old ++ all j (drop i es) s ≡ whole → old ≡ whole
  steps_end none es i j s old whole h was =
      sym (append-nil old) ∙ (ap (λ xs. old ++ xs) (sym (ap (λ xs. all j xs s) (drop_all i es h) ∙ none j s)) ∙ was)

module _ (m : Name → Meant) where
  pub sites_more : (es : List Expr) (i s n whole : ℕ) (e : Expr) → i < length es → e ≡ get_or es i e → n ≡ s + site_count m e
      → s + site_total m (drop i es) ≡ whole → n + site_total m (drop (i + 1) es) ≡ whole
  sites_more es i s n whole e h is more was =
      let here : site_total m (drop i es) ≡ site_count m e + site_total m (drop (i + 1) es) = ap (site_total m) (opened es i e h is) ∙ sites-next m e (drop (i + 1) es) in
      omega arith

  pub sites_end : (es : List Expr) (i s whole : ℕ) → length es ≤ i → s + site_total m (drop i es) ≡ whole → s ≡ whole
  sites_end es i s whole h was =
      let none : site_total m (drop i es) ≡ 0 = ap (site_total m) (drop_all i es h) ∙ sites-none m in
      omega arith

  pub values_more : (es : List Expr) (i s n : ℕ) (e : Expr) (old new whole : List Step) → i < length es → e ≡ get_or es i e → n ≡ s + site_count m e → new ≡ old ++ value_steps m e s
      → old ++ values_steps m (drop i es) s ≡ whole → new ++ values_steps m (drop (i + 1) es) n ≡ whole
  values_more = steps_more (site_count m) (λ j. value_steps m) (λ j. values_steps m) (λ j. values-next m)

  pub values_end : (es : List Expr) (i s : ℕ) (old whole : List Step) → length es ≤ i → old ++ values_steps m (drop i es) s ≡ whole → old ≡ whole
  values_end es i = steps_end (site_count m) (λ j. value_steps m) (λ j. values_steps m) (λ j. values-none m) es i i

  pub actuals_more : (callee : ℕ) (es : List Expr) (j s n : ℕ) (e : Expr) (old new whole : List Step) → j < length es → e ≡ get_or es j e → n ≡ s + site_count m e
      → new ≡ old ++ actual_steps m callee j e s → old ++ actuals_steps m callee j (drop j es) s ≡ whole → new ++ actuals_steps m callee (j + 1) (drop (j + 1) es) n ≡ whole
  actuals_more callee = steps_more (site_count m) (actual_steps m callee) (actuals_steps m callee) (actuals-next m callee)

  pub actuals_end : (callee : ℕ) (es : List Expr) (j s : ℕ) (old whole : List Step) → length es ≤ j → old ++ actuals_steps m callee j (drop j es) s ≡ whole → old ≡ whole
  actuals_end callee es j = steps_end (site_count m) (actual_steps m callee) (actuals_steps m callee) (actuals-none m callee) es j j

  pub items_more : (es : List Expr) (i s n : ℕ) (e : Expr) (old new whole : List Step) → i < length es → e ≡ get_or es i e → n ≡ s + site_count m e → new ≡ old ++ item_steps m e s
      → old ++ items_steps m (drop i es) s ≡ whole → new ++ items_steps m (drop (i + 1) es) n ≡ whole
  items_more = steps_more (site_count m) (λ j. item_steps m) (λ j. items_steps m) (λ j. items-next m)

  pub items_end : (es : List Expr) (i s : ℕ) (old whole : List Step) → length es ≤ i → old ++ items_steps m (drop i es) s ≡ whole → old ≡ whole
  items_end es i = steps_end (site_count m) (λ j. item_steps m) (λ j. items_steps m) (λ j. items-none m) es i i

  -- a target, into which the next integer is read
  abbrev taken : Expr → ℕ → List Step
  taken e s = target_steps m e s ++ TakeIn ∷ []

  taken-next : (e : Expr) (es : List Expr) (s : ℕ) → targets_steps m (e ∷ es) s ≡ taken e s ++ targets_steps m es (s + site_count m e)
  taken-next e es s = targets-next m e es s ∙ sym (append_assoc (target_steps m e s) (TakeIn ∷ []) (targets_steps m es (s + site_count m e)))

  pub targets_more : (es : List Expr) (i s n : ℕ) (e : Expr) (old aimed new whole : List Step) → i < length es → e ≡ get_or es i e → n ≡ s + site_count m e
      → aimed ≡ old ++ target_steps m e s → new ≡ aimed ++ TakeIn ∷ []
      → old ++ targets_steps m (drop i es) s ≡ whole → new ++ targets_steps m (drop (i + 1) es) n ≡ whole
  targets_more es i s n e old aimed new whole h is site aim more =
      steps_more (site_count m) (λ j. taken) (λ j. targets_steps m) (λ j. taken-next) es i s n e old new whole h is site
      (more ∙ (ap (λ xs. xs ++ TakeIn ∷ []) aim ∙ append_assoc old (target_steps m e s) (TakeIn ∷ [])))

  pub targets_end : (es : List Expr) (i s : ℕ) (old whole : List Step) → length es ≤ i → old ++ targets_steps m (drop i es) s ≡ whole → old ≡ whole
  targets_end es i = steps_end (site_count m) (λ j. taken) (λ j. targets_steps m) (λ j. targets-none m) es i i
