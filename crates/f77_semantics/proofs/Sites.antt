-- The sites of an expression are the callees that stand in it.
use Rattle.std.proofs.Common.{◌≡◌, suc, ◌+◌, List, [], ◌∷◌, ◌++◌, Bool, true, false, length, map, flat_map, refl, sym, ap, ◌∙◌, subst, arith, if◌then◌else◌}
use Rattle.std.proofs.lemmas.Grind.{flat_map-append}
use Rattle.f77_tree.specs.declared.expr.Expr.{Expr, roll-Expr, ind-Expr, fold-roll-Expr}
use Rattle.f77_tree.specs.declared.expr.Expr.TheFolds.{map-Expr}
use Rattle.f77_tree.specs.declared.expr.Expr.TheOpen.{Expr-F}
use Rattle.f77_names.specs.declared.facts.Facts.{Facts}
use Rattle.f77_values.specs.Tables.{Name}
use Rattle.f77_names.specs.Occurrences.{Occurrences, expr_step, in_expr}
use Rattle.f77_names.specs.Roles.{is_function, facts}
use Rattle.f77_store.specs.Layouts.{slots, callee, callees_with}
use Rattle.f77_semantics.specs.Terms.{Meant, Constant, Variable, AnArray, Function, AnIntrinsic, Unknown, Resolved, sites_of, sites_in, applied, step, resolved}
use Rattle.f77_semantics.specs.Source.{meant_in}
use Rattle.f77_semantics.specs.Sites.{refers, FunctionsAgree, SitesAreCallees}
use Rattle.f77_semantics.proofs.Trees.{layer}

long-append : {A : Type 0} → (xs ys : List A) → length (xs ++ ys) ≡ length xs + length ys
long-append [] ys = omega arith
long-append (x ∷ xs) ys = omega (arith, long-append xs ys)

module _ (f : Facts) (meant : Name → Meant) (agree : FunctionsAgree f meant) where
  abbrev Counted : Expr → Type 0
  Counted e = sites_in (resolved meant e) ≡ length (callees_with f (in_expr e))

  -- an expression of which it is known
  abbrev Both : Type 0
  Both = (e : Expr) × Counted e

  joined : (a b : Occurrences) → length (callees_with f (a ++ b)) ≡ length (callees_with f a) + length (callees_with f b)
  joined a b = ap length (flat_map-append (callee f.attributes) a b) ∙ long-append (callees_with f a) (callees_with f b)

  all_counted : (es : List Both) → sites_of (map (resolved meant) (map (λ e. e.0) es)) ≡ length (callees_with f (flat_map (λ all. all) (map in_expr (map (λ e. e.0) es))))
  all_counted [] = refl
  all_counted (e ∷ es) = ap (λ n. n + sites_of (map (resolved meant) (map (λ e. e.0) es))) e.1 ∙ ap (λ n. length (callees_with f (in_expr e.0)) + n) (all_counted es) ∙ sym (joined (in_expr e.0) (flat_map (λ all. all) (map in_expr (map (λ e. e.0) es))))

  -- a name with a list counts once where it is a function
  name_counted : (name : Name) (m : Meant) (b : Bool) → b ≡ refers m → (rs : List Resolved) (cs : List Name) → sites_of rs ≡ length cs → (applied m rs).sites ≡ length ((if b then name ∷ [] else []) ++ cs)
  name_counted name (Constant v) true e rs cs h = cc
  name_counted name (Constant v) false e rs cs h = h
  name_counted name (Variable ty b) true e rs cs h = cc
  name_counted name (Variable ty b) false e rs cs h = h
  name_counted name (AnArray ty a) true e rs cs h = cc
  name_counted name (AnArray ty a) false e rs cs h = h
  name_counted name Function true e rs cs h = ap suc h
  name_counted name Function false e rs cs h = cc
  name_counted name (AnIntrinsic i) true e rs cs h = cc
  name_counted name (AnIntrinsic i) false e rs cs h = h
  name_counted name Unknown true e rs cs h = cc
  name_counted name Unknown false e rs cs h = h

  here : (y : Expr-F Both)
      → (step meant (map-Expr Expr Resolved (resolved meant) (map-Expr Both Expr (λ e. e.0) y))).sites
      ≡ length (callees_with f (expr_step (map-Expr Expr Occurrences in_expr (map-Expr Both Expr (λ e. e.0) y))))
  here (Expr-F.Int n) = refl
  here (Expr-F.Truth b) = refl
  here (Expr-F.Text bytes) = refl
  here (Expr-F.Scalar name) = refl
  here (Expr-F.Apply name es) = name_counted name (meant name) (is_function f.attributes name) (agree name) (map (resolved meant) (map (λ e. e.0) es)) (callees_with f (flat_map (λ all. all) (map in_expr (map (λ e. e.0) es)))) (all_counted es)
  here (Expr-F.Paren e) = e.1
  here (Expr-F.Neg e) = e.1
  here (Expr-F.Plus e) = e.1
  here (Expr-F.Not e) = e.1
  here (Expr-F.Binary op a b) = ap (λ n. n + sites_in (resolved meant b.0)) a.1 ∙ ap (λ n. length (callees_with f (in_expr a.0)) + n) b.1 ∙ sym (joined (in_expr a.0) (in_expr b.0))

  at_layer : (y : Expr-F Both)
      → sites_in (resolved meant (roll-Expr (map-Expr Both Expr (λ e. e.0) y)))
      ≡ length (callees_with f (in_expr (roll-Expr (map-Expr Both Expr (λ e. e.0) y))))
  at_layer y =
      let x : Expr-F Expr = map-Expr Both Expr (λ e. e.0) y in
      ap sites_in (layer meant x) ∙ here y ∙ sym (ap (λ o. length (callees_with f o)) (fold-roll-Expr Occurrences expr_step x))

  pub counted : (e : Expr) → Counted e
  counted = ind-Expr Counted (λ x y is. subst (λ x. Counted (roll-Expr x)) is (at_layer y))

pub sites_are_callees : SitesAreCallees
sites_are_callees u agree e = counted (facts u) (meant_in (facts u) (slots u)) agree e
