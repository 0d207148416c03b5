-- An expression resolves to a term of its type.
use Rattle.std.proofs.Common.{◌≡◌, ℕ, Bool, true, false, Option, Some, None, List, [], ◌∷◌, ◌++◌, map, flat_map, refl, sym, ap, ◌∙◌, subst, if◌then◌else◌}
use Rattle.f77_tree.specs.declared.expr.Expr.{Expr, roll-Expr, ind-Expr, fold-roll-Expr}
use Rattle.f77_tree.specs.declared.expr.Expr.TheFolds.{map-Expr}
use Rattle.f77_tree.specs.declared.expr.Expr.TheOpen.{Expr-F}
use Rattle.f77_tree.specs.declared.expr.Op.{Op}
use Rattle.f77_tree.specs.declared.expr.Op.TheVariants.{Pow, Mul, Div, Add, Sub}
use Rattle.f77_tree.specs.declared.unit.Ty.{Ty}
use Rattle.f77_tree.specs.declared.unit.Ty.TheVariants as types
use Rattle.f77_tree.specs.declared.unit.Unit.{Unit as SourceUnit}
use Rattle.f77_tree.specs.declared.unit.Value.{Value}
use Rattle.f77_tree.specs.declared.unit.Value.TheVariants.{Integer, Logical}
use Rattle.f77_names.specs.declared.facts.Facts.{Facts}
use Rattle.f77_names.specs.declared.roles.Role.{Role}
use Rattle.f77_names.specs.declared.roles.Role.TheVariants as roles
use Rattle.f77_names.specs.declared.standings.Standing.{Standing}
use Rattle.f77_names.specs.declared.standings.Standing.TheVariants as standing
use Rattle.f77_names.specs.Occurrences.{Occurrences, expr_step, in_expr}
use Rattle.f77_names.specs.Roles.{facts, is_function, role, type_of}
use Rattle.f77_names.specs.Standings.{standing as standing_for, standing_of, is_called}
use Rattle.f77_store.specs.declared.storage.Slot.{Slot}
use Rattle.f77_store.specs.Layouts.{slots, callees, callees_with}
use Rattle.f77_values.specs.Tables.{Name, Told}
use Rattle.f77_semantics.specs.Values.{has_type}
use Rattle.f77_semantics.specs.Effects.{Effects, gives}
use Rattle.f77_semantics.specs.Terms.{Meant, meant_as, Resolved, term_from, bare, applied, step, resolved}
use Rattle.f77_semantics.specs.Source.{slot_named}
use Rattle.f77_semantics.specs.Sites.{refers, FunctionsAgree}
use Rattle.f77_semantics.proofs.Trees.{layer}
use Rattle.check_types.specs.ExpressionTypes.{type_step, expression_type}
use Rattle.check_types.specs.ExpressionTypes as checked
use Rattle.prog_check.specs.Checks.{differs}
use Rattle.sound_units.specs.Sites.{Each, site_at, Part}
use Rattle.sound_units.specs.Checked.{StandsFor, HasList, NameFits}
use Rattle.sound_units.specs.Units.{meant_of, type_at, effects}
use Rattle.sound_units.proofs.Lists.{part_first}
use Rattle.actual_laws.specs.Fits.{HasType}

-- The expression's term from this site on has any type that the expression doesn't differ from.
abbrev pub TypedAt : SourceUnit → Expr → ℕ → Type 0
TypedAt u e s = (ty : Ty) → differs (Some ty) (expression_type (facts u) e) ≡ false → HasType (effects u) ty (term_from s (resolved (meant_of u) e))

same_type : (a b : Ty) → differs (Some a) (Some b) ≡ false → b ≡ a
same_type types.Integer types.Integer h = refl
same_type types.Logical types.Logical h = refl
same_type types.Integer types.Logical h = cc
same_type types.Logical types.Integer h = cc

gives_same : (op : Op) → gives op ≡ checked.gives op
gives_same Pow = refl
gives_same Mul = refl
gives_same Div = refl
gives_same Add = refl
gives_same Sub = refl
gives_same op = refl

number_typed : (ty : Ty) (n : _) → types.Integer ≡ ty → has_type ty (Integer n) ≡ true
number_typed types.Integer n e = refl
number_typed types.Logical n e = cc

truth_typed : (ty : Ty) (b : Bool) → types.Logical ≡ ty → has_type ty (Logical b) ≡ true
truth_typed types.Logical b e = refl
truth_typed types.Integer b e = cc

module _ (u : SourceUnit) (agree : FunctionsAgree (facts u) (meant_of u)) where
  abbrev f : Facts
  f = facts u

  abbrev meant : Name → Meant
  meant = meant_of u

  abbrev S : Effects
  S = effects u

  -- a name without a value is no term
  no_value : (c : Told Value) (name : Name) (r : Role) (o : Option Slot) (ty : Ty) → (standing_for r ≡ standing.Subroutine → HasType S ty (bare (meant_as c name r o))) × (standing_for r ≡ standing.Procedure → HasType S ty (bare (meant_as c name r o)))
  no_value c name roles.Subroutine o ty = (λ e. tt, λ e. tt)
  no_value c name roles.Procedure o ty = (λ e. tt, λ e. tt)
  no_value c name roles.Scalar o ty = (λ e. cc, λ e. cc)
  no_value c name (roles.Array b) o ty = (λ e. cc, λ e. cc)
  no_value c name (roles.Constant v) o ty = (λ e. cc, λ e. cc)
  no_value c name roles.Intrinsic o ty = (λ e. cc, λ e. cc)
  no_value c name roles.Function o ty = (λ e. cc, λ e. cc)

  typed_by : (name : Name) (a ty : Ty) → type_of f name ≡ Some a → differs (Some ty) (type_of f name) ≡ false → a ≡ ty
  typed_by name a ty e d = same_type ty a (sym (ap (differs (Some ty)) e) ∙ d)

  bare_typed : (name : Name) (ty : Ty) (st : Standing) → standing_of f name ≡ st → StandsFor f meant S st name → differs (Some ty) (if is_called st then None else type_of f name) ≡ false → HasType S ty (bare (meant name))
  bare_typed name ty standing.Scalar e x d = subst (λ m. HasType S ty (bare m)) (sym x.meant_is) (typed_by name x.ty ty x.type_is d)
  bare_typed name ty standing.Array e x d = subst (λ m. HasType S ty (bare m)) (sym x.meant_is) tt
  bare_typed name ty standing.Constant e x d = subst (λ m. HasType S ty (bare m)) (sym x.meant_is) (subst (λ t. has_type t x.value ≡ true) (typed_by name x.ty ty x.type_is d) x.fits)
  bare_typed name ty standing.Intrinsic e x d = subst (λ m. HasType S ty (bare m)) (sym x.meant_is) tt
  bare_typed name ty standing.Function e x d = subst (λ m. HasType S ty (bare m)) (sym x.meant_is) tt
  bare_typed name ty standing.Subroutine e x d = (no_value f.constants name (role f name) (slot_named (slots u) name) ty).0 e
  bare_typed name ty standing.Procedure e x d = (no_value f.constants name (role f name) (slot_named (slots u) name) ty).1 e

  -- a name with a list
  applied_typed : (name : Name) (ty : Ty) (rs : List Resolved) (s : ℕ) (rest : List Name) (st : Standing) → StandsFor f meant S st name → HasList f meant S st → Part (callees u) s ((if is_function f.attributes name then name ∷ [] else []) ++ rest)
      → differs (Some ty) (type_of f name) ≡ false → HasType S ty (term_from s (applied (meant name) rs))
  applied_typed name ty rs s rest standing.Array x l p d = subst (λ m. HasType S ty (term_from s (applied m rs))) (sym x.meant_is) (typed_by name x.ty ty x.type_is d)
  applied_typed name ty rs s rest standing.Intrinsic x l p d = subst (λ m. HasType S ty (term_from s (applied m rs))) (sym x.meant_is) (typed_by name types.Integer ty x.type_is d)
  applied_typed name ty rs s rest standing.Function x l p d =
      let is : is_function f.attributes name ≡ true = agree name ∙ ap refers x.meant_is in
      let here : site_at (callees u) s ≡ Some name = part_first (callees u) s name rest (subst (λ b. Part (callees u) s ((if b then name ∷ [] else []) ++ rest)) is p) in
      subst (λ m. HasType S ty (term_from s (applied m rs))) (sym x.meant_is) (ap (type_at f) here ∙ (x.type_is ∙ ap Some (typed_by name x.ty ty x.type_is d)))
  applied_typed name ty rs s rest st x l p d = absurd l

  abbrev Typed : Expr → Type 0
  Typed e = (s : ℕ) → Each (NameFits f meant S) (in_expr e) → Part (callees u) s (callees_with f (in_expr e)) → TypedAt u e s

  -- an expression of which it is known
  abbrev Both : Type 0
  Both = (e : Expr) × Typed e

  here : (y : Expr-F Both) (s : ℕ) → Each (NameFits f meant S) (expr_step (map-Expr Expr Occurrences in_expr (map-Expr Both Expr (λ e. e.0) y)))
      → Part (callees u) s (callees_with f (expr_step (map-Expr Expr Occurrences in_expr (map-Expr Both Expr (λ e. e.0) y))))
      → (ty : Ty) → differs (Some ty) (type_step f (map-Expr Expr (Option Ty) (expression_type f) (map-Expr Both Expr (λ e. e.0) y))) ≡ false
      → HasType S ty (term_from s (step meant (map-Expr Expr Resolved (resolved meant) (map-Expr Both Expr (λ e. e.0) y))))
  here (Expr-F.Int n) s h p ty d = number_typed ty n (same_type ty types.Integer d)
  here (Expr-F.Truth b) s h p ty d = truth_typed ty b (same_type ty types.Logical d)
  here (Expr-F.Text bytes) s h p ty d = tt
  here (Expr-F.Scalar name) s h p ty d = bare_typed name ty (standing_of f name) refl h.0.stands d
  here (Expr-F.Apply name es) s h p ty d = applied_typed name ty (map (resolved meant) (map (λ e. e.0) es)) s (callees_with f (flat_map (λ (all : Occurrences). all) (map in_expr (map (λ e. e.0) es)))) (standing_of f name) h.0.stands h.0.lists p d
  here (Expr-F.Paren e) s h p ty d = e.1 s h p ty d
  here (Expr-F.Neg e) s h p ty d = same_type ty types.Integer d
  here (Expr-F.Plus e) s h p ty d = same_type ty types.Integer d
  here (Expr-F.Not e) s h p ty d = same_type ty types.Logical d
  here (Expr-F.Binary op a b) s h p ty d = gives_same op ∙ same_type ty (checked.gives op) d

  at_layer : (y : Expr-F Both) → Typed (roll-Expr (map-Expr Both Expr (λ e. e.0) y))
  at_layer y s h p ty d =
      let x : Expr-F Expr = map-Expr Both Expr (λ e. e.0) y in
      subst (λ (r : Resolved). HasType S ty (term_from s r)) (sym (layer meant x))
      (here y s (subst (Each (NameFits f meant S)) (fold-roll-Expr Occurrences expr_step x) h) (subst (λ a. Part (callees u) s (callees_with f a)) (fold-roll-Expr Occurrences expr_step x) p) ty (subst (λ o. differs (Some ty) o ≡ false) (fold-roll-Expr (Option Ty) (type_step f) x) d))

  pub typed_at : (e : Expr) (s : ℕ) → Each (NameFits (facts u) (meant_of u) (effects u)) (in_expr e) → Part (callees u) s (callees_with (facts u) (in_expr e)) → TypedAt u e s
  typed_at = ind-Expr Typed (λ x y is. subst (λ x. Typed (roll-Expr x)) is (at_layer y))
