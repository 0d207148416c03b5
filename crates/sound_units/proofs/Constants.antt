-- A constant expression resolves to a term with the same value.
use Rattle.std.proofs.Common.{◌≡◌, ℕ, ◌+◌, Option, Some, None, refl, sym, ap, ◌∙◌, subst}
use Rattle.f77_tree.specs.declared.expr.Op.{Op}
use Rattle.f77_tree.specs.declared.expr.Expr.{Expr, roll-Expr, ind-Expr, fold-roll-Expr}
use Rattle.f77_tree.specs.declared.expr.Expr.TheFolds.{map-Expr}
use Rattle.f77_tree.specs.declared.expr.Expr.TheOpen.{Expr-F}
use Rattle.f77_tree.specs.declared.unit.Value.{Value}
use Rattle.f77_values.specs.Arithmetic.{operate, negated, kept, denied}
use Rattle.f77_values.specs.Constants.{applied, operated, value_step, value_of}
use Rattle.f77_values.specs.Tables.{Name, Told, what}
use Rattle.f77_semantics.specs.Terms.{Meant, Constant, Resolved, bare, step, resolved, term_from, sites_in}
use Rattle.f77_semantics.specs.Effects.{constant}
use Rattle.f77_semantics.proofs.Trees.{layer}

pub signed : (g : Value → Option Value) (o : Option Value) (v : Value) → applied g o ≡ Some v → (x : Value) × (o ≡ Some x) × (g x ≡ Some v)
signed g None v e = cc
signed g (Some x) v e = (x, refl, e)

pub joined : (op : Op) (p q : Option Value) (v : Value) → operated op p q ≡ Some v → (x : Value) × (y : Value) × (p ≡ Some x) × (q ≡ Some y) × (operate op x y ≡ Some v)
joined op None None v e = cc
joined op None (Some y) v e = cc
joined op (Some x) None v e = cc
joined op (Some x) (Some y) v e = (x, y, refl, refl, e)

module _ (named : Told Value) (meant : Name → Meant) (known : (name : Name) (v : Value) → what named name ≡ Some v → meant name ≡ Constant v) where
  abbrev Same : Expr → Type 0
  Same e = (v : Value) (s : ℕ) → value_of named e ≡ Some v → constant (term_from s (resolved meant e)) ≡ Some v

  abbrev Both : Type 0
  Both = (e : Expr) × Same e

  through : (g : Value → Option Value) (e : Both) (v : Value) (s : ℕ) → applied g (value_of named e.0) ≡ Some v → applied g (constant (term_from s (resolved meant e.0))) ≡ Some v
  through g e v s h = let x = signed g (value_of named e.0) v h in ap (applied g) (e.1 x.0 s x.1) ∙ x.2

  here : (y : Expr-F Both) (v : Value) (s : ℕ)
      → value_step named (map-Expr Expr (Option Value) (value_of named) (map-Expr Both Expr (λ e. e.0) y)) ≡ Some v
      → constant (term_from s (step meant (map-Expr Expr Resolved (resolved meant) (map-Expr Both Expr (λ e. e.0) y)))) ≡ Some v
  here (Expr-F.Int n) v s h = h
  here (Expr-F.Truth b) v s h = h
  here (Expr-F.Text bytes) v s h = cc
  here (Expr-F.Scalar name) v s h = ap (λ m. constant (bare m)) (known name v h)
  here (Expr-F.Apply name es) v s h = cc
  here (Expr-F.Paren e) v s h = e.1 v s h
  here (Expr-F.Neg e) v s h = through negated e v s h
  here (Expr-F.Plus e) v s h = through kept e v s h
  here (Expr-F.Not e) v s h = through denied e v s h
  here (Expr-F.Binary op a b) v s h = both op a b v s h
    where
      both : (op : Op) (a b : Both) (v : Value) (s : ℕ) → operated op (value_of named a.0) (value_of named b.0) ≡ Some v
          → constant (term_from s (step meant (Expr-F.Binary op (resolved meant a.0) (resolved meant b.0)))) ≡ Some v
      both op a b v s h =
          let j = joined op (value_of named a.0) (value_of named b.0) v h in
          let t : ℕ = s + sites_in (resolved meant a.0) in
          ap (λ p. operated op p (constant (term_from t (resolved meant b.0)))) (a.1 j.0 s j.2) ∙ (ap (operated op (Some j.0)) (b.1 j.1 t j.3) ∙ j.4)

  at_layer : (y : Expr-F Both) → Same (roll-Expr (map-Expr Both Expr (λ e. e.0) y))
  at_layer y v s h =
      let x : Expr-F Expr = map-Expr Both Expr (λ e. e.0) y in
      ap (λ r. constant (term_from s r)) (layer meant x) ∙ here y v s (sym (fold-roll-Expr (Option Value) (value_step named) x) ∙ h)

  pub constant_is : (e : Expr) → Same e
  constant_is = ind-Expr Same (λ x y is. subst (λ x. Same (roll-Expr x)) is (at_layer y))
