-- Whether a scalar is needed where an expression is evaluated doesn't hang on the type that is wanted.
use Rattle.std.proofs.Common.{◌≡◌, Bool, ◌||◌, Option, refl, sym, ap, ◌∙◌, subst}
use Rattle.f77_tree.specs.declared.expr.Expr.{Expr, roll-Expr, ind-Expr, fold-roll-Expr}
use Rattle.f77_tree.specs.declared.expr.Expr.TheFolds.{map-Expr}
use Rattle.f77_tree.specs.declared.expr.Expr.TheOpen.{Expr-F}
use Rattle.f77_tree.specs.declared.unit.Ty.{Ty}
use Rattle.f77_names.specs.declared.facts.Facts.{Facts}
use Rattle.check_types.specs.declared.places.Place.{Place}
use Rattle.check_types.specs.declared.places.Place.TheVariants.{Value}
use Rattle.check_types.specs.Scalars.{misplaced_step, is_misplaced}

module _ (f : Facts) where
  abbrev Same : Expr → Type 0
  Same e = (v w : Option Ty) → is_misplaced f (Value v) e ≡ is_misplaced f (Value w) e

  abbrev Both : Type 0
  Both = (e : Expr) × Same e

  abbrev layer_at : Option Ty → Expr-F Both → Bool
  layer_at v y = misplaced_step f (map-Expr Expr (Place → Bool) (λ e p. is_misplaced f p e) (map-Expr Both Expr (λ e. e.0) y)) (Value v)

  here : (y : Expr-F Both) (v w : Option Ty) → layer_at v y ≡ layer_at w y
  here (Expr-F.Int n) v w = refl
  here (Expr-F.Truth b) v w = refl
  here (Expr-F.Text bytes) v w = refl
  here (Expr-F.Scalar name) v w = refl
  here (Expr-F.Apply name es) v w = refl
  here (Expr-F.Paren e) v w = e.1 v w
  here (Expr-F.Neg e) v w = e.1 v w
  here (Expr-F.Plus e) v w = e.1 v w
  here (Expr-F.Not e) v w = e.1 v w
  here (Expr-F.Binary op a b) v w = ap (λ x. x || is_misplaced f (Value v) b.0) (a.1 v w) ∙ ap (λ x. is_misplaced f (Value w) a.0 || x) (b.1 v w)

  at_layer : (y : Expr-F Both) → Same (roll-Expr (map-Expr Both Expr (λ e. e.0) y))
  at_layer y v w =
      let x : Expr-F Expr = map-Expr Both Expr (λ e. e.0) y in
      ap (λ (g : Place → Bool). g (Value v)) (fold-roll-Expr (Place → Bool) (misplaced_step f) x)
      ∙ (here y v w ∙ sym (ap (λ (g : Place → Bool). g (Value w)) (fold-roll-Expr (Place → Bool) (misplaced_step f) x)))

  pub same_place : (e : Expr) → Same e
  same_place = ind-Expr Same (λ x y is. subst (λ x. Same (roll-Expr x)) is (at_layer y))
