-- What the conditions on expressions say of types and of values.
use Rattle.std.proofs.Common.{◌≡◌, Bool, true, false, Option, Some, None, refl, sym, ap, ◌∙◌, subst}
use Rattle.std.specs.Prelude.{◌||◌}
use Rattle.f77_tree.specs.declared.expr.Expr.{Expr, roll-Expr, ind-Expr, fold-roll-Expr}
use Rattle.f77_tree.specs.declared.expr.Expr.TheFolds.{map-Expr}
use Rattle.f77_tree.specs.declared.expr.Expr.TheOpen.{Expr-F}
use Rattle.f77_tree.specs.declared.unit.Ty.{Ty}
use Rattle.f77_tree.specs.declared.unit.Ty.TheVariants.{Integer, Logical}
use Rattle.f77_tree.specs.declared.unit.Value.{Value}
use Rattle.f77_names.specs.declared.facts.Facts.{Facts}
use Rattle.f77_values.specs.Arithmetic.{negated, kept, denied}
use Rattle.f77_values.specs.Constants.{applied, operated, value_step, value_of}
use Rattle.f77_values.specs.Tables.{Told}
use Rattle.check_types.specs.declared.exponents.Reckoned.{Reckoned}
use Rattle.check_types.specs.declared.places.Place.{Place}
use Rattle.check_types.specs.declared.places.Place.TheVariants as place
use Rattle.check_types.specs.ExpressionTypes.{type_step, expression_type}
use Rattle.check_types.specs.Places.{wanted}
use Rattle.check_types.specs.WrongTypes.{differs, mistyped_step, is_mistyped}
use Rattle.check_types.specs.Exponents.{reckoned_step, reckoned}

-- The value of an expression is that of a constant expression.
module _ (named : Told Value) where
  abbrev HasValue : Expr → Type 0
  HasValue e = (reckoned named e).value ≡ value_of named e

  abbrev Valued : Type 0
  Valued = (e : Expr) × HasValue e

  value_here : (y : Expr-F Valued)
      → (reckoned_step named (map-Expr Expr Reckoned (reckoned named) (map-Expr Valued Expr (λ e. e.0) y))).value
      ≡ value_step named (map-Expr Expr (Option Value) (value_of named) (map-Expr Valued Expr (λ e. e.0) y))
  value_here (Expr-F.Int n) = refl
  value_here (Expr-F.Truth b) = refl
  value_here (Expr-F.Text bytes) = refl
  value_here (Expr-F.Scalar name) = refl
  value_here (Expr-F.Apply name es) = refl
  value_here (Expr-F.Paren e) = e.1
  value_here (Expr-F.Neg e) = ap (applied negated) e.1
  value_here (Expr-F.Plus e) = ap (applied kept) e.1
  value_here (Expr-F.Not e) = ap (applied denied) e.1
  value_here (Expr-F.Binary op a b) = λ i. operated op (a.1 i) (b.1 i)

  value_at : (y : Expr-F Valued) → HasValue (roll-Expr (map-Expr Valued Expr (λ e. e.0) y))
  value_at y =
      let x : Expr-F Expr = map-Expr Valued Expr (λ e. e.0) y in
      ap (λ (r : Reckoned). r.value) (fold-roll-Expr Reckoned (reckoned_step named) x) ∙ (value_here y ∙ sym (fold-roll-Expr (Option Value) (value_step named) x))

  pub has_value : (e : Expr) → HasValue e
  has_value = ind-Expr HasValue (λ x y is. subst (λ x. HasValue (roll-Expr x)) is (value_at y))

-- An expression in which no type is wrong has the type that is wanted, as far as it has one.
module _ (f : Facts) where
  abbrev HasType : Expr → Type 0
  HasType e = (p : Place) → is_mistyped f p e ≡ false → differs (wanted p) (expression_type f e) ≡ false

  abbrev Typed : Type 0
  Typed = (e : Expr) × HasType e

  left : (a b : Bool) → (a || b) ≡ false → a ≡ false
  left true b h = h
  left false b h = refl

  of_text : (ty : Option Ty) → differs ty None ≡ false
  of_text None = refl
  of_text (Some Integer) = refl
  of_text (Some Logical) = refl

  type_here : (y : Expr-F Typed) (p : Place)
      → mistyped_step f (map-Expr Expr (Place → Bool) (λ e p. is_mistyped f p e) (map-Expr Typed Expr (λ e. e.0) y)) p ≡ false
      → differs (wanted p) (type_step f (map-Expr Expr (Option Ty) (expression_type f) (map-Expr Typed Expr (λ e. e.0) y))) ≡ false
  type_here (Expr-F.Int n) p h = h
  type_here (Expr-F.Truth b) p h = h
  type_here (Expr-F.Text bytes) p h = of_text (wanted p)
  type_here (Expr-F.Scalar name) p h = h
  type_here (Expr-F.Apply name es) p h = left _ _ h
  type_here (Expr-F.Paren e) p h = e.1 (place.Value (wanted p)) h
  type_here (Expr-F.Neg e) p h = left _ _ h
  type_here (Expr-F.Plus e) p h = left _ _ h
  type_here (Expr-F.Not e) p h = left _ _ h
  type_here (Expr-F.Binary op a b) p h = left _ _ h

  type_at : (y : Expr-F Typed) → HasType (roll-Expr (map-Expr Typed Expr (λ e. e.0) y))
  type_at y p h =
      let x : Expr-F Expr = map-Expr Typed Expr (λ e. e.0) y in
      ap (differs (wanted p)) (fold-roll-Expr (Option Ty) (type_step f) x)
      ∙ type_here y p (sym (ap (λ (g : Place → Bool). g p) (fold-roll-Expr (Place → Bool) (mistyped_step f) x)) ∙ h)

  pub has_type : (e : Expr) → HasType e
  has_type = ind-Expr HasType (λ x y is. subst (λ x. HasType (roll-Expr x)) is (type_at y))
