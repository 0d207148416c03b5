-- A constant expression that passed its checks has a value of the type that is wanted.
use Rattle.std.proofs.Common.{◌≡◌, Bool, true, false, not, ◌||◌, nat_le, ℤ, pos, negsuc, int_div, Option, Some, None, refl, sym, ap, ◌∙◌, subst, if◌then◌else◌}
use Rattle.f77_tree.specs.declared.expr.Expr.{Expr, roll-Expr, ind-Expr, fold-roll-Expr}
use Rattle.f77_tree.specs.declared.expr.Expr.TheFolds.{map-Expr}
use Rattle.f77_tree.specs.declared.expr.Expr.TheOpen.{Expr-F}
use Rattle.f77_tree.specs.declared.expr.Op.{Op}
use Rattle.f77_tree.specs.declared.expr.Op.TheVariants.{Pow, Mul, Div, Add, Sub, Eq, Ne, Lt, Le, Gt, Ge, And, Or, Eqv, Neqv}
use Rattle.f77_tree.specs.declared.unit.Ty.{Ty}
use Rattle.f77_tree.specs.declared.unit.Ty.TheVariants as types
use Rattle.f77_tree.specs.declared.unit.Value.{Value}
use Rattle.f77_tree.specs.declared.unit.Value.TheVariants.{Integer, Logical}
use Rattle.f77_names.specs.declared.facts.Facts.{Facts}
use Rattle.f77_values.specs.Arithmetic.{wrap, power, integer, operate, negated, kept, denied}
use Rattle.f77_values.specs.Constants.{applied, operated, value_step, value_of}
use Rattle.f77_values.specs.Tables.{Name, Told, what}
use Rattle.f77_names.specs.Roles.{type_of}
use Rattle.check_types.specs.declared.exponents.Reckoned.{Reckoned}
use Rattle.check_types.specs.declared.places.Place.{Place}
use Rattle.check_types.specs.declared.places.Place.TheVariants.{Value as Valued}
use Rattle.check_types.specs.ExpressionTypes.{takes, gives, plain_type}
use Rattle.check_types.specs.Exponents.{is_no_exponent, reckoned_step, reckoned, has_wrong_exponent}
use Rattle.f77_names.specs.Standings.{standing_of, is_called}
use Rattle.check_types.specs.WrongTypes.{differs, mistyped_step, is_mistyped}
use Rattle.check_types.proofs.Agreeing.{has_value}
use Rattle.check_constants.specs.declared.expressions.Judged.{Judged}
use Rattle.check_constants.specs.Expressions.{parts_step, is_made_of, divides, zero_step, judge_step, judged}
use Rattle.f77_semantics.specs.Values.{has_type}
use Rattle.sound_units.proofs.Constants.{signed as signed_value, joined as joined_value}
use Rattle.sound_units.proofs.Lists.{or_left, or_right, both_true}

abbrev pub ty_of : Value → Ty
ty_of (Integer n) = types.Integer
ty_of (Logical b) = types.Logical

pub itself_typed : (v : Value) → has_type (ty_of v) v ≡ true
itself_typed (Integer n) = refl
itself_typed (Logical b) = refl

-- ---- what is judged is the value

module _ (named : Told Value) where
  abbrev SameValue : Expr → Type 0
  SameValue e = (judged named e).value ≡ value_of named e

  abbrev Same : Type 0
  Same = (e : Expr) × SameValue e

  same_here : (y : Expr-F Same) → (judge_step named (map-Expr Expr Judged (judged named) (map-Expr Same Expr (λ e. e.0) y))).value ≡ value_step named (map-Expr Expr (Option Value) (value_of named) (map-Expr Same Expr (λ e. e.0) y))
  same_here (Expr-F.Int n) = refl
  same_here (Expr-F.Truth b) = refl
  same_here (Expr-F.Text bytes) = refl
  same_here (Expr-F.Scalar name) = refl
  same_here (Expr-F.Apply name es) = refl
  same_here (Expr-F.Paren e) = e.1
  same_here (Expr-F.Neg e) = ap (applied negated) e.1
  same_here (Expr-F.Plus e) = ap (applied kept) e.1
  same_here (Expr-F.Not e) = ap (applied denied) e.1
  same_here (Expr-F.Binary op a b) = λ i. operated op (a.1 i) (b.1 i)

  same_at : (y : Expr-F Same) → SameValue (roll-Expr (map-Expr Same Expr (λ e. e.0) y))
  same_at y =
      let x : Expr-F Expr = map-Expr Same Expr (λ e. e.0) y in
      ap (λ (r : Judged). r.value) (fold-roll-Expr Judged (judge_step named) x) ∙ (same_here y ∙ sym (fold-roll-Expr (Option Value) (value_step named) x))

  pub judged_value : (e : Expr) → SameValue e
  judged_value = ind-Expr SameValue (λ x y is. subst (λ x. SameValue (roll-Expr x)) is (same_at y))

-- ---- operators on values of their types

number_of : (v : Value) → differs (Some types.Integer) (Some (ty_of v)) ≡ false → (n : ℤ) × (v ≡ Integer n)
number_of (Integer n) h = (n, refl)
number_of (Logical b) h = cc

truth_of : (v : Value) → differs (Some types.Logical) (Some (ty_of v)) ≡ false → (b : Bool) × (v ≡ Logical b)
truth_of (Logical b) h = (b, refl)
truth_of (Integer n) h = cc

-- an operator's value, with its type
abbrev Gives : Op → Value → Value → Type 0
Gives op x y = (v : Value) × (operate op x y ≡ Some v) × (ty_of v ≡ gives op)

raised : (x y : ℤ) → is_no_exponent Pow (Some (Integer y)) ≡ false → Gives Pow (Integer x) (Integer y)
raised x (pos n) h = go (nat_le n 62) h
  where
    go : (b : Bool) → not b ≡ false → (v : Value) × (integer (if b then Some (power x n) else None) ≡ Some v) × (ty_of v ≡ types.Integer)
    go true h = (Integer (power x n), refl, refl)
    go false h = cc
raised x (negsuc n) h = cc

quotient : (x y : ℤ) → divides Div (Some (Integer y)) ≡ false → Gives Div (Integer x) (Integer y)
quotient x y h = (Integer (wrap (int_div x y)), ap (λ b. integer (if b then None else Some (wrap (int_div x y)))) h, refl)

operates : (op : Op) (x y : Value) → differs (Some (takes op)) (Some (ty_of x)) ≡ false → differs (Some (takes op)) (Some (ty_of y)) ≡ false → divides op (Some y) ≡ false → is_no_exponent op (Some y) ≡ false → Gives op x y
operates Pow (Integer x) (Integer y) h k z e = raised x y e
operates Mul (Integer x) (Integer y) h k z e = (_, refl, refl)
operates Div (Integer x) (Integer y) h k z e = quotient x y z
operates Add (Integer x) (Integer y) h k z e = (_, refl, refl)
operates Sub (Integer x) (Integer y) h k z e = (_, refl, refl)
operates Eq (Integer x) (Integer y) h k z e = (_, refl, refl)
operates Ne (Integer x) (Integer y) h k z e = (_, refl, refl)
operates Lt (Integer x) (Integer y) h k z e = (_, refl, refl)
operates Le (Integer x) (Integer y) h k z e = (_, refl, refl)
operates Gt (Integer x) (Integer y) h k z e = (_, refl, refl)
operates Ge (Integer x) (Integer y) h k z e = (_, refl, refl)
operates And (Logical x) (Logical y) h k z e = (_, refl, refl)
operates Or (Logical x) (Logical y) h k z e = (_, refl, refl)
operates Eqv (Logical x) (Logical y) h k z e = (_, refl, refl)
operates Neqv (Logical x) (Logical y) h k z e = (_, refl, refl)
operates op x y h k z e = cc

-- ---- expressions

-- a named constant that is known, with its type
pub record ConstantKnown (f : Facts) (named : Told Value) (name : Name) : Type 0 where
  pub value : Value
  pub is : what named name ≡ Some value
  pub type_is : type_of f name ≡ Some (ty_of value)
  pub bare : is_called (standing_of f name) ≡ false

pub record HasValue (w : Option Ty) (o : Option Value) : Type 0 where
  pub value : Value
  pub is : o ≡ Some value
  pub fits : differs w (Some (ty_of value)) ≡ false

module _ (f : Facts) (named : Told Value) (allowed : Name → Bool) (fine : (name : Name) → allowed name ≡ true → ConstantKnown f named name) where
  abbrev Given : Expr → Type 0
  Given e = (w : Option Ty) → is_mistyped f (Valued w) e ≡ false → is_made_of allowed e ≡ true → (judged named e).zero_divisor ≡ false → has_wrong_exponent named e ≡ false → HasValue w (value_of named e)

  abbrev Both : Type 0
  Both = (e : Expr) × Given e

  abbrev tree : Expr-F Both → Expr-F Expr
  tree y = map-Expr Both Expr (λ e. e.0) y

  name_value : (w : Option Ty) (name : Name) → differs w (plain_type f name) ≡ false → ConstantKnown f named name → HasValue w (what named name)
  name_value w name t k =
      let plain : plain_type f name ≡ Some (ty_of k.value) = ap (λ b. if b then None else type_of f name) k.bare ∙ k.type_is in
      record { value = k.value; is = k.is; fits = subst (λ o. differs w o ≡ false) plain t }

  signed : (w : Option Ty) (g : Value → Option Value) → ((n : ℤ) → (m : ℤ) × (g (Integer n) ≡ Some (Integer m))) → (o : Option Value) → differs w (Some types.Integer) ≡ false → HasValue (Some types.Integer) o → HasValue w (applied g o)
  signed w g gives o t r =
      let x = number_of r.value r.fits in
      let y = gives x.0 in
      record { value = Integer y.0; is = ap (applied g) (r.is ∙ ap Some x.1) ∙ y.1; fits = t }

  opposed : (w : Option Ty) (o : Option Value) → differs w (Some types.Logical) ≡ false → HasValue (Some types.Logical) o → HasValue w (applied denied o)
  opposed w o t r =
      let x = truth_of r.value r.fits in
      record { value = Logical (not x.0); is = ap (applied denied) (r.is ∙ ap Some x.1); fits = t }

  between : (w : Option Ty) (op : Op) (p q : Option Value) → differs w (Some (gives op)) ≡ false → HasValue (Some (takes op)) p → HasValue (Some (takes op)) q → divides op q ≡ false → is_no_exponent op q ≡ false → HasValue w (operated op p q)
  between w op p q t x y z e =
      let r : Gives op x.value y.value = operates op x.value y.value x.fits y.fits (subst (λ q. divides op q ≡ false) y.is z) (subst (λ q. is_no_exponent op q ≡ false) y.is e) in
      record { value = r.0; is = (λ i. operated op (x.is i) (y.is i)) ∙ r.1; fits = subst (λ ty. differs w (Some ty) ≡ false) (sym r.2) t }

  here : (y : Expr-F Both) (w : Option Ty)
      → mistyped_step f (map-Expr Expr (Place → Bool) (λ e p. is_mistyped f p e) (tree y)) (Valued w) ≡ false
      → parts_step allowed (map-Expr Expr Bool (is_made_of allowed) (tree y)) ≡ true
      → zero_step (map-Expr Expr Judged (judged named) (tree y)) ≡ false
      → (reckoned_step named (map-Expr Expr Reckoned (reckoned named) (tree y))).wrong ≡ false
      → HasValue w (value_step named (map-Expr Expr (Option Value) (value_of named) (tree y)))
  here (Expr-F.Int n) w t m z x = record { value = Integer n; is = refl; fits = t }
  here (Expr-F.Truth b) w t m z x = record { value = Logical b; is = refl; fits = t }
  here (Expr-F.Text bytes) w t m z x = cc
  here (Expr-F.Scalar name) w t m z x = name_value w name t (fine name m)
  here (Expr-F.Apply name es) w t m z x = cc
  here (Expr-F.Paren e) w t m z x = e.1 w t m z x
  here (Expr-F.Neg e) w t m z x = signed w negated (λ n. (_, refl)) (value_of named e.0) (or_left (differs w (Some types.Integer)) _ t) (e.1 (Some types.Integer) (or_right (differs w (Some types.Integer)) _ t) m z x)
  here (Expr-F.Plus e) w t m z x = signed w kept (λ n. (_, refl)) (value_of named e.0) (or_left (differs w (Some types.Integer)) _ t) (e.1 (Some types.Integer) (or_right (differs w (Some types.Integer)) _ t) m z x)
  here (Expr-F.Not e) w t m z x = opposed w (value_of named e.0) (or_left (differs w (Some types.Logical)) _ t) (e.1 (Some types.Logical) (or_right (differs w (Some types.Logical)) _ t) m z x)
  here (Expr-F.Binary op a b) w t m z x =
      let v : Option Ty = Some (takes op) in
      let types_of : (is_mistyped f (Valued v) a.0 || is_mistyped f (Valued v) b.0) ≡ false = or_right (differs w (Some (gives op))) _ t in
      let made = both_true (is_made_of allowed a.0) (is_made_of allowed b.0) m in
      let zeros : ((judged named a.0).zero_divisor || (judged named b.0).zero_divisor) ≡ false = or_right (divides op (judged named b.0).value) _ z in
      let wrongs : (has_wrong_exponent named b.0 || is_no_exponent op (reckoned named b.0).value) ≡ false = or_right (has_wrong_exponent named a.0) _ x in
      between w op (value_of named a.0) (value_of named b.0) (or_left (differs w (Some (gives op))) _ t)
      (a.1 v (or_left (is_mistyped f (Valued v) a.0) _ types_of) made.0 (or_left (judged named a.0).zero_divisor _ zeros) (or_left (has_wrong_exponent named a.0) _ x))
      (b.1 v (or_right (is_mistyped f (Valued v) a.0) _ types_of) made.1 (or_right (judged named a.0).zero_divisor _ zeros) (or_left (has_wrong_exponent named b.0) _ wrongs))
      (subst (λ o. divides op o ≡ false) (judged_value named b.0) (or_left (divides op (judged named b.0).value) _ z))
      (subst (λ o. is_no_exponent op o ≡ false) (has_value named b.0) (or_right (has_wrong_exponent named b.0) _ wrongs))

  at_layer : (y : Expr-F Both) → Given (roll-Expr (tree y))
  at_layer y w t m z x =
      let e : Expr-F Expr = tree y in
      subst (HasValue w) (sym (fold-roll-Expr (Option Value) (value_step named) e))
      (here y w
      (sym (ap (λ (g : Place → Bool). g (Valued w)) (fold-roll-Expr (Place → Bool) (mistyped_step f) e)) ∙ t)
      (sym (fold-roll-Expr Bool (parts_step allowed) e) ∙ m)
      (sym (ap (λ (r : Judged). r.zero_divisor) (fold-roll-Expr Judged (judge_step named) e)) ∙ z)
      (sym (ap (λ (r : Reckoned). r.wrong) (fold-roll-Expr Reckoned (reckoned_step named) e)) ∙ x))

  -- A constant expression that passed its checks has a value of the type that is wanted.
  pub constant_value : (e : Expr) → Given e
  constant_value = ind-Expr Given (λ x y is. subst (λ x. Given (roll-Expr x)) is (at_layer y))

-- ---- where more is known

module _ (named all : Told Value) (more : (name : Name) (v : Value) → what named name ≡ Some v → what all name ≡ Some v) where
  abbrev Stays : Expr → Type 0
  Stays e = (v : Value) → value_of named e ≡ Some v → value_of all e ≡ Some v

  abbrev Kept : Type 0
  Kept = (e : Expr) × Stays e

  through : (g : Value → Option Value) (e : Kept) (v : Value) → applied g (value_of named e.0) ≡ Some v → applied g (value_of all e.0) ≡ Some v
  through g e v h = let x = signed_value g (value_of named e.0) v h in ap (applied g) (e.1 x.0 x.1) ∙ x.2

  stays_here : (y : Expr-F Kept) (v : Value) → value_step named (map-Expr Expr (Option Value) (value_of named) (map-Expr Kept Expr (λ e. e.0) y)) ≡ Some v → value_step all (map-Expr Expr (Option Value) (value_of all) (map-Expr Kept Expr (λ e. e.0) y)) ≡ Some v
  stays_here (Expr-F.Int n) v h = h
  stays_here (Expr-F.Truth b) v h = h
  stays_here (Expr-F.Text bytes) v h = cc
  stays_here (Expr-F.Scalar name) v h = more name v h
  stays_here (Expr-F.Apply name es) v h = cc
  stays_here (Expr-F.Paren e) v h = e.1 v h
  stays_here (Expr-F.Neg e) v h = through negated e v h
  stays_here (Expr-F.Plus e) v h = through kept e v h
  stays_here (Expr-F.Not e) v h = through denied e v h
  stays_here (Expr-F.Binary op a b) v h =
      let x = joined_value op (value_of named a.0) (value_of named b.0) v h in
      (λ i. operated op (a.1 x.0 x.2 i) (b.1 x.1 x.3 i)) ∙ x.4

  stays_at : (y : Expr-F Kept) → Stays (roll-Expr (map-Expr Kept Expr (λ e. e.0) y))
  stays_at y v h =
      let x : Expr-F Expr = map-Expr Kept Expr (λ e. e.0) y in
      fold-roll-Expr (Option Value) (value_step all) x ∙ stays_here y v (sym (fold-roll-Expr (Option Value) (value_step named) x) ∙ h)

  -- A value stays where more is known.
  pub value_stays : (e : Expr) → Stays e
  value_stays = ind-Expr Stays (λ x y is. subst (λ x. Stays (roll-Expr x)) is (stays_at y))
