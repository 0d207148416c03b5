-- In a unit that passed its checks each named constant has a value of its type behind its definition.
use Rattle.std.proofs.Common.{◌≡◌, ℕ, zero, suc, ⊎_elim, Bool, true, false, not, ◌||◌, Option, Some, None, List, [], ◌∷◌, take, fold, slice_get, refl, sym, ap, ◌∙◌, subst}
use Rattle.std.specs.List.{list_any}
use Rattle.std.proofs.lemmas.List.Sums.{fold-append}
use Rattle.f77_tree.specs.declared.expr.Expr.{Expr}
use Rattle.f77_tree.specs.declared.form.Form.{Form, out-Form}
use Rattle.f77_tree.specs.declared.form.Form.TheOpen.{Form-F}
use Rattle.f77_tree.specs.declared.unit.Stmt.{Stmt}
use Rattle.f77_tree.specs.declared.unit.Ty.{Ty}
use Rattle.f77_tree.specs.declared.unit.Ty.TheVariants as types
use Rattle.f77_tree.specs.declared.unit.Value.{Value}
use Rattle.f77_names.specs.declared.facts.Facts.{Facts}
use Rattle.f77_values.specs.Constants.{value_of, defined as told_as, with_constant, constants}
use Rattle.f77_values.specs.Tables.{Name, name_eq, is_among, with_name, Told, with_told}
use Rattle.f77_names.specs.Roles.{type_of}
use Rattle.check_types.specs.declared.breaks.Rule.TheVariants.{Types}
use Rattle.check_types.specs.declared.places.Place.TheVariants.{Value as Valued}
use Rattle.check_types.specs.Breaks.{definition_breaks}
use Rattle.check_types.specs.Exponents.{has_wrong_exponent}
use Rattle.check_types.specs.Overreaching.{definitions_overreach}
use Rattle.f77_names.specs.Standings.{standing_of, is_called}
use Rattle.check_types.specs.WrongTypes.{differs, is_mistyped}
use Rattle.check_constants.specs.declared.defined.Defined.{Defined}
use Rattle.check_constants.specs.Defined.{nothing, with_definition, with_form, with_statement}
use Rattle.check_constants.specs.Needed.{is_constant, is_no_constant, lacks_values}
use Rattle.sound_units.specs.Sites.{Each}
use Rattle.sound_units.proofs.Defining.{take_next, take_past, next_constants}
use Rattle.sound_units.proofs.Giving.{among_more}
use Rattle.sound_units.proofs.Lists.{or_left, or_right, not_false}
use Rattle.sound_units.proofs.Manners.{definitions_in, defines}
use Rattle.sound_units.proofs.Tables.{name_is, among_stays, among_last, told_other, told_same, opposite}
use Rattle.sound_units.proofs.Valuing.{ty_of, ConstantKnown, HasValue, constant_value}

same_type : (a b : Ty) → differs (Some a) (Some b) ≡ false → a ≡ b
same_type types.Integer types.Integer h = refl
same_type types.Logical types.Logical h = refl
same_type types.Integer types.Logical h = cc
same_type types.Logical types.Integer h = cc

-- a name of a value, with its type
pub record Named (f : Facts) (name : Name) : Type 0 where
  pub ty : Ty
  pub type_is : type_of f name ≡ Some ty
  pub bare : is_called (standing_of f name) ≡ false

-- ---- definitions, one by one

values_after : (all : List (Name × Expr)) (d : Defined) → (fold with_definition d all).values ≡ fold with_constant d.values all
values_after [] d = refl
values_after (x ∷ all) d = values_after all (with_definition d x)

stays_defined : (all : List (Name × Expr)) (d : Defined) (name : Name) → is_among d.names name ≡ true → is_among (fold with_definition d all).names name ≡ true
stays_defined [] d name h = h
stays_defined (x ∷ all) d name h = stays_defined all (with_definition d x) name (among_stays d.names x.0 name h)

comes_defined : (all : List (Name × Expr)) (d : Defined) (name : Name) → list_any (defines name) all ≡ true → is_among (fold with_definition d all).names name ≡ true
comes_defined [] d name h = cc
comes_defined (x ∷ all) d name h = go (name_eq name x.0) refl h (comes_defined all (with_definition d x) name)
  where
    go : (b : Bool) → name_eq name x.0 ≡ b → (b || list_any (defines name) all) ≡ true → (list_any (defines name) all ≡ true → is_among (fold with_definition (with_definition d x) all).names name ≡ true) → is_among (fold with_definition (with_definition d x) all).names name ≡ true
    go true e h rest = stays_defined all (with_definition d x) name (subst (λ n. is_among (with_name d.names x.0) n ≡ true) (sym (name_is name x.0 e)) (among_last d.names x.0))
    go false e h rest = rest h

by_form : (d : Defined) (F : Form-F Form) → with_form d F ≡ fold with_definition d (definitions_in F)
by_form d (Form-F.Parameter all) = refl
by_form d F = refl

module _ (f : Facts) where
  -- the constants that are defined so far have values of their types
  abbrev AllKnown : Defined → Type 0
  AllKnown d = (name : Name) → is_among d.names name ≡ true → ConstantKnown f d.values name

  told_known : (d : Defined) (n : Name) (o : Option Value) (v : Value) → o ≡ Some v → type_of f n ≡ Some (ty_of v) → is_called (standing_of f n) ≡ false → AllKnown d → (name : Name) → is_among (with_name d.names n) name ≡ true → ConstantKnown f (told_as d.values n o) name
  told_known d n o v is type_is bare known name h = subst (λ o. ConstantKnown f (told_as d.values n o) name) (sym is) (go (name_eq name n) refl)
    where
      go : (b : Bool) → name_eq name n ≡ b → ConstantKnown f (with_told d.values n v) name
      go true e =
          let same : name ≡ n = name_is name n e in
          subst (ConstantKnown f (with_told d.values n v)) (sym same) (record { value = v; is = told_same d.values n v; type_is = type_is; bare = bare })
      go false e =
          let old : ConstantKnown f d.values name = known name (⊎_elim (λ k. k) (λ k. opposite (name_eq name n) k e) (among_more d.names n name h)) in
          record { value = old.value; is = told_other d.values n v name e ∙ old.is; type_is = old.type_is; bare = old.bare }

  one_known : (d : Defined) (x : Name × Expr) → AllKnown d → Named f x.0 → is_no_constant d x.1 ≡ false → is_mistyped f (Valued (type_of f x.0)) x.1 ≡ false → has_wrong_exponent d.values x.1 ≡ false → AllKnown (with_definition d x)
  one_known d x known n c t w =
      let v : HasValue (type_of f x.0) (value_of d.values x.1) =
      constant_value f d.values (is_among d.names) known x.1 (type_of f x.0) t (not_false (is_constant d x.1) (or_left (not (is_constant d x.1)) _ c)) (or_right (not (is_constant d x.1)) _ c) w in
      let same : n.ty ≡ ty_of v.value = same_type n.ty (ty_of v.value) (subst (λ o. differs o (Some (ty_of v.value)) ≡ false) n.type_is v.fits) in
      told_known d x.0 (value_of d.values x.1) v.value v.is (n.type_is ∙ ap Some same) n.bare known

  all_known : (named : Told Value) (all : List (Name × Expr)) (d : Defined) → AllKnown d → Each (λ (x : Name × Expr). Named f x.0) all → lacks_values d all ≡ false → list_any (definition_breaks f named Types) all ≡ false → definitions_overreach d.values all ≡ false → AllKnown (fold with_definition d all)
  all_known named [] d known n c t w = known
  all_known named (x ∷ all) d known n c t w =
      all_known named all (with_definition d x)
      (one_known d x known n.0 (or_left (is_no_constant d x.1) _ c) (or_left (definition_breaks f named Types x) _ t) (or_left (has_wrong_exponent d.values x.1) _ w))
      n.1 (or_right (is_no_constant d x.1) _ c) (or_right (definition_breaks f named Types x) _ t) (or_right (has_wrong_exponent d.values x.1) _ w)

  -- ---- statements, one by one

  -- what is asked of the definitions of a statement, behind what stands before it
  pub record DefinitionsChecked (d : Defined) (all : List (Name × Expr)) : Type 0 where
    pub named : Each (λ (x : Name × Expr). Named f x.0) all
    pub lacks : lacks_values d all ≡ false
    pub types : list_any (definition_breaks f f.constants Types) all ≡ false
    pub exponents : definitions_overreach d.values all ≡ false

  module _ (ss : List Stmt) where
    -- what is defined before statement k
    abbrev pub before_statement : ℕ → Defined
    before_statement k = fold with_statement nothing (take k ss)

    next_defined : (k : ℕ) (s : Stmt) → slice_get ss k ≡ Some s → before_statement (suc k) ≡ fold with_definition (before_statement k) (definitions_in (out-Form s.form))
    next_defined k s e = ap (fold with_statement nothing) (take_next ss k s e) ∙ (fold-append with_statement nothing (take k ss) (s ∷ []) ∙ by_form (before_statement k) (out-Form s.form))

    -- The values are those of the named constants.
    pub values_are : (k : ℕ) → (before_statement k).values ≡ constants (take k ss)
    values_are zero = refl
    values_are (suc k) = go (slice_get ss k) refl (values_are k)
      where
        go : (o : Option Stmt) → slice_get ss k ≡ o → (before_statement k).values ≡ constants (take k ss) → (before_statement (suc k)).values ≡ constants (take (suc k) ss)
        go None e h = ap (λ sts. (fold with_statement nothing sts).values) (take_past ss k e) ∙ (h ∙ sym (ap constants (take_past ss k e)))
        go (Some s) e h =
            let all : List (Name × Expr) = definitions_in (out-Form s.form) in
            ap (λ (d : Defined). d.values) (next_defined k s e) ∙ (values_after all (before_statement k) ∙ (ap (λ named. fold with_constant named all) h ∙ sym (next_constants ss k s e)))

    -- What a statement defines is among what is defined behind it.
    pub defined_behind : (name : Name) (k : ℕ) (s : Stmt) → slice_get ss k ≡ Some s → list_any (defines name) (definitions_in (out-Form s.form)) ≡ true → is_among (before_statement (suc k)).names name ≡ true
    defined_behind name k s e h = ap (λ (d : Defined). is_among d.names name) (next_defined k s e) ∙ comes_defined (definitions_in (out-Form s.form)) (before_statement k) name h

    pub constants_known : ((k : ℕ) (s : Stmt) → slice_get ss k ≡ Some s → DefinitionsChecked (before_statement k) (definitions_in (out-Form s.form))) → (k : ℕ) (name : Name) → is_among (before_statement k).names name ≡ true → ConstantKnown f (before_statement k).values name
    constants_known checked zero = λ name h. cc
    constants_known checked (suc k) = go (slice_get ss k) refl (constants_known checked k)
      where
        go : (o : Option Stmt) → slice_get ss k ≡ o → AllKnown (before_statement k) → AllKnown (before_statement (suc k))
        go None e h = subst (λ sts. AllKnown (fold with_statement nothing sts)) (sym (take_past ss k e)) h
        go (Some s) e h =
            let all : List (Name × Expr) = definitions_in (out-Form s.form) in
            let c : DefinitionsChecked (before_statement k) all = checked k s e in
            subst AllKnown (sym (next_defined k s e)) (all_known f.constants all (before_statement k) h c.named c.lacks c.types c.exponents)
