-- An expression that the program's check takes for an array, or for an element of one, resolves to such a term, and no other does to an array.
use Rattle.std.proofs.Common.{◌≡◌, ℕ, Bool, true, false, ◌||◌, Option, Some, None, List, map, refl, sym, ap, ◌∙◌, subst, ◌⊎◌, inl, inr, if◌then◌else◌}
use Rattle.f77_tree.specs.declared.expr.Expr.{Expr, out-Expr, roll-Expr, ind-Expr, out-roll-Expr}
use Rattle.f77_tree.specs.declared.expr.Expr.TheFolds.{map-Expr}
use Rattle.f77_tree.specs.declared.expr.Expr.TheOpen.{Expr-F}
use Rattle.f77_tree.specs.declared.unit.Unit.{Unit as SourceUnit}
use Rattle.f77_tree.specs.declared.unit.Value.{Value}
use Rattle.f77_names.specs.declared.facts.Facts.{Facts}
use Rattle.f77_names.specs.declared.roles.Role.{Role}
use Rattle.f77_names.specs.declared.roles.Role.TheVariants as roles
use Rattle.f77_names.specs.Roles.{facts, bounds_of, constant_of, is_intrinsic, is_function, role}
use Rattle.f77_store.specs.declared.storage.Slot.{Slot}
use Rattle.f77_store.specs.Layouts.{slots, is_array as is_array_role}
use Rattle.f77_values.specs.Tables.{Name, Told, is_among, what}
use Rattle.f77_semantics.specs.Program.{Term, NoTerm}
use Rattle.f77_semantics.specs.Terms.{Meant, Constant, Variable, AnArray, Function, AnIntrinsic, Unknown, intrinsic_meant, meant_as, Resolved, term_from, bare, applied, step, resolved}
use Rattle.f77_semantics.specs.Source.{slot_named}
use Rattle.f77_semantics.proofs.Trees.{layer}
use Rattle.prog_texts.specs.Mentions as said
use Rattle.sound_units.specs.Units.{meant_of}
use Rattle.actual_laws.specs.Fits.{is_whole, is_part}

-- ---- names

abbrev whole_of : Meant → Bool
whole_of (AnArray ty a) = true
whole_of _ = false

not_by_role : (c : Told Value) (name : Name) (r : Role) (o : Option Slot) → is_array_role r ≡ false → whole_of (meant_as c name r o) ≡ false
not_by_role c name (roles.Array b) o h = cc
not_by_role c name (roles.Constant v) o h = refl
not_by_role c name roles.Intrinsic o h = go _
  where
    go : (i : _) → whole_of (intrinsic_meant i) ≡ false
    go None = refl
    go (Some i) = refl
not_by_role c name roles.Function o h = refl
not_by_role c name roles.Scalar (Some s) h = refl
not_by_role c name roles.Scalar None h = refl
not_by_role c name roles.Subroutine o h = refl
not_by_role c name roles.Procedure o h = refl

others : (constant intrinsic function called external : Bool) (v : Value)
    → is_array_role (if constant then roles.Constant v
    else (if intrinsic then roles.Intrinsic
    else (if function then roles.Function
    else (if called then roles.Subroutine
    else (if external then roles.Procedure
    else roles.Scalar))))) ≡ false
others true i f d x v = refl
others false true f d x v = refl
others false false true d x v = refl
others false false false true x v = refl
others false false false false true v = refl
others false false false false false v = refl

module _ (u : SourceUnit) where
  abbrev f : Facts
  f = facts u

  abbrev meant : Name → Meant
  meant = meant_of u

  abbrev others_of : Name → Role
  others_of name =
      if is_among f.attributes.constants name then roles.Constant (constant_of (what f.constants name))
      else (if is_intrinsic f.attributes name then roles.Intrinsic
      else (if is_function f.attributes name then roles.Function
      else (if is_among f.attributes.called name then roles.Subroutine
      else (if is_among f.attributes.external name then roles.Procedure
      else roles.Scalar))))

  -- What is no array stands for none.
  no_array : (name : Name) → is_among f.attributes.arrays name ≡ false → whole_of (meant name) ≡ false
  no_array name h =
      not_by_role f.constants name (role f name) (slot_named (slots u) name)
      (ap (λ b. is_array_role (if b then roles.Array (bounds_of (what f.shapes name)) else others_of name)) h ∙ others (is_among f.attributes.constants name) (is_intrinsic f.attributes name) (is_function f.attributes name) (is_among f.attributes.called name) (is_among f.attributes.external name) (constant_of (what f.constants name)))

  an_array : (name : Name) → is_among f.attributes.arrays name ≡ true → (whole_of (meant name) ≡ true) ⊎ (meant name ≡ Unknown)
  an_array name h =
      subst (λ r. (whole_of (meant_as f.constants name r (slot_named (slots u) name)) ≡ true) ⊎ (meant_as f.constants name r (slot_named (slots u) name) ≡ Unknown)) (sym (ap (λ b. if b then roles.Array (bounds_of (what f.shapes name)) else others_of name) h)) (go (slot_named (slots u) name))
    where
      go : (o : Option Slot) → (whole_of (meant_as f.constants name (roles.Array (bounds_of (what f.shapes name))) o) ≡ true) ⊎ (meant_as f.constants name (roles.Array (bounds_of (what f.shapes name))) o ≡ Unknown)
      go None = inr refl
      go (Some s) = inl refl

  -- ---- terms

  bare_whole : (m : Meant) → whole_of m ≡ false → is_whole (bare m) ≡ false
  bare_whole (AnArray ty a) h = cc
  bare_whole (Constant v) h = refl
  bare_whole (Variable ty b) h = refl
  bare_whole Function h = refl
  bare_whole (AnIntrinsic i) h = refl
  bare_whole Unknown h = refl

  applied_whole : (m : Meant) (rs : List Resolved) (s : ℕ) → is_whole (term_from s (applied m rs)) ≡ false
  applied_whole (AnArray ty a) rs s = refl
  applied_whole (Constant v) rs s = refl
  applied_whole (Variable ty b) rs s = refl
  applied_whole Function rs s = refl
  applied_whole (AnIntrinsic i) rs s = refl
  applied_whole Unknown rs s = refl

  abbrev IsPart : Term → Type 0
  IsPart t = (is_part t ≡ true) ⊎ (t ≡ NoTerm)

  bare_part : (m : Meant) → (whole_of m ≡ true) ⊎ (m ≡ Unknown) → IsPart (bare m)
  bare_part m (inr e) = inr (ap bare e)
  bare_part (AnArray ty a) (inl h) = inl refl
  bare_part (Constant v) (inl h) = cc
  bare_part (Variable ty b) (inl h) = cc
  bare_part Function (inl h) = cc
  bare_part (AnIntrinsic i) (inl h) = cc
  bare_part Unknown (inl h) = cc

  applied_part : (m : Meant) (rs : List Resolved) (s : ℕ) → (whole_of m ≡ true) ⊎ (m ≡ Unknown) → IsPart (term_from s (applied m rs))
  applied_part m rs s (inr e) = inr (ap (λ m. term_from s (applied m rs)) e)
  applied_part (AnArray ty a) rs s (inl h) = inl refl
  applied_part (Constant v) rs s (inl h) = cc
  applied_part (Variable ty b) rs s (inl h) = cc
  applied_part Function rs s (inl h) = cc
  applied_part (AnIntrinsic i) rs s (inl h) = cc
  applied_part Unknown rs s (inl h) = cc

  abbrev Shaped : Expr → Type 0
  Shaped e = (s : ℕ) → (said.is_array f (out-Expr e) ≡ false → is_whole (term_from s (resolved meant e)) ≡ false) × ((said.is_array f (out-Expr e) || said.is_element f (out-Expr e)) ≡ true → IsPart (term_from s (resolved meant e)))

  abbrev at_step : Expr-F Expr → ℕ → Term
  at_step x s = term_from s (step meant (map-Expr Expr Resolved (resolved meant) x))

  here : (x : Expr-F Expr) (s : ℕ) → (said.is_array f x ≡ false → is_whole (at_step x s) ≡ false) × ((said.is_array f x || said.is_element f x) ≡ true → IsPart (at_step x s))
  here (Expr-F.Int n) s = (λ h. refl, λ h. cc)
  here (Expr-F.Truth b) s = (λ h. refl, λ h. cc)
  here (Expr-F.Text bytes) s = (λ h. refl, λ h. cc)
  here (Expr-F.Scalar name) s = (λ h. bare_whole (meant name) (no_array name h), λ h. bare_part (meant name) (an_array name (first (is_among f.attributes.arrays name) h)))
    where
      first : (b : Bool) → (b || false) ≡ true → b ≡ true
      first true h = refl
      first false h = h
  here (Expr-F.Apply name es) s = (λ h. applied_whole (meant name) (map (resolved meant) es) s, λ h. applied_part (meant name) (map (resolved meant) es) s (an_array name h))
  here (Expr-F.Paren e) s = (λ h. refl, λ h. cc)
  here (Expr-F.Neg e) s = (λ h. refl, λ h. cc)
  here (Expr-F.Plus e) s = (λ h. refl, λ h. cc)
  here (Expr-F.Not e) s = (λ h. refl, λ h. cc)
  here (Expr-F.Binary op a b) s = (λ h. refl, λ h. cc)

  at_layer : (x : Expr-F Expr) → Shaped (roll-Expr x)
  at_layer x s =
      subst (λ y. (said.is_array f y ≡ false → is_whole (term_from s (resolved meant (roll-Expr x))) ≡ false) × ((said.is_array f y || said.is_element f y) ≡ true → IsPart (term_from s (resolved meant (roll-Expr x))))) (sym (out-roll-Expr x))
      (subst (λ (r : Resolved). (said.is_array f x ≡ false → is_whole (term_from s r) ≡ false) × ((said.is_array f x || said.is_element f x) ≡ true → IsPart (term_from s r))) (sym (layer meant x)) (here x s))

  pub shaped : (e : Expr) (s : ℕ) → (said.is_array (facts u) (out-Expr e) ≡ false → is_whole (term_from s (resolved (meant_of u) e)) ≡ false)
      × ((said.is_array (facts u) (out-Expr e) || said.is_element (facts u) (out-Expr e)) ≡ true → (is_part (term_from s (resolved (meant_of u) e)) ≡ true) ⊎ (term_from s (resolved (meant_of u) e) ≡ NoTerm))
  shaped = ind-Expr Shaped (λ x y is. at_layer x)
