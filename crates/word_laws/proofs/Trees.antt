-- What trees whose integers have 64 bits are looked up to has such literals.
use Rattle.std.proofs.Common.{◌≡◌, ℕ, zero, suc, ◌+◌, List, [], ◌∷◌, Option, Some, None, Bool, true, false, ◌&&◌, refl, sym, ◌∙◌, subst, map, slice_get, length, if◌then◌else◌}
use Rattle.std.specs.List.{AllByRecursion, list_all}
use Rattle.f77_tree.specs.declared.expr.Expr.{Expr, roll-Expr, ind-Expr, fold-roll-Expr}
use Rattle.f77_tree.specs.declared.expr.Expr.TheFolds.{map-Expr}
use Rattle.f77_tree.specs.declared.expr.Expr.TheOpen.{Expr-F}
use Rattle.f77_tree.specs.declared.form.Form.{Form, out-Form}
use Rattle.f77_tree.specs.declared.form.Form.TheOpen.{Form-F}
use Rattle.f77_tree.specs.declared.unit.Stmt.{Stmt}
use Rattle.f77_tree.specs.declared.unit.Unit.{Unit as SourceUnit}
use Rattle.f77_tree.specs.declared.unit.Value.{Value}
use Rattle.f77_names.specs.declared.declarations.Shape.{Shape}
use Rattle.f77_names.specs.declared.facts.Facts.{Facts}
use Rattle.f77_names.specs.declared.intrinsics.Intrinsic.{Intrinsic}
use Rattle.f77_names.specs.declared.roles.Role.{Role}
use Rattle.f77_names.specs.declared.roles.Role.TheVariants as role
use Rattle.f77_names.specs.Intrinsics.{intrinsic_of}
use Rattle.f77_names.specs.Occurrences.{in_statement}
use Rattle.f77_names.specs.Roles as roles
use Rattle.f77_values.specs.Tables.{Name, is_among, what}
use Rattle.f77_values.specs.Sizes.{Bounds}
use Rattle.f77_store.specs.declared.storage.Slot.{Slot}
use Rattle.f77_store.specs.Layouts.{callees_with, layout_of}
use Rattle.f77_flow.specs.Labels.{target}
use Rattle.f77_semantics.specs.Program as program
use Rattle.f77_semantics.specs.Program.{Term, Terms, Statement, DummyArray}
use Rattle.f77_semantics.specs.Terms.{Meant, Constant, Variable, AnArray, Function, AnIntrinsic, Unknown, intrinsic_meant, meant_as, Resolved, term_from, terms_of, bare, applied, step, resolved}
use Rattle.f77_semantics.specs.Resolve.{loop, term, terms, sites, optional, simple, statement_of, statements_from}
use Rattle.f77_semantics.specs.Source.{slot_named, meant_in, bound_of, dummy_array, dummy_arrays_from, is_main, routine}
use Rattle.f77_semantics.proofs.Trees.{layer}
use Rattle.word_laws.specs.Literals.{literal_step, has_word64, optional_has_word64, bound_has_word64, simple_has_word64, form_has_word64, unit_has_word64}
use Rattle.run_inputs.proofs.Decided.{word}
use Rattle.word_laws.proofs.Terms.{Has, TermHas, TermsHave, nought}
use Rattle.word_laws.proofs.Turns.{OptionalHas, StatementHas, BoundHas, ArrayHas, RoutineHas}
use Rattle.word_laws.proofs.Constants.{both, all_append, all_map, Each, MayBe, what_told, HasAll, constants_fit, ShapeFits, shapes_fit, initial_fits}

-- ---- names

abbrev MeantIs : Meant → Type 0
MeantIs (Constant v) = Has v
MeantIs _ = Unit {0}

abbrev RoleIs : Role → Type 0
RoleIs (role.Constant v) = Has v
RoleIs (role.Array bounds) = list_all bound_has_word64 bounds ≡ true
RoleIs _ = Unit {0}

constant_is : (o : Option Value) → MayBe Has o → Has (roles.constant_of o)
constant_is None h = nought
constant_is (Some v) h = h

bounds_are : (o : Option Shape) → MayBe ShapeFits o → list_all bound_has_word64 (roles.bounds_of o) ≡ true
bounds_are None h = refl
bounds_are (Some s) h = h

module _ (f : Facts) (known : Each Has f.constants) (shaped : Each ShapeFits f.shapes) where
  role_is : (name : Name) → RoleIs (roles.role f name)
  role_is name = go (is_among f.attributes.arrays name) (is_among f.attributes.constants name) (roles.is_intrinsic f.attributes name) (roles.is_function f.attributes name) (is_among f.attributes.called name) (is_among f.attributes.external name)
    where
      go : (a b c d e g : Bool) → RoleIs (if a then role.Array (roles.bounds_of (what f.shapes name)) else (if b then role.Constant (roles.constant_of (what f.constants name)) else (if c then role.Intrinsic else (if d then role.Function else (if e then role.Subroutine else (if g then role.Procedure else role.Scalar))))))
      go true b c d e g = bounds_are (what f.shapes name) (what_told ShapeFits f.shapes shaped name)
      go false true c d e g = constant_is (what f.constants name) (what_told Has f.constants known name)
      go false false true d e g = tt
      go false false false true e g = tt
      go false false false false true g = tt
      go false false false false false true = tt
      go false false false false false false = tt

  meant_is : (slots : List Slot) (name : Name) → MeantIs (meant_in f slots name)
  meant_is slots name = go (roles.role f name) (slot_named slots name) (role_is name)
    where
      intrinsic_is : (o : Option Intrinsic) → MeantIs (intrinsic_meant o)
      intrinsic_is None = tt
      intrinsic_is (Some i) = tt

      go : (r : Role) (o : Option Slot) → RoleIs r → MeantIs (meant_as f.constants name r o)
      go (role.Constant v) o h = h
      go role.Intrinsic o h = intrinsic_is (intrinsic_of name)
      go role.Function o h = tt
      go (role.Array bounds) (Some s) h = tt
      go (role.Array bounds) None h = tt
      go role.Scalar (Some s) h = tt
      go role.Scalar None h = tt
      go role.Subroutine o h = tt
      go role.Procedure o h = tt

-- ---- expressions

module _ (meant : Name → Meant) (means : (name : Name) → MeantIs (meant name)) where
  bare_has : (m : Meant) → MeantIs m → TermHas (bare m)
  bare_has (Constant v) h = h
  bare_has (Variable ty b) h = tt
  bare_has (AnArray ty a) h = tt
  bare_has Function h = tt
  bare_has (AnIntrinsic i) h = tt
  bare_has Unknown h = tt

  abbrev Fits : Expr → Type 0
  Fits e = has_word64 e ≡ true → (s : ℕ) → TermHas (term_from s (resolved meant e))

  abbrev Fitting : Type 0
  Fitting = (e : Expr) × Fits e

  list_fits : (es : List Fitting) → list_all (λ b. b) (map has_word64 (map (λ e. e.0) es)) ≡ true → (s : ℕ) → TermsHave (terms_of (map (resolved meant) (map (λ e. e.0) es)) s)
  list_fits [] h s = tt
  list_fits (e ∷ es) h s = let b = both (has_word64 e.0) _ h in (e.1 b.0 s, list_fits es b.1 _)

  applied_fits : (m : Meant) (rs : List Resolved) → ((s : ℕ) → TermsHave (terms_of rs s)) → (s : ℕ) → TermHas (term_from s (applied m rs))
  applied_fits (AnArray ty a) rs h s = h s
  applied_fits (AnIntrinsic i) rs h s = h s
  applied_fits Function rs h s = h (suc s)
  applied_fits (Constant v) rs h s = tt
  applied_fits (Variable ty b) rs h s = tt
  applied_fits Unknown rs h s = tt

  here : (y : Expr-F Fitting) → literal_step (map-Expr Expr Bool has_word64 (map-Expr Fitting Expr (λ e. e.0) y)) ≡ true → (s : ℕ) → TermHas (term_from s (step meant (map-Expr Expr Resolved (resolved meant) (map-Expr Fitting Expr (λ e. e.0) y))))
  here (Expr-F.Int n) h s = word n h
  here (Expr-F.Truth b) h s = tt
  here (Expr-F.Text bytes) h s = tt
  here (Expr-F.Scalar name) h s = bare_has (meant name) (means name)
  here (Expr-F.Apply name es) h s = applied_fits (meant name) (map (resolved meant) (map (λ e. e.0) es)) (list_fits es h) s
  here (Expr-F.Paren e) h s = e.1 h s
  here (Expr-F.Neg e) h s = e.1 h s
  here (Expr-F.Plus e) h s = e.1 h s
  here (Expr-F.Not e) h s = e.1 h s
  here (Expr-F.Binary op a b) h s = let k = both (has_word64 a.0) (has_word64 b.0) h in (a.1 k.0 s, b.1 k.1 _)

  at_layer : (y : Expr-F Fitting) → Fits (roll-Expr (map-Expr Fitting Expr (λ e. e.0) y))
  at_layer y h s =
      let x : Expr-F Expr = map-Expr Fitting Expr (λ e. e.0) y in
      subst (λ r. TermHas (term_from s r)) (sym (layer meant x)) (here y (sym (fold-roll-Expr Bool literal_step x) ∙ h) s)

  term_fits : (e : Expr) → has_word64 e ≡ true → (s : ℕ) → TermHas (term meant e s)
  term_fits = ind-Expr Fits (λ x y is. subst (λ x. Fits (roll-Expr x)) is (at_layer y))

  terms_fit : (es : List Expr) → list_all has_word64 es ≡ true → (s : ℕ) → TermsHave (terms meant es s)
  terms_fit [] h s = tt
  terms_fit (e ∷ es) h s = let b = both (has_word64 e) (list_all has_word64 es) h in (term_fits e b.0 s, terms_fit es b.1 _)

  optional_fits : (o : Option Expr) → optional_has_word64 o ≡ true → (s : ℕ) → OptionalHas (optional meant o s)
  optional_fits None h s = tt
  optional_fits (Some e) h s = term_fits e h s

  bounds_fit : (bs : Bounds) → list_all bound_has_word64 bs ≡ true → AllByRecursion BoundHas (map (bound_of meant) bs)
  bounds_fit bs h = all_map BoundHas bound_has_word64 (bound_of meant) (λ b e. let k = both (optional_has_word64 b.0) (optional_has_word64 b.1) e in (optional_fits b.0 k.0 1, optional_fits b.1 k.1 1)) bs h

  -- ---- statements

  module _ (main : Bool) where
    simple_fits : (to : ℕ → ℕ) (s : ℕ) (form : Form-F Form) → simple_has_word64 form ≡ true → StatementHas (simple meant main to s form)
    simple_fits to s (Form-F.Assign t e) h = let k = both (has_word64 t) (has_word64 e) h in (term_fits t k.0 s, term_fits e k.1 _)
    simple_fits to s (Form-F.ArithmeticIf e a b c) h = term_fits e h s
    simple_fits to s (Form-F.ComputedGoTo labels e) h = term_fits e h s
    simple_fits to s (Form-F.Call name es) h = terms_fit es h (suc s)
    simple_fits to s (Form-F.Print es) h = terms_fit es h s
    simple_fits to s (Form-F.Read es) h = terms_fit es h s
    simple_fits to s Form-F.End h = go main
      where
        go : (b : Bool) → StatementHas (if b then program.Stop else program.Return)
        go true = tt
        go false = tt
    simple_fits to s form h = tt

    loop_fits : (m : Meant) (a b : Term) (c : Option Term) → TermHas a → TermHas b → OptionalHas c → StatementHas (loop m a b c)
    loop_fits (Variable ty base) a b c p q r = (p, q, r)
    loop_fits m a b c p q r = tt

    statement_fits : (all : List Stmt) (k s : ℕ) (form : Form-F Form) → form_has_word64 form ≡ true → StatementHas (statement_of meant main all k s form)
    statement_fits all k s (Form-F.BlockIf e) h = term_fits e h s
    statement_fits all k s (Form-F.ElseIf e) h = term_fits e h s
    statement_fits all k s (Form-F.LogicalIf e i) h = let b = both (has_word64 e) (simple_has_word64 (out-Form i)) h in (term_fits e b.0 s, simple_fits (target all) (s + sites meant e) (out-Form i) b.1)
    statement_fits all k s (Form-F.Do label name a b c) h =
        let p = both (has_word64 a) (has_word64 b && optional_has_word64 c) h in
        let q = both (has_word64 b) (optional_has_word64 c) p.1 in
        loop_fits (meant name) (term meant a s) (term meant b (s + sites meant a)) (optional meant c (s + (sites meant a + sites meant b))) (term_fits a p.0 s) (term_fits b q.0 _) (optional_fits c q.1 _)
    statement_fits all k s Form-F.EndIf h = tt
    statement_fits all k s form h = simple_fits (target all) s form h

    statements_fit : (facts : Facts) (all : List Stmt) (k s : ℕ) (sts : List Stmt) → HasAll sts → (j : ℕ) → StatementHas (elim (slice_get (statements_from meant facts main all k s sts) j) [ None ↦ program.NoStatement | Some t ↦ t ])
    statements_fit facts all k s [] h j = tt
    statements_fit facts all k s (st ∷ sts) h zero = statement_fits all k s (out-Form st.form) (both (form_has_word64 (out-Form st.form)) _ h).0
    statements_fit facts all k s (st ∷ sts) h (suc j) = statements_fit facts all (suc k) (s + length (callees_with facts (in_statement st))) sts (both (form_has_word64 (out-Form st.form)) _ h).1 j

-- ---- units

arrays_fit : (f : Facts) (known : Each Has f.constants) (shaped : Each ShapeFits f.shapes) (meant : Name → Meant) (means : (name : Name) → MeantIs (meant name)) (k : ℕ) (names : List Name) → AllByRecursion ArrayHas (dummy_arrays_from f meant k names)
arrays_fit f known shaped meant means k [] = tt
arrays_fit f known shaped meant means k (name ∷ names) = all_append ArrayHas (dummy_array meant k (roles.role f name)) (dummy_arrays_from f meant (suc k) names) (go (roles.role f name) (role_is f known shaped name)) (arrays_fit f known shaped meant means (suc k) names)
  where
    go : (r : Role) → RoleIs r → AllByRecursion ArrayHas (dummy_array meant k r)
    go (role.Array bounds) h = (bounds_fit meant means bounds h, tt)
    go role.Scalar h = tt
    go (role.Constant v) h = tt
    go role.Intrinsic h = tt
    go role.Function h = tt
    go role.Subroutine h = tt
    go role.Procedure h = tt

pub routine_fits : (u : SourceUnit) → unit_has_word64 u ≡ true → RoutineHas (routine u)
routine_fits u h =
    let f : Facts = roles.facts u in
    let known : Each Has f.constants = constants_fit u.statements [] tt h in
    let shaped : Each ShapeFits f.shapes = shapes_fit u.statements h in
    let meant : Name → Meant = meant_in f (layout_of u).slots in
    let means : (name : Name) → MeantIs (meant name) = meant_is f known shaped (layout_of u).slots in
    record {
      statements = statements_fit meant means (is_main u.kind) f u.statements 0 1 u.statements h;
      arrays = arrays_fit f known shaped meant means 0 u.dummies;
      initial = initial_fits f.constants known meant u.statements h;
    }
