-- In a unit that passed its checks the bounds of dummy arrays are terms with numbers, and so all its names fit.
use Rattle.std.proofs.Common.{◌≡◌, ℕ, suc, ◌+◌, ◌==◌, Bool, true, false, ◌||◌, Option, Some, None, List, [], ◌∷◌, ◌++◌, length, map, flat_map, take, slice_get, refl, sym, ap, ◌∙◌, subst}
use Rattle.std.specs.List.{list_any}
use Rattle.std.proofs.lemmas.Grind.{flat_map-append}
use Rattle.f77_tree.specs.declared.expr.Expr.{Expr, roll-Expr, ind-Expr, fold-roll-Expr}
use Rattle.f77_tree.specs.declared.expr.Expr.TheFolds.{map-Expr}
use Rattle.f77_tree.specs.declared.expr.Expr.TheOpen.{Expr-F}
use Rattle.f77_tree.specs.declared.form.Declarator.{Declarator}
use Rattle.f77_tree.specs.declared.form.Form.{Form, out-Form}
use Rattle.f77_tree.specs.declared.form.Form.TheFolds.{map-Form}
use Rattle.f77_tree.specs.declared.form.Form.TheOpen.{Form-F}
use Rattle.f77_tree.specs.declared.unit.Stmt.{Stmt}
use Rattle.f77_tree.specs.declared.unit.Ty.TheVariants as types
use Rattle.f77_tree.specs.declared.unit.Unit.{Unit as SourceUnit}
use Rattle.f77_tree.specs.declared.unit.Value.{Value}
use Rattle.f77_names.specs.declared.attributes.Attributes.{Attributes}
use Rattle.f77_names.specs.declared.declarations.Shape.{Shape}
use Rattle.f77_names.specs.declared.occurrences.Occurrence.{Occurrence}
use Rattle.f77_names.specs.declared.facts.Facts.{Facts}
use Rattle.f77_values.specs.Constants.{constants}
use Rattle.f77_store.specs.Layouts.{callee, callees, callees_with}
use Rattle.f77_values.specs.Tables.{Name, name_eq, is_among, Told, what}
use Rattle.f77_names.specs.Occurrences as occurring
use Rattle.f77_names.specs.Occurrences.{Occurrences, expr_step, in_expr, in_optional, in_bound, in_declarator, in_block}
use Rattle.f77_names.specs.Roles.{facts, bounds_of, is_function, is_intrinsic, role as role_of}
use Rattle.f77_values.specs.Sizes.{Bounds}
use Rattle.check_types.specs.declared.breaks.Rule.TheVariants.{Types, Scalars, Exponents}
use Rattle.check_types.specs.declared.places.Place.TheVariants.{Value as Valued}
use Rattle.check_types.specs.Breaks.{optional_breaks, bound_breaks, declarator_breaks, form_step}
use Rattle.check_types.specs.Exponents.{has_wrong_exponent}
use Rattle.check_types.specs.Scalars.{is_misplaced}
use Rattle.check_types.specs.WrongTypes.{integers, is_mistyped}
use Rattle.check_constants.specs.declared.defined.Defined.{Defined}
use Rattle.check_constants.specs.Expressions.{parts_step, is_made_of}
use Rattle.check_constants.specs.Needed.{is_known, lower_lacks, upper_lacks, bound_lacks, bounds_lack, declarator_lacks}
use Rattle.check_constants.specs.Faults.{in_commons}
use Rattle.f77_semantics.specs.Program.{DummyArray}
use Rattle.f77_semantics.specs.Terms as names
use Rattle.f77_semantics.specs.Terms.{Meant, Resolved, bare, step, resolved, sites_in, term_from}
use Rattle.f77_semantics.specs.Resolve.{optional}
use Rattle.f77_semantics.specs.Effects.{Effects, TermOk, StepOk, BoundOk, BoundsOk, EntryOk}
use Rattle.f77_semantics.specs.Source.{bound_of, dummy_array, dummy_arrays_from, routine}
use Rattle.f77_semantics.proofs.Trees.{layer}
use Rattle.f77_check.specs.UnitFaults.{IsSound}
use Rattle.prog_texts.specs.declared.mentions.Mention.{Mention}
use Rattle.prog_texts.specs.Mentions as said
use Rattle.sound_units.specs.Sites.{Each, Part, calls}
use Rattle.sound_units.specs.Texts.{text_step, has_text}
use Rattle.sound_units.specs.Checked.{passing, Checked, NameFits}
use Rattle.sound_units.specs.Units.{meant_of, passed, effects}
use Rattle.sound_units.specs.Accepted.{IsTextOf, PassesNoProcedure}
use Rattle.sound_units.specs.Laws.{NamesStand}
use Rattle.sound_units.proofs.Clearing.{not_typed, not_scalar, not_overreaching, not_lacking}
use Rattle.sound_units.proofs.Excluding.{functions_agree, role_by}
use Rattle.sound_units.proofs.Fitting.{declared_lacks, declared_breaks, declared_exponents, dummies_are, each_fits, known_values, result_stands, said_nothing}
use Rattle.sound_units.proofs.Forms.{all_used, all_assigned, site_fits}
use Rattle.sound_units.proofs.Lists.{or_left, or_right, both_true, not_false, any-append, each_left, each_right}
use Rattle.sound_units.proofs.Opening.{opens}
use Rattle.sound_units.proofs.Parameters.{before_statement}
use Rattle.sound_units.proofs.Shaping.{declarators_in, Tells, shape_is}
use Rattle.sound_units.proofs.Tables.{each_of, each_both, any_here, name_self}
use Rattle.sound_units.proofs.Terms.{as_typed, Fit, term_fits}

-- ---- what is made of names and operators has no lists

module _ (f : Facts) (meant : Name → Meant) (allowed : Name → Bool) where
  record Made (e : Expr) : Type 0 where
    text : has_text e ≡ false
    called : callees_with f (in_expr e) ≡ []
    passes : (s : ℕ) → calls (term_from s (resolved meant e)) ≡ []

  record LayerMade (x : Expr-F Expr) : Type 0 where
    text : text_step (map-Expr Expr Bool has_text x) ≡ false
    called : callees_with f (expr_step (map-Expr Expr Occurrences in_expr x)) ≡ []
    passes : (s : ℕ) → calls (term_from s (step meant (map-Expr Expr Resolved (resolved meant) x))) ≡ []

  abbrev IsMade : Expr → Type 0
  IsMade e = is_made_of allowed e ≡ true → Made e

  abbrev Both : Type 0
  Both = (e : Expr) × IsMade e

  bare_calls : (m : Meant) → calls (bare m) ≡ []
  bare_calls (names.Constant v) = refl
  bare_calls (names.Variable ty b) = refl
  bare_calls (names.AnArray ty a) = refl
  bare_calls m = refl

  here : (y : Expr-F Both) → parts_step allowed (map-Expr Expr Bool (is_made_of allowed) (map-Expr Both Expr (λ e. e.0) y)) ≡ true → LayerMade (map-Expr Both Expr (λ e. e.0) y)
  here (Expr-F.Int n) h = record { text = refl; called = refl; passes = λ s. refl }
  here (Expr-F.Truth b) h = record { text = refl; called = refl; passes = λ s. refl }
  here (Expr-F.Text bytes) h = cc
  here (Expr-F.Scalar name) h = record { text = refl; called = refl; passes = λ s. bare_calls (meant name) }
  here (Expr-F.Apply name es) h = cc
  here (Expr-F.Paren e) h = let m : Made e.0 = e.1 h in record { text = m.text; called = m.called; passes = m.passes }
  here (Expr-F.Neg e) h = let m : Made e.0 = e.1 h in record { text = m.text; called = m.called; passes = m.passes }
  here (Expr-F.Plus e) h = let m : Made e.0 = e.1 h in record { text = m.text; called = m.called; passes = m.passes }
  here (Expr-F.Not e) h = let m : Made e.0 = e.1 h in record { text = m.text; called = m.called; passes = m.passes }
  here (Expr-F.Binary op a b) h =
      let t = both_true (is_made_of allowed a.0) (is_made_of allowed b.0) h in
      let m : Made a.0 = a.1 t.0 in
      let n : Made b.0 = b.1 t.1 in
      record {
        text = λ i. m.text i || n.text i;
        called = flat_map-append (callee f.attributes) (in_expr a.0) (in_expr b.0) ∙ (λ i. m.called i ++ n.called i);
        passes = λ s. λ i. m.passes s i ++ n.passes (s + sites_in (resolved meant a.0)) i;
      }

  at_layer : (y : Expr-F Both) → IsMade (roll-Expr (map-Expr Both Expr (λ e. e.0) y))
  at_layer y h =
      let x : Expr-F Expr = map-Expr Both Expr (λ e. e.0) y in
      let m : LayerMade x = here y (sym (fold-roll-Expr Bool (parts_step allowed) x) ∙ h) in
      record {
        text = fold-roll-Expr Bool text_step x ∙ m.text;
        called = ap (callees_with f) (fold-roll-Expr Occurrences expr_step x) ∙ m.called;
        passes = λ s. ap (λ r. calls (term_from s r)) (layer meant x) ∙ m.passes s;
      }

  made : (e : Expr) → IsMade e
  made = ind-Expr IsMade (λ x y is. subst (λ x. IsMade (roll-Expr x)) is (at_layer y))

-- ---- declarators

blocks_each : (P : Occurrence → Type 0) (blocks : List (Name × List Declarator)) → Each P (flat_map in_block blocks) → Each P (flat_map in_declarator (flat_map (λ (b : Name × List Declarator). b.1) blocks))
blocks_each P [] h = tt
blocks_each P (b ∷ blocks) h =
    subst (Each P) (sym (flat_map-append in_declarator b.1 (flat_map (λ (b : Name × List Declarator). b.1) blocks)))
    (each_both P (flat_map in_declarator b.1) (flat_map in_declarator (flat_map (λ (b : Name × List Declarator). b.1) blocks)) (each_left P (in_block b) (flat_map in_block blocks) h) (blocks_each P blocks (each_right P (in_block b) (flat_map in_block blocks) h)))

declared_each : (P : Occurrence → Type 0) (F : Form-F Form) → Each P (occurring.form_step (map-Form Form Occurrences occurring.in_form F)) → Each P (flat_map in_declarator (declarators_in F))
declared_each P (Form-F.Typed ty all) h = h
declared_each P (Form-F.Dimension all) h = h
declared_each P (Form-F.Common blocks) h = blocks_each P blocks h
declared_each P F h = tt

module _ (f : Facts) (line : ℕ) where
  blocks_pass : (blocks : List (Name × List Declarator)) → list_any passing (flat_map (said.in_block f line) blocks) ≡ false → list_any passing (flat_map (said.in_declarator f line) (flat_map (λ (b : Name × List Declarator). b.1) blocks)) ≡ false
  blocks_pass [] h = refl
  blocks_pass (b ∷ blocks) h =
      let rest : List Declarator = flat_map (λ (b : Name × List Declarator). b.1) blocks in
      let both : (list_any passing (said.in_block f line b) || list_any passing (flat_map (said.in_block f line) blocks)) ≡ false = sym (any-append passing (said.in_block f line b) (flat_map (said.in_block f line) blocks)) ∙ h in
      let one : list_any passing (flat_map (said.in_declarator f line) b.1) ≡ false = or_left (list_any passing (said.in_block f line b)) _ both in
      let more : list_any passing (flat_map (said.in_declarator f line) rest) ≡ false = blocks_pass blocks (or_right (list_any passing (said.in_block f line b)) _ both) in
      ap (list_any passing) (flat_map-append (said.in_declarator f line) b.1 rest) ∙ (any-append passing (flat_map (said.in_declarator f line) b.1) (flat_map (said.in_declarator f line) rest) ∙ (λ i. one i || more i))

  declared_pass : (F : Form-F Form) → list_any passing (said.form_step f line (map-Form Form (List Mention) (said.in_form f line) F)) ≡ false → list_any passing (flat_map (said.in_declarator f line) (declarators_in F)) ≡ false
  declared_pass (Form-F.Typed ty all) h = h
  declared_pass (Form-F.Dimension all) h = h
  declared_pass (Form-F.Common blocks) h = blocks_pass blocks h
  declared_pass F h = refl

module _ (u : SourceUnit) (sound : IsSound u) (text : IsTextOf u) (procedures : PassesNoProcedure u) where
  abbrev f : Facts
  f = facts u

  abbrev a : Attributes
  a = (facts u).attributes

  abbrev ss : List Stmt
  ss = u.statements

  abbrev meant : Name → Meant
  meant = meant_of u

  abbrev S : Effects
  S = effects u

  abbrev Fine : Occurrence → Type 0
  Fine o = NameFits f meant S o

  module _ (k line : ℕ) where
    abbrev d : Defined
    d = before_statement f ss k

    abbrev named : Told Value
    named = constants (take k ss)

    -- a bound that is made of constants and scalars
    number : (e : Expr) → is_made_of (is_known f (in_commons u) d.names) e ≡ true → is_mistyped f integers e ≡ false → is_misplaced f integers e ≡ false → has_wrong_exponent named e ≡ false → Each Fine (in_expr e) → list_any passing (said.in_expr f line e) ≡ false
        → TermOk S types.Integer (term_from 1 (resolved meant e))
    number e m t p w fine passes =
        let x : Made f meant (is_known f (in_commons u) d.names) e = made f meant (is_known f (in_commons u) d.names) e m in
        let checked : Checked f named line (Valued (Some types.Integer)) e = record { typed = t; placed = p; exponents = w; texts = x.text; procedures = passes; unpassed = tt } in
        let none_called : Part (callees u) 1 (callees_with f (in_expr e)) = subst (Part (callees u) 1) (sym x.called) (λ i y h. cc) in
        let none_passed : Part (passed u) 1 (calls (term_from 1 (resolved meant e))) = subst (Part (passed u) 1) (sym (x.passes 1)) (λ i y h. cc) in
        let fit : Fit f named line meant S (callees u) (passed u) (functions_agree u sound text) (known_values u sound text k) (all_used u) (all_assigned u) (site_fits u) (Valued (Some types.Integer)) 1 (resolved meant e) =
        term_fits f named line meant S (callees u) (passed u) (functions_agree u sound text) (known_values u sound text k) (all_used u) (all_assigned u) (site_fits u) e (Valued (Some types.Integer)) 1 tt checked
        (record { occurs = fine; called = none_called; passes = none_passed }) in
        as_typed S types.Integer (term_from 1 (resolved meant e)) fit.fits

    lower_ok : (e : Option Expr) → lower_lacks f (in_commons u) d true e ≡ false → optional_breaks f f.constants Types integers e ≡ false → optional_breaks f f.constants Scalars integers e ≡ false → optional_breaks f named Exponents integers e ≡ false → Each Fine (in_optional e) → list_any passing (said.in_optional f line e) ≡ false
        → StepOk S (optional meant e 1)
    lower_ok None c t p w fine passes = tt
    lower_ok (Some e) c t p w fine passes = number e (not_false (is_made_of (is_known f (in_commons u) d.names) e) c) t p w fine passes

    upper_ok : (last : Bool) (e : Option Expr) → upper_lacks f (in_commons u) d true last e ≡ false → optional_breaks f f.constants Types integers e ≡ false → optional_breaks f f.constants Scalars integers e ≡ false → optional_breaks f named Exponents integers e ≡ false → Each Fine (in_optional e) → list_any passing (said.in_optional f line e) ≡ false
        → StepOk S (optional meant e 1)
    upper_ok last None c t p w fine passes = tt
    upper_ok last (Some e) c t p w fine passes = number e (not_false (is_made_of (is_known f (in_commons u) d.names) e) c) t p w fine passes

    bound_ok : (last : Bool) (b : Option Expr × Option Expr) → bound_lacks f (in_commons u) d true last b ≡ false → bound_breaks f f.constants Types b ≡ false → bound_breaks f f.constants Scalars b ≡ false → bound_breaks f named Exponents b ≡ false → Each Fine (in_bound b) → list_any passing (said.in_bound f line b) ≡ false
        → BoundOk S (bound_of meant b)
    bound_ok last b c t p w fine passes =
        let says : (list_any passing (said.in_optional f line b.0) || list_any passing (said.in_optional f line b.1)) ≡ false = sym (any-append passing (said.in_optional f line b.0) (said.in_optional f line b.1)) ∙ passes in (
          lower_ok b.0 (or_left (lower_lacks f (in_commons u) d true b.0) _ c) (or_left (optional_breaks f f.constants Types integers b.0) _ t) (or_left (optional_breaks f f.constants Scalars integers b.0) _ p) (or_left (optional_breaks f named Exponents integers b.0) _ w)
              (each_left Fine (in_optional b.0) (in_optional b.1) fine) (or_left (list_any passing (said.in_optional f line b.0)) _ says),
          upper_ok last b.1 (or_left (upper_lacks f (in_commons u) d true last b.1) _ (or_right (lower_lacks f (in_commons u) d true b.0) _ c)) (or_right (optional_breaks f f.constants Types integers b.0) _ t) (or_right (optional_breaks f f.constants Scalars integers b.0) _ p) (or_right (optional_breaks f named Exponents integers b.0) _ w)
              (each_right Fine (in_optional b.0) (in_optional b.1) fine) (or_right (list_any passing (said.in_optional f line b.0)) _ says),
        )

    bounds_ok : (bounds : Bounds) → bounds_lack f (in_commons u) d true bounds ≡ false → list_any (bound_breaks f f.constants Types) bounds ≡ false → list_any (bound_breaks f f.constants Scalars) bounds ≡ false → list_any (bound_breaks f named Exponents) bounds ≡ false → Each Fine (flat_map in_bound bounds) → list_any passing (flat_map (said.in_bound f line) bounds) ≡ false
        → BoundsOk S (map (bound_of meant) bounds)
    bounds_ok [] c t p w fine passes = tt
    bounds_ok (b ∷ bounds) c t p w fine passes =
        let says : (list_any passing (said.in_bound f line b) || list_any passing (flat_map (said.in_bound f line) bounds)) ≡ false = sym (any-append passing (said.in_bound f line b) (flat_map (said.in_bound f line) bounds)) ∙ passes in
        let last : Bool = length bounds == 0 in (
          bound_ok last b (or_left (bound_lacks f (in_commons u) d true last b) _ c) (or_left (bound_breaks f f.constants Types b) _ t) (or_left (bound_breaks f f.constants Scalars b) _ p) (or_left (bound_breaks f named Exponents b) _ w)
              (each_left Fine (in_bound b) (flat_map in_bound bounds) fine) (or_left (list_any passing (said.in_bound f line b)) _ says),
          bounds_ok bounds (or_right (bound_lacks f (in_commons u) d true last b) _ c) (or_right (bound_breaks f f.constants Types b) _ t) (or_right (bound_breaks f f.constants Scalars b) _ p) (or_right (bound_breaks f named Exponents b) _ w)
              (each_right Fine (in_bound b) (flat_map in_bound bounds) fine) (or_right (list_any passing (said.in_bound f line b)) _ says),
        )

    abbrev Entered : Name × Shape → Type 0
    Entered p = is_among a.dummies p.0 ≡ true → BoundsOk S (map (bound_of meant) p.1.bounds)

    all_ok : (all : List Declarator) → list_any (declarator_lacks f (in_commons u) d) all ≡ false → list_any (declarator_breaks f f.constants Types) all ≡ false → list_any (declarator_breaks f f.constants Scalars) all ≡ false → list_any (declarator_breaks f named Exponents) all ≡ false → Each Fine (flat_map in_declarator all) → list_any passing (flat_map (said.in_declarator f line) all) ≡ false
        → Each (Tells Entered named) all
    all_ok [] c t p w fine passes = tt
    all_ok (x ∷ all) c t p w fine passes =
        let says : (list_any passing (said.in_declarator f line x) || list_any passing (flat_map (said.in_declarator f line) all)) ≡ false = sym (any-append passing (said.in_declarator f line x) (flat_map (said.in_declarator f line) all)) ∙ passes in
        let own : Each Fine (in_declarator x) = each_left Fine (in_declarator x) (flat_map in_declarator all) fine in (
          λ some dummy. bounds_ok x.bounds (subst (λ b. bounds_lack f (in_commons u) d b x.bounds ≡ false) dummy (or_left (declarator_lacks f (in_commons u) d x) _ c)) (or_left (declarator_breaks f f.constants Types x) _ t) (or_left (declarator_breaks f f.constants Scalars x) _ p) (or_left (declarator_breaks f named Exponents x) _ w)
              own.1 (or_left (list_any passing (said.in_declarator f line x)) _ says),
          all_ok all (or_right (declarator_lacks f (in_commons u) d x) _ c) (or_right (declarator_breaks f f.constants Types x) _ t) (or_right (declarator_breaks f f.constants Scalars x) _ p) (or_right (declarator_breaks f named Exponents x) _ w)
              (each_right Fine (in_declarator x) (flat_map in_declarator all) fine) (or_right (list_any passing (said.in_declarator f line x)) _ says),
        )

  abbrev EnteredAs : Name × Shape → Type 0
  EnteredAs p = is_among a.dummies p.0 ≡ true → BoundsOk S (map (bound_of meant) p.1.bounds)

  stated : (k : ℕ) (s : Stmt) → slice_get ss k ≡ Some s → Each (Tells EnteredAs (constants (take k ss))) (declarators_in (out-Form s.form))
  stated k s e =
      let F : Form-F Form = out-Form s.form in
      all_ok k s.line (declarators_in F)
      (declared_lacks u sound text (before_statement f ss k) F (not_lacking u sound k s e))
      (declared_breaks u sound text f.constants Types F (sym (opens (form_step f f.constants Types) s.form) ∙ not_typed u sound k s e))
      (declared_breaks u sound text f.constants Scalars F (sym (opens (form_step f f.constants Scalars) s.form) ∙ not_scalar u sound k s e))
      (declared_exponents u sound text (constants (take k ss)) s.form F (opens (form_step f (constants (take k ss)) Exponents) s.form) (not_overreaching u sound k s e))
      (declared_each Fine F (subst (Each Fine) (opens occurring.form_step s.form) (each_fits u sound text procedures k s e)))
      (declared_pass f s.line F (sym (ap (list_any passing) (opens (said.form_step f s.line) s.form)) ∙ said_nothing u sound text procedures k s e))

  shape_entered : (name : Name) (shape : Shape) → what f.shapes name ≡ Some shape → EnteredAs (name, shape)
  shape_entered = shape_is EnteredAs ss stated

  -- ---- the dummies

  dummy_bounds : (name : Name) → is_among a.dummies name ≡ true → BoundsOk S (map (bound_of meant) (bounds_of (what f.shapes name)))
  dummy_bounds name h = go (what f.shapes name) refl
    where
      go : (o : Option Shape) → what f.shapes name ≡ o → BoundsOk S (map (bound_of meant) (bounds_of o))
      go None e = tt
      go (Some shape) e = shape_entered name shape e h

  other_role : (j : ℕ) (name : Name) (constant intrinsic function called external : Bool) → dummy_array meant j (role_by u sound text name false constant intrinsic function called external) ≡ []
  other_role j name true intrinsic function called external = refl
  other_role j name false true function called external = refl
  other_role j name false false true called external = refl
  other_role j name false false false true external = refl
  other_role j name false false false false true = refl
  other_role j name false false false false false = refl

  one_entered : (j : ℕ) (name : Name) (rest : List DummyArray) → is_among a.dummies name ≡ true → EntryOk S rest → EntryOk S (dummy_array meant j (role_of f name) ++ rest)
  one_entered j name rest h ok = go (is_among a.arrays name) refl
    where
      role_as : (b : Bool) → is_among a.arrays name ≡ b → role_of f name ≡ role_by u sound text name b (is_among a.constants name) (is_intrinsic a name) (is_function a name) (is_among a.called name) (is_among a.external name)
      role_as b e = λ i. role_by u sound text name (e i) (is_among a.constants name) (is_intrinsic a name) (is_function a name) (is_among a.called name) (is_among a.external name)

      go : (b : Bool) → is_among a.arrays name ≡ b → EntryOk S (dummy_array meant j (role_of f name) ++ rest)
      go true e = subst (λ r. EntryOk S (dummy_array meant j r ++ rest)) (sym (role_as true e)) (dummy_bounds name h, ok)
      go false e = subst (λ r. EntryOk S (dummy_array meant j r ++ rest)) (sym (role_as false e)) (subst (λ all. EntryOk S (all ++ rest)) (sym (other_role j name (is_among a.constants name) (is_intrinsic a name) (is_function a name) (is_among a.called name) (is_among a.external name))) ok)

  all_entered : (ds : List Name) (j : ℕ) → Each (λ (n : Name). is_among a.dummies n ≡ true) ds → EntryOk S (dummy_arrays_from f meant j ds)
  all_entered [] j h = tt
  all_entered (name ∷ ds) j h = one_entered j name (dummy_arrays_from f meant (suc j) ds) h.0 (all_entered ds (suc j) h.1)

  -- The bounds of dummy arrays are terms with numbers.
  pub entry_fits : EntryOk (effects u) (routine u).dummy_arrays
  entry_fits = all_entered u.dummies 0 (each_of (λ (n : Name). is_among a.dummies n ≡ true) u.dummies (λ i n at. subst (λ ns. is_among ns n ≡ true) (sym (dummies_are u sound text)) (any_here (name_eq n) u.dummies i n at (name_self n))))

-- Names stand for what their roles say.
pub names_fit : NamesStand
names_fit u sound text procedures = record {
  each = each_fits u sound text procedures;
  values = known_values u sound text;
  function = result_stands u sound text;
  entry = entry_fits u sound text procedures;
}
