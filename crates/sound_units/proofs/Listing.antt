-- Where no procedure is passed, a name with a list is no dummy, unless it is an array.
use Rattle.std.proofs.Common.{◌≡◌, ℕ, ◌==◌, Bool, true, false, not, ◌&&◌, Option, Some, None, List, [], ◌∷◌, ◌++◌, length, map, flat_map, refl, sym, ap, ◌∙◌, subst, if◌then◌else◌}
use Rattle.std.specs.List.{list_any}
use Rattle.f77_tree.specs.declared.expr.Expr.{Expr, roll-Expr, ind-Expr, fold-Expr, fold-roll-Expr}
use Rattle.f77_tree.specs.declared.expr.Expr.TheFolds.{map-Expr}
use Rattle.f77_tree.specs.declared.expr.Expr.TheOpen.{Expr-F}
use Rattle.f77_tree.specs.declared.expr.Expr.TheVariants.{rolls-Apply}
use Rattle.f77_tree.specs.declared.form.DataConst.{DataConst}
use Rattle.f77_tree.specs.declared.form.Declarator.{Declarator}
use Rattle.f77_tree.specs.declared.form.Form.{Form, roll-Form, ind-Form, fold-roll-Form}
use Rattle.f77_tree.specs.declared.form.Form.TheFolds.{map-Form}
use Rattle.f77_tree.specs.declared.form.Form.TheOpen.{Form-F}
use Rattle.f77_names.specs.declared.occurrences.Manner.{Manner}
use Rattle.f77_names.specs.declared.occurrences.Manner.TheVariants as manner
use Rattle.f77_names.specs.declared.occurrences.Occurrence.{Occurrence}
use Rattle.f77_names.specs.declared.facts.Facts.{Facts}
use Rattle.f77_values.specs.Tables.{Name, is_among}
use Rattle.f77_names.specs.Roles.{is_in_table, is_function, type_of}
use Rattle.f77_names.specs.Occurrences as occurring
use Rattle.f77_names.specs.Occurrences.{Occurrences, occurs, expr_step, in_expr}
use Rattle.prog_texts.specs.declared.mentions.Mention.{Mention}
use Rattle.prog_texts.specs.declared.mentions.Wanted.TheVariants.{Function}
use Rattle.prog_texts.specs.Mentions as said
use Rattle.prog_texts.specs.Mentions.{Seen, seen_step, expr_says, reference, dummy_procedure, is_dummy_procedure}
use Rattle.prog_texts.proofs.Said.{in_expr-Apply}
use Rattle.sound_units.specs.Sites.{Each}
use Rattle.sound_units.specs.Checked.{passing}
use Rattle.sound_units.proofs.Lists.{or_left, or_right, any-append, flat}
use Rattle.sound_units.proofs.Tables.{each_both, each_map}

module _ (f : Facts) where
  -- a name with a list is no dummy procedure
  abbrev pub ListedAs : Manner → Name → Type 0
  ListedAs manner.Listed name = is_dummy_procedure f.attributes name ≡ false
  ListedAs m name = Unit {0}

  abbrev pub Listed : Occurrence → Type 0
  Listed o = ListedAs o.manner o.name

  module _ (line : ℕ) where
    abbrev Passes : List Mention → Type 0
    Passes ms = list_any passing ms ≡ false

    abbrev Fine : Occurrences → Type 0
    Fine a = Each Listed a

    left_of : (ms ns : List Mention) → Passes (ms ++ ns) → Passes ms
    left_of ms ns h = or_left (list_any passing ms) (list_any passing ns) (sym (any-append passing ms ns) ∙ h)

    right_of : (ms ns : List Mention) → Passes (ms ++ ns) → Passes ns
    right_of ms ns h = or_right (list_any passing ms) (list_any passing ns) (sym (any-append passing ms ns) ∙ h)

    both : (ms ns : List Mention) (a b : Occurrences) → (Passes ms → Fine a) → (Passes ns → Fine b) → Passes (ms ++ ns) → Fine (a ++ b)
    both ms ns a b h k p = each_both Listed a b (h (left_of ms ns p)) (k (right_of ms ns p))

    all_fine : {A : Type 0} (g : A → List Mention) (o : A → Occurrences) → ((x : A) → Passes (g x) → Fine (o x)) → (xs : List A) → Passes (flat_map g xs) → Fine (flat_map o xs)
    all_fine g o h [] p = tt
    all_fine g o h (x ∷ xs) p = both (g x) (flat_map g xs) (o x) (flat_map o xs) (h x) (all_fine g o h xs) p

    -- ---- expressions

    abbrev FineExpr : Expr → Type 0
    FineExpr e = Passes (said.in_expr f line e) → Fine (in_expr e)

    abbrev Both : Type 0
    Both = (e : Expr) × FineExpr e

    members : (es : List Both) → Passes (flat_map (said.in_expr f line) (map (λ e. e.0) es)) → Fine (flat_map in_expr (map (λ e. e.0) es))
    members [] p = tt
    members (e ∷ es) p = both (said.in_expr f line e.0) (flat_map (said.in_expr f line) (map (λ e. e.0) es)) (in_expr e.0) (flat_map in_expr (map (λ e. e.0) es)) e.1 (members es) p

    -- A name that is applied is no dummy.
    function_no_dummy : (listed arrays dummies table : Bool) → ((listed && (not arrays && not dummies)) && not table) ≡ true → (dummies && not arrays) ≡ false
    function_no_dummy true arrays true table h = absurd (contra arrays table h)
      where
        contra : (arrays table : Bool) → ((true && (not arrays && not true)) && not table) ≡ true → ⊥
        contra true table h = cc
        contra false table h = cc
    function_no_dummy false arrays true table h = cc
    function_no_dummy listed arrays false table h = refl

    no_dummy : (name : Name) (list : List Expr) → Passes (reference f line name list) → is_dummy_procedure f.attributes name ≡ false
    no_dummy name list p = go (is_function f.attributes name) refl p
      where
        procedure : (b : Bool) → Passes (dummy_procedure b line) → b ≡ false
        procedure true p = cc
        procedure false p = refl

        go : (b : Bool) → is_function f.attributes name ≡ b → Passes (if b then said.site f line (Function (type_of f name)) name list ∷ [] else dummy_procedure (is_dummy_procedure f.attributes name) line) → is_dummy_procedure f.attributes name ≡ false
        go true e p = function_no_dummy (is_among f.attributes.listed name) (is_among f.attributes.arrays name) (is_among f.attributes.dummies name) (is_in_table f.attributes name) e
        go false e p = procedure (is_dummy_procedure f.attributes name) p

    layer_says : (x : Expr-F Expr) → said.in_expr f line (roll-Expr x) ≡ expr_says f line (map-Expr Expr Seen (fold-Expr Seen (seen_step f line)) x)
    layer_says x = ap (λ s. s.says) (fold-roll-Expr Seen (seen_step f line) x)

    says : (ms ns : List Mention) → ms ≡ ns → Passes ms → Passes ns
    says ms ns e p = sym (ap (list_any passing) e) ∙ p

    here : (y : Expr-F Both) → Passes (said.in_expr f line (roll-Expr (map-Expr Both Expr (λ e. e.0) y))) → Fine (expr_step (map-Expr Expr Occurrences in_expr (map-Expr Both Expr (λ e. e.0) y)))
    here (Expr-F.Int n) p = tt
    here (Expr-F.Truth b) p = tt
    here (Expr-F.Text bytes) p = tt
    here (Expr-F.Scalar name) p = (tt, tt)
    here (Expr-F.Apply name es) p =
        let list : List Expr = map (λ (e : Both). e.0) es in
        let ms : List Mention = reference f line name list in
        let ns : List Mention = flat_map (said.in_expr f line) list in
        let q : Passes (ms ++ ns) = sym (ap (list_any passing) (ap (said.in_expr f line) (rolls-Apply name list) ∙ in_expr-Apply f line name list)) ∙ p in
        (no_dummy name list (left_of ms ns q), subst Fine (sym (flat in_expr list)) (members es (right_of ms ns q)))
    here (Expr-F.Paren e) p = e.1 (sym (ap (list_any passing) (layer_says (Expr-F.Paren e.0))) ∙ p)
    here (Expr-F.Neg e) p = e.1 (sym (ap (list_any passing) (layer_says (Expr-F.Neg e.0))) ∙ p)
    here (Expr-F.Plus e) p = e.1 (sym (ap (list_any passing) (layer_says (Expr-F.Plus e.0))) ∙ p)
    here (Expr-F.Not e) p = e.1 (sym (ap (list_any passing) (layer_says (Expr-F.Not e.0))) ∙ p)
    here (Expr-F.Binary op a b) p = both (said.in_expr f line a.0) (said.in_expr f line b.0) (in_expr a.0) (in_expr b.0) a.1 b.1 (sym (ap (list_any passing) (layer_says (Expr-F.Binary op a.0 b.0))) ∙ p)

    at_layer : (y : Expr-F Both) → FineExpr (roll-Expr (map-Expr Both Expr (λ e. e.0) y))
    at_layer y p = subst Fine (sym (fold-roll-Expr Occurrences expr_step (map-Expr Both Expr (λ e. e.0) y))) (here y p)

    expr_fine : (e : Expr) → FineExpr e
    expr_fine = ind-Expr FineExpr (λ x y is. subst (λ x. FineExpr (roll-Expr x)) is (at_layer y))

    -- ---- statements

    optional_fine : (e : Option Expr) → Passes (said.in_optional f line e) → Fine (occurring.in_optional e)
    optional_fine None p = tt
    optional_fine (Some e) p = expr_fine e p

    bound_fine : (b : Option Expr × Option Expr) → Passes (said.in_bound f line b) → Fine (occurring.in_bound b)
    bound_fine b p = both (said.in_optional f line b.0) (said.in_optional f line b.1) (occurring.in_optional b.0) (occurring.in_optional b.1) (optional_fine b.0) (optional_fine b.1) p

    declarator_fine : (d : Declarator) → Passes (said.in_declarator f line d) → Fine (occurring.in_declarator d)
    declarator_fine d p = (go (length d.bounds == 0), all_fine (said.in_bound f line) occurring.in_bound bound_fine d.bounds p)
      where
        go : (none : Bool) → ListedAs (if none then manner.Plain else manner.Dimensioned) d.name
        go true = tt
        go false = tt

    block_fine : (b : Name × List Declarator) → Passes (said.in_block f line b) → Fine (occurring.in_block b)
    block_fine b p = all_fine (said.in_declarator f line) occurring.in_declarator declarator_fine b.1 (right_of (said.block b.0 line ∷ []) (flat_map (said.in_declarator f line) b.1) p)

    definition_fine : (d : Name × Expr) → Passes (said.in_definition f line d) → Fine (occurring.in_definition d)
    definition_fine d p = (tt, expr_fine d.1 p)

    constant_fine : (c : DataConst) → Passes (said.in_constant f line c) → Fine (occurring.in_constant c)
    constant_fine c p = both (said.in_optional f line c.repeat) (said.in_expr f line c.value) (occurring.in_optional c.repeat) (in_expr c.value) (optional_fine c.repeat) (expr_fine c.value) p

    run_fine : (r : List Expr × List DataConst) → Passes (said.in_run f line r) → Fine (occurring.in_run r)
    run_fine r p = both (flat_map (said.in_expr f line) r.0) (flat_map (said.in_constant f line) r.1) (flat_map in_expr r.0) (flat_map occurring.in_constant r.1)
        (all_fine (said.in_expr f line) in_expr expr_fine r.0) (all_fine (said.in_constant f line) occurring.in_constant constant_fine r.1) p

    exprs_fine : (es : List Expr) → Passes (flat_map (said.in_expr f line) es) → Fine (flat_map in_expr es)
    exprs_fine es p = all_fine (said.in_expr f line) in_expr expr_fine es p

    abbrev FineForm : Form → Type 0
    FineForm form = Passes (said.in_form f line form) → Fine (occurring.in_form form)

    abbrev BothForms : Type 0
    BothForms = (form : Form) × FineForm form

    form_here : (y : Form-F BothForms) → Passes (said.form_step f line (map-Form Form (List Mention) (said.in_form f line) (map-Form BothForms Form (λ e. e.0) y)))
        → Fine (occurring.form_step (map-Form Form Occurrences occurring.in_form (map-Form BothForms Form (λ e. e.0) y)))
    form_here (Form-F.Typed ty all) p = all_fine (said.in_declarator f line) occurring.in_declarator declarator_fine all p
    form_here (Form-F.Dimension all) p = all_fine (said.in_declarator f line) occurring.in_declarator declarator_fine all p
    form_here (Form-F.Common blocks) p = all_fine (said.in_block f line) occurring.in_block block_fine blocks p
    form_here (Form-F.Parameter all) p = all_fine (said.in_definition f line) occurring.in_definition definition_fine all p
    form_here (Form-F.External names) p = each_map Listed (occurs manner.External) (λ name. tt) names
    form_here (Form-F.Intrinsic names) p = each_map Listed (occurs manner.Intrinsic) (λ name. tt) names
    form_here (Form-F.Save names blocks) p = each_map Listed (occurs manner.Plain) (λ name. tt) names
    form_here (Form-F.DataRuns runs) p = all_fine (said.in_run f line) occurring.in_run run_fine runs p
    form_here (Form-F.Assign t e) p = both (said.in_expr f line t) (said.in_expr f line e) (in_expr t) (in_expr e) (expr_fine t) (expr_fine e) p
    form_here (Form-F.BlockIf e) p = expr_fine e p
    form_here (Form-F.ElseIf e) p = expr_fine e p
    form_here (Form-F.LogicalIf e i) p = both (said.in_expr f line e) (said.in_form f line i.0) (in_expr e) (occurring.in_form i.0) (expr_fine e) i.1 p
    form_here (Form-F.ArithmeticIf e x y z) p = expr_fine e p
    form_here (Form-F.ComputedGoTo labels e) p = expr_fine e p
    form_here (Form-F.Do label name a b c) p = (
      tt,
      both (said.in_expr f line a) (said.in_expr f line b ++ said.in_optional f line c) (in_expr a) (in_expr b ++ occurring.in_optional c) (expr_fine a)
          (both (said.in_expr f line b) (said.in_optional f line c) (in_expr b) (occurring.in_optional c) (expr_fine b) (optional_fine c)) p,
    )
    form_here (Form-F.Call name es) p = (tt, exprs_fine es (right_of (said.call f line name es) (flat_map (said.in_expr f line) es) p))
    form_here (Form-F.Print es) p = exprs_fine es p
    form_here (Form-F.Read es) p = exprs_fine es p
    form_here x p = tt

    form_at : (y : Form-F BothForms) → FineForm (roll-Form (map-Form BothForms Form (λ e. e.0) y))
    form_at y p =
        let x : Form-F Form = map-Form BothForms Form (λ e. e.0) y in
        subst Fine (sym (fold-roll-Form Occurrences occurring.form_step x)) (form_here y (sym (ap (list_any passing) (fold-roll-Form (List Mention) (said.form_step f line) x)) ∙ p))

    -- No name with a list in a statement that passes no procedure is a dummy, unless it is an array.
    pub form_listed : (form : Form) → list_any passing (said.in_form f line form) ≡ false → Each Listed (occurring.in_form form)
    form_listed = ind-Form FineForm (λ x y is. subst (λ x. FineForm (roll-Form x)) is (form_at y))
