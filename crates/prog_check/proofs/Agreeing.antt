-- What a text says to the program has the sites that its names have.
use Rattle.std.proofs.Common.{◌≡◌, ℕ, List, [], ◌∷◌, ◌++◌, Bool, true, false, Some, None, map, flat_map, length, refl, sym, ap, subst, ◌∙◌, ◌==◌, if◌then◌else◌}
use Rattle.std.specs.declared.option.Option.{Option}
use Rattle.std.proofs.lemmas.Grind.{flat_map-append}
use Rattle.f77_tree.specs.declared.expr.Expr.{Expr, roll-Expr, ind-Expr, fold-Expr, fold-roll-Expr}
use Rattle.f77_tree.specs.declared.expr.Expr.TheFolds.{map-Expr}
use Rattle.f77_tree.specs.declared.expr.Expr.TheOpen.{Expr-F}
use Rattle.f77_tree.specs.declared.form.Declarator.{Declarator}
use Rattle.f77_tree.specs.declared.form.DataConst.{DataConst}
use Rattle.f77_tree.specs.declared.form.Form.{Form, roll-Form, ind-Form, fold-roll-Form}
use Rattle.f77_tree.specs.declared.form.Form.TheFolds.{map-Form}
use Rattle.f77_tree.specs.declared.form.Form.TheOpen.{Form-F}
use Rattle.f77_tree.specs.declared.unit.Stmt.{Stmt}
use Rattle.f77_tree.specs.declared.unit.Unit.{Unit}
use Rattle.f77_tree.specs.declared.unit.UnitKind.{UnitKind}
use Rattle.f77_tree.specs.declared.unit.UnitKind.TheVariants as kind
use Rattle.f77_names.specs.declared.occurrences.Manner.{Manner}
use Rattle.f77_names.specs.declared.occurrences.Manner.TheVariants as manner
use Rattle.f77_names.specs.declared.facts.Facts.{Facts}
use Rattle.f77_store.specs.Layouts.{callee, callees_with}
use Rattle.f77_values.specs.Tables.{Name, is_among}
use Rattle.f77_names.specs.Occurrences.{Occurrences, occurs, declared_manner, own_name}
use Rattle.f77_names.specs.Occurrences as names
use Rattle.f77_names.specs.Roles.{facts, is_function, type_of}
use Rattle.prog_texts.specs.declared.mentions.Mention.{Mention}
use Rattle.prog_texts.specs.declared.mentions.Wanted.TheVariants.{Function}
use Rattle.prog_texts.specs.Mentions.{Seen, seen_step, expr_says, site, site_of, dummy_procedure, is_dummy_procedure, reference, call, form_step, in_expr, in_optional, in_bound, in_declarator, in_block, in_definition, in_external, in_constant, in_run, in_form, in_statement, mentions_with}
use Rattle.prog_check.specs.Sites.{callee_of, SitesAreCallees}

map-append : {A B : Type 0} (f : A → B) (xs ys : List A) → map f (xs ++ ys) ≡ map f xs ++ map f ys
map-append f [] ys = refl
map-append f (x ∷ xs) ys = ap (λ zs. f x ∷ zs) (map-append f xs ys)

abbrev named : List Mention → List Name
named ms = map callee_of (flat_map site_of ms)

named-append : (ms ns : List Mention) → named (ms ++ ns) ≡ named ms ++ named ns
named-append ms ns = ap (map callee_of) (flat_map-append site_of ms ns) ∙ map-append callee_of (flat_map site_of ms) (flat_map site_of ns)

module _ (f : Facts) where
  -- The sites among what is said are those among the names.
  abbrev Agree : List Mention → Occurrences → Type 0
  Agree ms os = named ms ≡ callees_with f os

  joined : (ms ns : List Mention) (os ps : Occurrences) → Agree ms os → Agree ns ps → Agree (ms ++ ns) (os ++ ps)
  joined ms ns os ps h k =
      named-append ms ns
      ∙ (ap (λ x. x ++ named ns) h
      ∙ (ap (λ x. callees_with f os ++ x) k
      ∙ sym (flat_map-append (callee f.attributes) os ps)))

  all_agree : {A : Type 0} (g : A → List Mention) (h : A → Occurrences) (xs : List A) → ((x : A) → Agree (g x) (h x)) → Agree (flat_map g xs) (flat_map h xs)
  all_agree g h [] k = refl
  all_agree g h (x ∷ xs) k = joined (g x) (flat_map g xs) (h x) (flat_map h xs) (k x) (all_agree g h xs k)

  no_site : (dummy : Bool) (line : ℕ) → Agree (dummy_procedure dummy line) []
  no_site true line = refl
  no_site false line = refl

  -- names that are no sites
  plain : (names : List Name) (m : Manner) → ((name : Name) → callees_with f (occurs m name ∷ []) ≡ []) → callees_with f (map (occurs m) names) ≡ []
  plain [] m h = refl
  plain (name ∷ names) m h = flat_map-append (callee f.attributes) (occurs m name ∷ []) (map (occurs m) names) ∙ (ap (λ x. x ++ callees_with f (map (occurs m) names)) (h name) ∙ plain names m h)

  module _ (line : ℕ) where
    referred : (name : Name) (es : List Expr) → Agree (reference f line name es) (occurs manner.Listed name ∷ [])
    referred name es = at (is_function f.attributes name) (is_dummy_procedure f.attributes name)
      where
        at : (b dummy : Bool) → named (if b then site f line (Function (type_of f name)) name es ∷ [] else dummy_procedure dummy line) ≡ (if b then name ∷ [] else []) ++ []
        at true dummy = refl
        at false true = refl
        at false false = refl

    called : (name : Name) (es : List Expr) → Agree (call f line name es) (occurs manner.Called name ∷ [])
    called name es = at (is_among f.attributes.dummies name)
      where
        at : (dummy : Bool) → name ∷ named (dummy_procedure dummy line) ≡ name ∷ []
        at true = refl
        at false = refl

    abbrev Agrees : Expr → Type 0
    Agrees e = Agree (in_expr f line e) (names.in_expr e)

    abbrev Both : Type 0
    Both = (e : Expr) × Agrees e

    members : (es : List Both) → Agree (flat_map (λ s. s.says) (map (fold-Expr Seen (seen_step f line)) (map (λ e. e.0) es))) (flat_map (λ all. all) (map names.in_expr (map (λ e. e.0) es)))
    members [] = refl
    members (e ∷ es) = joined (in_expr f line e.0) (flat_map (λ s. s.says) (map (fold-Expr Seen (seen_step f line)) (map (λ e. e.0) es))) (names.in_expr e.0) (flat_map (λ all. all) (map names.in_expr (map (λ e. e.0) es))) e.1 (members es)

    here : (y : Expr-F Both)
        → Agree (expr_says f line (map-Expr Expr Seen (fold-Expr Seen (seen_step f line)) (map-Expr Both Expr (λ e. e.0) y))) (names.expr_step (map-Expr Expr Occurrences names.in_expr (map-Expr Both Expr (λ e. e.0) y)))
    here (Expr-F.Int n) = refl
    here (Expr-F.Truth b) = refl
    here (Expr-F.Text bytes) = refl
    here (Expr-F.Scalar name) = refl
    here (Expr-F.Apply name es) =
        let list = map (fold-Expr Seen (seen_step f line)) (map (λ e. e.0) es) in
        joined (reference f line name (map (λ s. s.expression) list)) (flat_map (λ s. s.says) list) (occurs manner.Listed name ∷ []) (flat_map (λ all. all) (map names.in_expr (map (λ e. e.0) es)))
        (referred name (map (λ s. s.expression) list)) (members es)
    here (Expr-F.Paren e) = e.1
    here (Expr-F.Neg e) = e.1
    here (Expr-F.Plus e) = e.1
    here (Expr-F.Not e) = e.1
    here (Expr-F.Binary op a b) = joined (in_expr f line a.0) (in_expr f line b.0) (names.in_expr a.0) (names.in_expr b.0) a.1 b.1

    at_layer : (y : Expr-F Both) → Agrees (roll-Expr (map-Expr Both Expr (λ e. e.0) y))
    at_layer y =
        let x : Expr-F Expr = map-Expr Both Expr (λ e. e.0) y in
        ap (λ s. named s.says) (fold-roll-Expr Seen (seen_step f line) x)
        ∙ (here y
        ∙ sym (ap (callees_with f) (fold-roll-Expr Occurrences names.expr_step x)))

    expression : (e : Expr) → Agrees e
    expression = ind-Expr Agrees (λ x y is. subst (λ x. Agrees (roll-Expr x)) is (at_layer y))

    expressions : (es : List Expr) → Agree (flat_map (in_expr f line) es) (flat_map names.in_expr es)
    expressions es = all_agree (in_expr f line) names.in_expr es expression

    optional : (e : Option Expr) → Agree (in_optional f line e) (names.in_optional e)
    optional None = refl
    optional (Some e) = expression e

    bound : (b : Option Expr × Option Expr) → Agree (in_bound f line b) (names.in_bound b)
    bound b = joined (in_optional f line b.0) (in_optional f line b.1) (names.in_optional b.0) (names.in_optional b.1) (optional b.0) (optional b.1)

    declarator : (d : Declarator) → Agree (in_declarator f line d) (names.in_declarator d)
    declarator d = joined [] (in_declarator f line d) (occurs (declared_manner d.bounds) d.name ∷ []) (flat_map names.in_bound d.bounds) (at (length d.bounds == 0)) (all_agree (in_bound f line) names.in_bound d.bounds bound)
      where
        at : (b : Bool) → [] ≡ callees_with f (occurs (if b then manner.Plain else manner.Dimensioned) d.name ∷ [])
        at true = refl
        at false = refl

    declarators : (all : List Declarator) → Agree (flat_map (in_declarator f line) all) (flat_map names.in_declarator all)
    declarators all = all_agree (in_declarator f line) names.in_declarator all declarator

    common : (b : Name × List Declarator) → Agree (in_block f line b) (names.in_block b)
    common b = declarators b.1

    definition : (d : Name × Expr) → Agree (in_definition f line d) (names.in_definition d)
    definition d = expression d.1

    constant : (c : DataConst) → Agree (in_constant f line c) (names.in_constant c)
    constant c = joined (in_optional f line c.repeat) (in_expr f line c.value) (names.in_optional c.repeat) (names.in_expr c.value) (optional c.repeat) (expression c.value)

    run : (r : List Expr × List DataConst) → Agree (in_run f line r) (names.in_run r)
    run r =
        joined (flat_map (in_expr f line) r.0) (flat_map (in_constant f line) r.1) (flat_map names.in_expr r.0) (flat_map names.in_constant r.1)
        (expressions r.0) (all_agree (in_constant f line) names.in_constant r.1 constant)

    externals : (all : List Name) → Agree (flat_map (in_external f line) all) (map (occurs manner.External) all)
    externals [] = refl
    externals (name ∷ all) =
        joined (in_external f line name) (flat_map (in_external f line) all) (occurs manner.External name ∷ []) (map (occurs manner.External) all)
        (no_site (is_among f.attributes.dummies name) line) (externals all)

    abbrev FormAgrees : Form → Type 0
    FormAgrees x = Agree (in_form f line x) (names.in_form x)

    abbrev BothForm : Type 0
    BothForm = (x : Form) × FormAgrees x

    form_here : (y : Form-F BothForm)
        → Agree (form_step f line (map-Form Form (List Mention) (in_form f line) (map-Form BothForm Form (λ x. x.0) y))) (names.form_step (map-Form Form Occurrences names.in_form (map-Form BothForm Form (λ x. x.0) y)))
    form_here (Form-F.Head kind word name dummies) = refl
    form_here (Form-F.Implicit rules) = refl
    form_here Form-F.ImplicitNone = refl
    form_here (Form-F.Typed ty all) = declarators all
    form_here (Form-F.Dimension all) = declarators all
    form_here (Form-F.Common blocks) = all_agree (in_block f line) names.in_block blocks common
    form_here (Form-F.Parameter all) = all_agree (in_definition f line) names.in_definition all definition
    form_here (Form-F.External all) = externals all
    form_here (Form-F.Intrinsic all) = sym (plain all manner.Intrinsic (λ name. refl))
    form_here (Form-F.Save all blocks) = sym (plain all manner.Plain (λ name. refl))
    form_here (Form-F.DataRuns runs) = all_agree (in_run f line) names.in_run runs run
    form_here (Form-F.Assign target value) = joined (in_expr f line target) (in_expr f line value) (names.in_expr target) (names.in_expr value) (expression target) (expression value)
    form_here (Form-F.BlockIf test) = expression test
    form_here (Form-F.ElseIf test) = expression test
    form_here Form-F.Else = refl
    form_here Form-F.EndIf = refl
    form_here (Form-F.LogicalIf test inner) = joined (in_expr f line test) (in_form f line inner.0) (names.in_expr test) (names.in_form inner.0) (expression test) inner.1
    form_here (Form-F.ArithmeticIf value a b c) = expression value
    form_here (Form-F.GoTo label) = refl
    form_here (Form-F.ComputedGoTo labels index) = expression index
    form_here (Form-F.Do label name from to step) =
        joined (in_expr f line from) (in_expr f line to ++ in_optional f line step) (names.in_expr from) (names.in_expr to ++ names.in_optional step)
        (expression from) (joined (in_expr f line to) (in_optional f line step) (names.in_expr to) (names.in_optional step) (expression to) (optional step))
    form_here Form-F.Continue = refl
    form_here Form-F.Return = refl
    form_here Form-F.End = refl
    form_here Form-F.Stop = refl
    form_here (Form-F.Call name actuals) =
        joined (call f line name actuals) (flat_map (in_expr f line) actuals) (occurs manner.Called name ∷ []) (flat_map names.in_expr actuals) (called name actuals) (expressions actuals)
    form_here (Form-F.Print items) = expressions items
    form_here (Form-F.Read targets) = expressions targets

    form_layer : (y : Form-F BothForm) → FormAgrees (roll-Form (map-Form BothForm Form (λ x. x.0) y))
    form_layer y =
        let x : Form-F Form = map-Form BothForm Form (λ x. x.0) y in
        ap named (fold-roll-Form (List Mention) (form_step f line) x)
        ∙ (form_here y
        ∙ sym (ap (callees_with f) (fold-roll-Form Occurrences names.form_step x)))

    form : (x : Form) → FormAgrees x
    form = ind-Form FormAgrees (λ x y is. subst (λ x. FormAgrees (roll-Form x)) is (form_layer y))

  statement : (s : Stmt) → Agree (in_statement f s) (names.in_statement s)
  statement s = form s.line s.form

  -- The names of a head are no sites.
  in_head : (u : Unit) → Agree [] (names.in_head u)
  in_head u = joined [] [] (own_name u.kind u.name) (map (occurs manner.Dummy) u.dummies) (own u.kind) (sym (plain u.dummies manner.Dummy (λ name. refl)))
    where
      own : (k : UnitKind) → Agree [] (own_name k u.name)
      own kind.Main = refl
      own kind.Subroutine = refl
      own kind.Function = refl
      own kind.BlockData = refl

  unit : (u : Unit) → Agree (mentions_with f u) (names.occurrences u)
  unit u = joined [] (mentions_with f u) (names.in_head u) (flat_map names.in_statement u.statements) (in_head u) (all_agree (in_statement f) names.in_statement u.statements statement)

pub sites_are_callees : SitesAreCallees
sites_are_callees u = unit (facts u) u
