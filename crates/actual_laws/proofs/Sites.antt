-- Each call in a statement of a routine is a site that the unit tells the program, with the same expressions.
use Rattle.std.proofs.Common.{◌≡◌, ℕ, zero, suc, ◌+◌, Bool, true, false, Option, Some, None, List, [], ◌∷◌, ◌++◌, length, map, flat_map, slice_get, refl, sym, ap, ◌∙◌, subst, arith, if◌then◌else◌}
use Rattle.std.proofs.lemmas.Grind.{flat_map-append}
use Rattle.f77_tree.specs.declared.expr.Expr.{Expr, roll-Expr, ind-Expr, fold-Expr, fold-roll-Expr}
use Rattle.f77_tree.specs.declared.expr.Expr.TheFolds.{map-Expr}
use Rattle.f77_tree.specs.declared.expr.Expr.TheOpen.{Expr-F}
use Rattle.f77_tree.specs.declared.expr.Expr.TheVariants.{rolls-Apply}
use Rattle.f77_tree.specs.declared.form.Form.{Form, out-Form}
use Rattle.f77_tree.specs.declared.form.Form.TheFolds.{map-Form}
use Rattle.f77_tree.specs.declared.form.Form.TheOpen.{Form-F}
use Rattle.f77_tree.specs.declared.unit.Stmt.{Stmt}
use Rattle.f77_tree.specs.declared.unit.Unit.{Unit as SourceUnit}
use Rattle.f77_names.specs.declared.facts.Facts.{Facts}
use Rattle.f77_values.specs.Tables.{Name}
use Rattle.f77_names.specs.Roles.{facts, is_function, type_of}
use Rattle.f77_names.specs.Occurrences as occurring
use Rattle.f77_names.specs.Occurrences.{Occurrences, expr_step, in_expr, in_statement, in_head}
use Rattle.f77_flow.specs.Labels as labels
use Rattle.f77_store.specs.Layouts.{callee, callees, callees_with}
use Rattle.f77_semantics.specs.Program.{Term, Terms, Statement, NoStatement}
use Rattle.f77_semantics.specs.Terms.{Meant, Constant, Variable, AnArray, Function, AnIntrinsic, Unknown, Resolved, sites_in, term_from, terms_of, bare, applied, step, resolved}
use Rattle.f77_semantics.specs.Resolve.{loop, terms, optional, simple, statement_of, statements_from}
use Rattle.f77_semantics.specs.Sites.{refers, FunctionsAgree}
use Rattle.f77_semantics.specs.Statements.{statement}
use Rattle.f77_semantics.specs.Source.{is_main, routine}
use Rattle.f77_semantics.proofs.Trees.{layer}
use Rattle.f77_semantics.proofs.Sites.{counted}
use Rattle.prog_texts.specs.declared.mentions.Mention.{Mention}
use Rattle.prog_texts.specs.declared.mentions.Mention.TheVariants.{Site}
use Rattle.prog_texts.specs.declared.mentions.Site.{Site as CallSite}
use Rattle.prog_texts.specs.declared.mentions.Wanted.TheVariants as wanted
use Rattle.prog_texts.specs.Mentions as said
use Rattle.prog_texts.specs.Mentions.{Seen, seen_step, expr_says, reference, mentions}
use Rattle.prog_texts.proofs.Said.{in_expr-Apply}
use Rattle.sound_units.specs.Sites.{Each, site_at, Part}
use Rattle.sound_units.specs.Checked.{NameFits}
use Rattle.sound_units.specs.Units.{meant_of, effects}
use Rattle.sound_units.specs.Accepted.{NamesFit}
use Rattle.sound_units.proofs.Lists.{at_left, at_right, part_left, part_right, part_first, part_rest, flat, each_left, each_right}
use Rattle.sound_units.proofs.Tables.{each_both}
use Rattle.sound_units.proofs.Opening.{opens}
use Rattle.sound_units.proofs.Wholes.{head_callees}
use Rattle.actual_laws.proofs.Types.{TypedAt, typed_at}
use Rattle.actual_laws.specs.Calls.{InTerm, InTerms, InOptional, InStatement}

-- one of a list
pub record OneOf {A : Type 0} (all : List A) (x : A) : Type 0 where
  pub at : ℕ
  pub is : slice_get all at ≡ Some x

-- each expression's term has any type that the expression doesn't differ from
abbrev pub AllTyped : SourceUnit → List Expr → ℕ → Type 0
AllTyped u [] s = Unit {0}
AllTyped u (e ∷ es) s = TypedAt u e s × AllTyped u es (s + sites_in (resolved (meant_of u) e))

-- a site of a unit, and the terms of the expressions that it tells
pub record Passed (u : SourceUnit) (s : ℕ) (es : Terms) : Type 0 where
  pub site : CallSite
  pub says : OneOf (mentions u) (Site site)
  pub called : site_at (callees u) s ≡ Some site.callee
  pub expressions : List Expr
  pub actuals_are : site.actuals ≡ map (said.actual (facts u)) expressions
  pub terms_are : es ≡ terms (meant_of u) expressions (suc s)
  pub typed : AllTyped u expressions (suc s)

module _ (u : SourceUnit) (agree : FunctionsAgree (facts u) (meant_of u)) where
  abbrev f : Facts
  f = facts u

  abbrev meant : Name → Meant
  meant = meant_of u

  -- what is said here the unit says
  abbrev Told : List Mention → Type 0
  Told ms = (i : ℕ) (m : Mention) → slice_get ms i ≡ Some m → OneOf (mentions u) m

  told_left : (ms ns : List Mention) → Told (ms ++ ns) → Told ms
  told_left ms ns h = λ i m e. h i m (at_left ms ns i m e)

  told_right : (ms ns : List Mention) → Told (ms ++ ns) → Told ns
  told_right ms ns h = λ i m e. h (length ms + i) m (at_right ms ns i ∙ e)

  abbrev Sited : ℕ → Occurrences → Type 0
  Sited s a = Part (callees u) s (callees_with f a)

  abbrev Holds : Term → Type 0
  Holds t = InTerm (Passed u) t

  abbrev Named : Occurrences → Type 0
  Named a = Each (NameFits (facts u) (meant_of u) (effects u)) a

  named_left : (a b : Occurrences) → Named (a ++ b) → Named a
  named_left a b h = each_left (NameFits (facts u) (meant_of u) (effects u)) a b h

  named_right : (a b : Occurrences) → Named (a ++ b) → Named b
  named_right a b h = each_right (NameFits (facts u) (meant_of u) (effects u)) a b h

  sited_left : (s : ℕ) (a b : Occurrences) → Sited s (a ++ b) → Sited s a
  sited_left s a b h = part_left (callees u) s (callees_with f a) (callees_with f b) (subst (Part (callees u) s) (flat_map-append (callee f.attributes) a b) h)

  -- the sites behind those of an expression
  sited_behind : (s : ℕ) (e : Expr) (b : Occurrences) → Sited s (in_expr e ++ b) → Sited (s + sites_in (resolved meant e)) b
  sited_behind s e b h = part_right (callees u) s (sites_in (resolved meant e)) (callees_with f (in_expr e)) (callees_with f b) (sym (counted f meant agree e)) (subst (Part (callees u) s) (flat_map-append (callee f.attributes) (in_expr e) b) h)

  all_typed : (es : List Expr) (s : ℕ) → Named (flat_map in_expr es) → Sited s (flat_map in_expr es) → AllTyped u es s
  all_typed [] s n p = tt
  all_typed (e ∷ es) s n p = (typed_at u agree e s (named_left (in_expr e) (flat_map in_expr es) n) (sited_left s (in_expr e) (flat_map in_expr es) p), all_typed es (s + sites_in (resolved meant e)) (named_right (in_expr e) (flat_map in_expr es) n) (sited_behind s e (flat_map in_expr es) p))

  module _ (line : ℕ) where
    abbrev Passes : Expr → Type 0
    Passes e = (s : ℕ) → Told (said.in_expr f line e) → Named (in_expr e) → Sited s (in_expr e) → Holds (term_from s (resolved meant e))

    -- an expression of which it is known
    abbrev Both : Type 0
    Both = (e : Expr) × Passes e

    all_pass : (es : List Both) (s : ℕ) → Told (flat_map (said.in_expr f line) (map (λ e. e.0) es)) → Named (flat_map in_expr (map (λ e. e.0) es)) → Sited s (flat_map in_expr (map (λ e. e.0) es)) → InTerms (Passed u) (terms_of (map (resolved meant) (map (λ e. e.0) es)) s)
    all_pass [] s t n p = tt
    all_pass (e ∷ es) s t n p = (
      e.1 s (told_left (said.in_expr f line e.0) (flat_map (said.in_expr f line) (map (λ e. e.0) es)) t) (named_left (in_expr e.0) (flat_map in_expr (map (λ e. e.0) es)) n) (sited_left s (in_expr e.0) (flat_map in_expr (map (λ e. e.0) es)) p),
      all_pass es (s + sites_in (resolved meant e.0)) (told_right (said.in_expr f line e.0) (flat_map (said.in_expr f line) (map (λ e. e.0) es)) t) (named_right (in_expr e.0) (flat_map in_expr (map (λ e. e.0) es)) n) (sited_behind s e.0 (flat_map in_expr (map (λ e. e.0) es)) p),
    )

    abbrev list_of : List Both → List Expr
    list_of es = map (λ e. e.0) es

    -- a name with a list, by what it stands for
    applied_passes : (name : Name) (es : List Both) (m : Meant) (b : Bool) → b ≡ refers m → (s : ℕ)
        → Told ((if b then said.site f line (wanted.Function (type_of f name)) name (list_of es) ∷ [] else said.dummy_procedure (said.is_dummy_procedure f.attributes name) line) ++ flat_map (said.in_expr f line) (list_of es))
        → Named (flat_map in_expr (list_of es)) → Part (callees u) s ((if b then name ∷ [] else []) ++ callees_with f (flat_map in_expr (list_of es)))
        → Holds (term_from s (applied m (map (resolved meant) (list_of es))))
    applied_passes name es Function true e s t n p = (
      record {
        site = record { line = line; callee = name; wanted = wanted.Function (type_of f name); actuals = map (said.actual f) (list_of es) };
        says = t 0 _ refl;
        called = part_first (callees u) s name (callees_with f (flat_map in_expr (list_of es))) p;
        expressions = list_of es;
        actuals_are = refl;
        terms_are = refl;
        typed = all_typed (list_of es) (suc s) n (part_rest (callees u) s name (callees_with f (flat_map in_expr (list_of es))) p);
      },
      all_pass es (suc s) (told_right (said.site f line (wanted.Function (type_of f name)) name (list_of es) ∷ []) (flat_map (said.in_expr f line) (list_of es)) t) n (part_rest (callees u) s name (callees_with f (flat_map in_expr (list_of es))) p),
    )
    applied_passes name es Function false e s t n p = cc
    applied_passes name es (AnArray ty a) true e s t n p = cc
    applied_passes name es (AnArray ty a) false e s t n p = all_pass es s (told_right (said.dummy_procedure (said.is_dummy_procedure f.attributes name) line) (flat_map (said.in_expr f line) (list_of es)) t) n p
    applied_passes name es (AnIntrinsic i) true e s t n p = cc
    applied_passes name es (AnIntrinsic i) false e s t n p = all_pass es s (told_right (said.dummy_procedure (said.is_dummy_procedure f.attributes name) line) (flat_map (said.in_expr f line) (list_of es)) t) n p
    applied_passes name es (Constant v) b e s t n p = tt
    applied_passes name es (Variable ty x) b e s t n p = tt
    applied_passes name es Unknown b e s t n p = tt

    bare_passes : (m : Meant) → Holds (bare m)
    bare_passes (Constant v) = tt
    bare_passes (Variable ty b) = tt
    bare_passes (AnArray ty a) = tt
    bare_passes Function = tt
    bare_passes (AnIntrinsic i) = tt
    bare_passes Unknown = tt

    layer_says : (x : Expr-F Expr) → said.in_expr f line (roll-Expr x) ≡ expr_says f line (map-Expr Expr Seen (fold-Expr Seen (seen_step f line)) x)
    layer_says x = ap (λ s. s.says) (fold-roll-Expr Seen (seen_step f line) x)

    here : (y : Expr-F Both) (s : ℕ) → Told (said.in_expr f line (roll-Expr (map-Expr Both Expr (λ e. e.0) y))) → Named (expr_step (map-Expr Expr Occurrences in_expr (map-Expr Both Expr (λ e. e.0) y))) → Sited s (expr_step (map-Expr Expr Occurrences in_expr (map-Expr Both Expr (λ e. e.0) y)))
        → Holds (term_from s (step meant (map-Expr Expr Resolved (resolved meant) (map-Expr Both Expr (λ e. e.0) y))))
    here (Expr-F.Int x) s t n p = tt
    here (Expr-F.Truth b) s t n p = tt
    here (Expr-F.Text bytes) s t n p = tt
    here (Expr-F.Scalar name) s t n p = bare_passes (meant name)
    here (Expr-F.Apply name es) s t n p =
        applied_passes name es (meant name) (is_function f.attributes name) (agree name) s (subst Told (ap (said.in_expr f line) (rolls-Apply name (list_of es)) ∙ in_expr-Apply f line name (list_of es)) t) (subst Named (flat in_expr (list_of es)) n.1)
        (subst (λ o. Part (callees u) s ((if is_function f.attributes name then name ∷ [] else []) ++ callees_with f o)) (flat in_expr (list_of es)) p)
    here (Expr-F.Paren e) s t n p = e.1 s (subst Told (layer_says (Expr-F.Paren e.0)) t) n p
    here (Expr-F.Neg e) s t n p = e.1 s (subst Told (layer_says (Expr-F.Neg e.0)) t) n p
    here (Expr-F.Plus e) s t n p = e.1 s (subst Told (layer_says (Expr-F.Plus e.0)) t) n p
    here (Expr-F.Not e) s t n p = e.1 s (subst Told (layer_says (Expr-F.Not e.0)) t) n p
    here (Expr-F.Binary op a b) s t n p =
        let both : Told (said.in_expr f line a.0 ++ said.in_expr f line b.0) = subst Told (layer_says (Expr-F.Binary op a.0 b.0)) t in
        (a.1 s (told_left (said.in_expr f line a.0) (said.in_expr f line b.0) both) (named_left (in_expr a.0) (in_expr b.0) n) (sited_left s (in_expr a.0) (in_expr b.0) p), b.1 (s + sites_in (resolved meant a.0)) (told_right (said.in_expr f line a.0) (said.in_expr f line b.0) both) (named_right (in_expr a.0) (in_expr b.0) n) (sited_behind s a.0 (in_expr b.0) p))

    at_layer : (y : Expr-F Both) → Passes (roll-Expr (map-Expr Both Expr (λ e. e.0) y))
    at_layer y s t n p =
        let x : Expr-F Expr = map-Expr Both Expr (λ e. e.0) y in
        subst (λ (r : Resolved). Holds (term_from s r)) (sym (layer meant x)) (here y s t (subst Named (fold-roll-Expr Occurrences expr_step x) n) (subst (Sited s) (fold-roll-Expr Occurrences expr_step x) p))

    expr_passes : (e : Expr) → Passes e
    expr_passes = ind-Expr Passes (λ x y is. subst (λ x. Passes (roll-Expr x)) is (at_layer y))

    exprs_pass : (es : List Expr) (s : ℕ) → Told (flat_map (said.in_expr f line) es) → Named (flat_map in_expr es) → Sited s (flat_map in_expr es) → InTerms (Passed u) (terms meant es s)
    exprs_pass [] s t n p = tt
    exprs_pass (e ∷ es) s t n p = (
      expr_passes e s (told_left (said.in_expr f line e) (flat_map (said.in_expr f line) es) t) (named_left (in_expr e) (flat_map in_expr es) n) (sited_left s (in_expr e) (flat_map in_expr es) p),
      exprs_pass es (s + sites_in (resolved meant e)) (told_right (said.in_expr f line e) (flat_map (said.in_expr f line) es) t) (named_right (in_expr e) (flat_map in_expr es) n) (sited_behind s e (flat_map in_expr es) p),
    )

    optional_passes : (e : Option Expr) (s : ℕ) → Told (said.in_optional f line e) → Named (occurring.in_optional e) → Sited s (occurring.in_optional e) → InOptional (Passed u) (optional meant e s)
    optional_passes None s t n p = tt
    optional_passes (Some e) s t n p = expr_passes e s t n p

    -- ---- statements

    abbrev SaidBy : Form-F Form → List Mention
    SaidBy F = said.form_step f line (map-Form Form (List Mention) (said.in_form f line) F)

    abbrev StandsIn : Form-F Form → Occurrences
    StandsIn F = occurring.form_step (map-Form Form Occurrences occurring.in_form F)

    abbrev Goes : Statement → Type 0
    Goes t = InStatement (Passed u) t

    simple_passes : (main : Bool) (to : ℕ → ℕ) (s : ℕ) (F : Form-F Form) → Told (SaidBy F) → Named (StandsIn F) → Sited s (StandsIn F) → Goes (simple meant main to s F)
    simple_passes main to s (Form-F.Assign a b) t n p = (expr_passes a s (told_left (said.in_expr f line a) (said.in_expr f line b) t) (named_left (in_expr a) (in_expr b) n) (sited_left s (in_expr a) (in_expr b) p), expr_passes b _ (told_right (said.in_expr f line a) (said.in_expr f line b) t) (named_right (in_expr a) (in_expr b) n) (sited_behind s a (in_expr b) p))
    simple_passes main to s (Form-F.ArithmeticIf e a b c) t n p = expr_passes e s t n p
    simple_passes main to s (Form-F.ComputedGoTo labels e) t n p = expr_passes e s t n p
    simple_passes true to s Form-F.End t n p = tt
    simple_passes false to s Form-F.End t n p = tt
    simple_passes main to s (Form-F.Call name es) t n p = (
      record {
        site = record { line = line; callee = name; wanted = wanted.Subroutine; actuals = map (said.actual f) es };
        says = t 0 _ refl;
        called = part_first (callees u) s name (callees_with f (flat_map in_expr es)) p;
        expressions = es;
        actuals_are = refl;
        terms_are = refl;
        typed = all_typed es (suc s) n.1 (part_rest (callees u) s name (callees_with f (flat_map in_expr es)) p);
      },
      exprs_pass es (suc s) (told_right (said.call f line name es) (flat_map (said.in_expr f line) es) t) n.1 (part_rest (callees u) s name (callees_with f (flat_map in_expr es)) p),
    )
    simple_passes main to s (Form-F.Print es) t n p = exprs_pass es s t n p
    simple_passes main to s (Form-F.Read es) t n p = exprs_pass es s t n p
    simple_passes main to s F t n p = tt

    loop_passes : (m : Meant) (a b : Term) (c : Option Term) → Holds a → Holds b → InOptional (Passed u) c → Goes (loop m a b c)
    loop_passes (Variable ty x) a b c p q r = (p, q, r)
    loop_passes m a b c p q r = tt

    statement_passes : (main : Bool) (all : List Stmt) (k s : ℕ) (F : Form-F Form) → Told (SaidBy F) → Named (StandsIn F) → Sited s (StandsIn F) → Goes (statement_of meant main all k s F)
    statement_passes main all k s (Form-F.BlockIf e) t n p = expr_passes e s t n p
    statement_passes main all k s (Form-F.ElseIf e) t n p = expr_passes e s t n p
    statement_passes main all k s (Form-F.LogicalIf e i) t n p = (
      expr_passes e s (told_left (said.in_expr f line e) (said.in_form f line i) t) (named_left (in_expr e) (occurring.in_form i) n) (sited_left s (in_expr e) (occurring.in_form i) p),
      simple_passes main (labels.target all) _ (out-Form i) (subst Told (opens (said.form_step f line) i) (told_right (said.in_expr f line e) (said.in_form f line i) t)) (subst Named (opens occurring.form_step i) (named_right (in_expr e) (occurring.in_form i) n)) (subst (Sited _) (opens occurring.form_step i) (sited_behind s e (occurring.in_form i) p)),
    )
    statement_passes main all k s (Form-F.Do label name a b c) t n p =
        let t2 = told_right (said.in_expr f line a) (said.in_expr f line b ++ said.in_optional f line c) t in
        let n2 = named_right (in_expr a) (in_expr b ++ occurring.in_optional c) n.1 in
        let p2 = sited_behind s a (in_expr b ++ occurring.in_optional c) p in
        let p3 = sited_behind (s + sites_in (resolved meant a)) b (occurring.in_optional c) p2 in
        let same : (s + sites_in (resolved meant a)) + sites_in (resolved meant b) ≡ s + (sites_in (resolved meant a) + sites_in (resolved meant b)) = omega arith in
        loop_passes (meant name) _ _ _ (expr_passes a s (told_left (said.in_expr f line a) (said.in_expr f line b ++ said.in_optional f line c) t) (named_left (in_expr a) (in_expr b ++ occurring.in_optional c) n.1) (sited_left s (in_expr a) (in_expr b ++ occurring.in_optional c) p))
        (expr_passes b _ (told_left (said.in_expr f line b) (said.in_optional f line c) t2) (named_left (in_expr b) (occurring.in_optional c) n2) (sited_left _ (in_expr b) (occurring.in_optional c) p2))
        (optional_passes c _ (told_right (said.in_expr f line b) (said.in_optional f line c) t2) (named_right (in_expr b) (occurring.in_optional c) n2) (subst (λ s. Sited s (occurring.in_optional c)) same p3))
    statement_passes main all k s Form-F.EndIf t n p = tt
    statement_passes main all k s F t n p = simple_passes main (labels.target all) s F t n p

  abbrev AtPlace : Option Statement → Type 0
  AtPlace o = InStatement (Passed u) (elim o [ None ↦ NoStatement | Some t ↦ t ])

  from_here : (main : Bool) (all : List Stmt) (k s : ℕ) (sts : List Stmt) → Told (flat_map (said.in_statement f) sts) → Named (flat_map in_statement sts) → Sited s (flat_map in_statement sts) → (j : ℕ) → AtPlace (slice_get (statements_from meant f main all k s sts) j)
  from_here main all k s [] t n p j = tt
  from_here main all k s (st ∷ sts) t n p zero =
      statement_passes st.line main all k s (out-Form st.form) (subst Told (opens (said.form_step f st.line) st.form) (told_left (said.in_statement f st) (flat_map (said.in_statement f) sts) t))
      (subst Named (opens occurring.form_step st.form) (named_left (in_statement st) (flat_map in_statement sts) n))
      (subst (Sited s) (opens occurring.form_step st.form) (sited_left s (in_statement st) (flat_map in_statement sts) p))
  from_here main all k s (st ∷ sts) t n p (suc j) =
      from_here main all (suc k) (s + length (callees_with f (in_statement st))) sts (told_right (said.in_statement f st) (flat_map (said.in_statement f) sts) t) (named_right (in_statement st) (flat_map in_statement sts) n)
      (part_right (callees u) s (length (callees_with f (in_statement st))) (callees_with f (in_statement st)) (callees_with f (flat_map in_statement sts)) refl (subst (Part (callees u) s) (flat_map-append (callee f.attributes) (in_statement st) (flat_map in_statement sts)) p)) j

  all_named : (sts : List Stmt) → ((k : ℕ) (st : Stmt) → slice_get sts k ≡ Some st → Named (in_statement st)) → Named (flat_map in_statement sts)
  all_named [] h = tt
  all_named (st ∷ sts) h = each_both (NameFits (facts u) (meant_of u) (effects u)) (in_statement st) (flat_map in_statement sts) (h 0 st refl) (all_named sts (λ k x e. h (suc k) x e))

  pub calls_passed : NamesFit u → (k : ℕ) → InStatement (Passed u) (statement (routine u) k)
  calls_passed fit k =
      let calling : callees u ≡ callees_with f (flat_map in_statement u.statements) = flat_map-append (callee f.attributes) (in_head u) (flat_map in_statement u.statements) ∙ ap (λ xs. xs ++ callees_with f (flat_map in_statement u.statements)) (head_callees f u) in
      from_here (is_main u.kind) u.statements 0 1 u.statements (λ i m e. record { at = i; is = e }) (all_named u.statements fit.each) (subst (Part (callees u) 1) calling (λ i x e. let same : 1 + i ≡ suc i = omega arith in ap (site_at (callees u)) same ∙ e)) k
