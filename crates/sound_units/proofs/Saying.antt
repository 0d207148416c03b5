-- Each callee of a unit's text is a site that the text tells to the program.
use Rattle.std.proofs.Common.{◌≡◌, ℕ, suc, ◌+◌, ◌==◌, Bool, true, false, Option, Some, None, List, [], ◌∷◌, ◌++◌, length, map, flat_map, slice_get, refl, sym, ap, ◌∙◌, subst, if◌then◌else◌}
use Rattle.std.proofs.lemmas.Grind.{flat_map-append}
use Rattle.f77_tree.specs.declared.expr.Expr.{Expr, roll-Expr, ind-Expr, fold-Expr, fold-roll-Expr}
use Rattle.f77_tree.specs.declared.expr.Expr.TheFolds.{map-Expr}
use Rattle.f77_tree.specs.declared.expr.Expr.TheOpen.{Expr-F}
use Rattle.f77_tree.specs.declared.expr.Expr.TheVariants.{rolls-Apply}
use Rattle.f77_tree.specs.declared.form.DataConst.{DataConst}
use Rattle.f77_tree.specs.declared.form.Declarator.{Declarator}
use Rattle.f77_tree.specs.declared.form.Form.{Form, roll-Form, ind-Form, fold-roll-Form}
use Rattle.f77_tree.specs.declared.form.Form.TheFolds.{map-Form}
use Rattle.f77_tree.specs.declared.form.Form.TheOpen.{Form-F}
use Rattle.f77_tree.specs.declared.form.TypeWord.{TypeWord}
use Rattle.f77_tree.specs.declared.unit.Stmt.{Stmt}
use Rattle.f77_names.specs.declared.occurrences.Manner.{Manner}
use Rattle.f77_names.specs.declared.occurrences.Manner.TheVariants as manner
use Rattle.f77_names.specs.declared.occurrences.Occurrence.{Occurrence}
use Rattle.f77_names.specs.declared.facts.Facts.{Facts}
use Rattle.f77_names.specs.declared.roles.Role.{Role}
use Rattle.f77_names.specs.declared.roles.Role.TheVariants as role
use Rattle.f77_values.specs.Tables.{Name}
use Rattle.f77_names.specs.Types.{name_word}
use Rattle.f77_names.specs.Roles as roles
use Rattle.f77_names.specs.Roles.{is_function, role_type, type_of}
use Rattle.f77_names.specs.Occurrences as occurring
use Rattle.f77_names.specs.Occurrences.{Occurrences, occurs, expr_step, in_expr}
use Rattle.f77_store.specs.Layouts.{callee, callees_with}
use Rattle.f77_names.specs.Standings.{standing}
use Rattle.f77_semantics.specs.Effects.{Effects}
use Rattle.f77_semantics.specs.Terms.{Meant}
use Rattle.prog_texts.specs.declared.mentions.Mention.{Mention}
use Rattle.prog_texts.specs.declared.mentions.Mention.TheVariants.{Site}
use Rattle.prog_texts.specs.declared.mentions.Site.{Site as CallSite}
use Rattle.prog_texts.specs.declared.mentions.Wanted.{Wanted}
use Rattle.prog_texts.specs.declared.mentions.Wanted.TheVariants.{Subroutine, Function}
use Rattle.prog_texts.specs.Mentions as said
use Rattle.prog_texts.specs.Mentions.{Seen, seen_step, expr_says, reference}
use Rattle.prog_texts.proofs.Said.{in_expr-Apply}
use Rattle.sound_units.specs.Sites.{Each}
use Rattle.sound_units.specs.Checked.{IsSubroutine, ListFits, NameFits}
use Rattle.sound_units.proofs.Lists.{at_left, at_right, each_right, flat}
use Rattle.sound_units.proofs.Tables.{each_both}

pub each_weaker : {A : Type 0} (P Q : A → Type 0) (xs : List A) → ((x : A) → P x → Q x) → Each P xs → Each Q xs
each_weaker P Q [] g h = tt
each_weaker P Q (x ∷ xs) g h = (g x h.0, each_weaker P Q xs g h.1)

-- the type that a site wants is that of the name, and a subroutine has none
abbrev pub Wants : Facts → Wanted → Name → Type 0
Wants f (Function ty) name = ty ≡ type_of f name
Wants f Subroutine name = type_of f name ≡ None

-- the site of a callee among what is said
pub record SiteIn (f : Facts) (ms : List Mention) (name : Name) : Type 0 where
  pub at : ℕ
  pub site : CallSite
  pub says : slice_get ms at ≡ Some (Site site)
  pub callee_is : site.callee ≡ name
  pub wants : Wants f site.wanted name

in_left : (f : Facts) (ms ns : List Mention) (name : Name) → SiteIn f ms name → SiteIn f (ms ++ ns) name
in_left f ms ns name x = record { at = x.at; site = x.site; says = at_left ms ns x.at (Site x.site) x.says; callee_is = x.callee_is; wants = x.wants }

in_right : (f : Facts) (ms ns : List Mention) (name : Name) → SiteIn f ns name → SiteIn f (ms ++ ns) name
in_right f ms ns name x = record { at = length ms + x.at; site = x.site; says = at_right ms ns x.at ∙ x.says; callee_is = x.callee_is; wants = x.wants }

-- a name behind CALL has no type
abbrev CalledWith : Facts → Manner → Name → Type 0
CalledWith f manner.Called name = type_of f name ≡ None
CalledWith f m name = Unit {0}

abbrev pub CallFits : Facts → Occurrence → Type 0
CallFits f o = CalledWith f o.manner o.name

by_role : (f : Facts) (meant : Name → Meant) (S : Effects) (r : Role) (word : TypeWord) → IsSubroutine f meant S (standing r) → role_type r word ≡ None
by_role f meant S role.Subroutine word h = refl
by_role f meant S role.Procedure word h = refl
by_role f meant S r word h = absurd h

by_manner : (f : Facts) (meant : Name → Meant) (S : Effects) (m : Manner) (name : Name) → ListFits f meant S m (standing (roles.role f name)) → CalledWith f m name
by_manner f meant S manner.Called name h = by_role f meant S (roles.role f name) (name_word f.words f.letters name) h
by_manner f meant S m name h = tt

pub call_fits : (f : Facts) (meant : Name → Meant) (S : Effects) (o : Occurrence) → NameFits f meant S o → CallFits f o
call_fits f meant S o h = by_manner f meant S o.manner o.name h.lists

module _ (f : Facts) (line : ℕ) where
  abbrev Told : List Mention → List Name → Type 0
  Told ms cs = Each (SiteIn f ms) cs

  abbrev Says : List Mention → Occurrences → Type 0
  Says ms a = Each (SiteIn f ms) (callees_with f a)

  told_both : (ms ns : List Mention) (cs ds : List Name) → Told ms cs → Told ns ds → Told (ms ++ ns) (cs ++ ds)
  told_both ms ns cs ds h k = each_both (SiteIn f (ms ++ ns)) cs ds (each_weaker (SiteIn f ms) (SiteIn f (ms ++ ns)) cs (in_left f ms ns) h) (each_weaker (SiteIn f ns) (SiteIn f (ms ++ ns)) ds (in_right f ms ns) k)

  says_both : (ms ns : List Mention) (a b : Occurrences) → Says ms a → Says ns b → Says (ms ++ ns) (a ++ b)
  says_both ms ns a b h k = subst (Told (ms ++ ns)) (sym (flat_map-append (callee f.attributes) a b)) (told_both ms ns (callees_with f a) (callees_with f b) h k)

  says_all : {A : Type 0} (g : A → List Mention) (o : A → Occurrences) → ((x : A) → Says (g x) (o x)) → (xs : List A) → Says (flat_map g xs) (flat_map o xs)
  says_all g o h [] = tt
  says_all g o h (x ∷ xs) = says_both (g x) (flat_map g xs) (o x) (flat_map o xs) (h x) (says_all g o h xs)

  one_more : (m : Mention) (ms : List Mention) (a : Occurrences) → Says ms a → Says (m ∷ ms) a
  one_more m ms a h = each_weaker (SiteIn f ms) (SiteIn f (m ∷ ms)) (callees_with f a) (in_right f (m ∷ []) ms) h

  -- ---- expressions

  abbrev Both : Type 0
  Both = (e : Expr) × Says (said.in_expr f line e) (in_expr e)

  all_said : (es : List Both) → Says (flat_map (said.in_expr f line) (map (λ e. e.0) es)) (flat_map in_expr (map (λ e. e.0) es))
  all_said [] = tt
  all_said (e ∷ es) = says_both (said.in_expr f line e.0) (flat_map (said.in_expr f line) (map (λ e. e.0) es)) (in_expr e.0) (flat_map in_expr (map (λ e. e.0) es)) e.1 (all_said es)

  referred : (name : Name) (es : List Expr) (others : List Mention) (b : Bool) → Told (if b then said.site f line (Function (type_of f name)) name es ∷ [] else others) (if b then name ∷ [] else [])
  referred name es others true = (record { at = 0; site = record { line = line; callee = name; wanted = Function (type_of f name); actuals = map (said.actual f) es }; says = refl; callee_is = refl; wants = refl }, tt)
  referred name es others false = tt

  layer_says : (x : Expr-F Expr) → said.in_expr f line (roll-Expr x) ≡ expr_says f line (map-Expr Expr Seen (fold-Expr Seen (seen_step f line)) x)
  layer_says x = ap (λ s. s.says) (fold-roll-Expr Seen (seen_step f line) x)

  here : (y : Expr-F Both) → Says (said.in_expr f line (roll-Expr (map-Expr Both Expr (λ e. e.0) y))) (expr_step (map-Expr Expr Occurrences in_expr (map-Expr Both Expr (λ e. e.0) y)))
  here (Expr-F.Int n) = tt
  here (Expr-F.Truth b) = tt
  here (Expr-F.Text bytes) = tt
  here (Expr-F.Scalar name) = tt
  here (Expr-F.Apply name es) =
      let list : List Expr = map (λ e. e.0) es in
      let ms : List Mention = reference f line name list in
      let ns : List Mention = flat_map (said.in_expr f line) list in
      let cs : List Name = if is_function f.attributes name then name ∷ [] else [] in
      let all : Told (ms ++ ns) (cs ++ callees_with f (flat_map in_expr list)) = told_both ms ns cs (callees_with f (flat_map in_expr list)) (referred name list _ (is_function f.attributes name)) (all_said es) in
      subst (λ ms. Told ms (cs ++ callees_with f (flat_map (λ (all : Occurrences). all) (map in_expr list)))) (sym (ap (said.in_expr f line) (rolls-Apply name list) ∙ in_expr-Apply f line name list))
      (subst (λ o. Told (ms ++ ns) (cs ++ callees_with f o)) (sym (flat in_expr list)) all)
  here (Expr-F.Paren e) = subst (λ ms. Says ms (in_expr e.0)) (sym (layer_says (Expr-F.Paren e.0))) e.1
  here (Expr-F.Neg e) = subst (λ ms. Says ms (in_expr e.0)) (sym (layer_says (Expr-F.Neg e.0))) e.1
  here (Expr-F.Plus e) = subst (λ ms. Says ms (in_expr e.0)) (sym (layer_says (Expr-F.Plus e.0))) e.1
  here (Expr-F.Not e) = subst (λ ms. Says ms (in_expr e.0)) (sym (layer_says (Expr-F.Not e.0))) e.1
  here (Expr-F.Binary op a b) = subst (λ ms. Says ms (in_expr a.0 ++ in_expr b.0)) (sym (layer_says (Expr-F.Binary op a.0 b.0))) (says_both (said.in_expr f line a.0) (said.in_expr f line b.0) (in_expr a.0) (in_expr b.0) a.1 b.1)

  at_layer : (y : Expr-F Both) → Says (said.in_expr f line (roll-Expr (map-Expr Both Expr (λ e. e.0) y))) (in_expr (roll-Expr (map-Expr Both Expr (λ e. e.0) y)))
  at_layer y = subst (Says (said.in_expr f line (roll-Expr (map-Expr Both Expr (λ e. e.0) y)))) (sym (fold-roll-Expr Occurrences expr_step (map-Expr Both Expr (λ e. e.0) y))) (here y)

  expr_said : (e : Expr) → Says (said.in_expr f line e) (in_expr e)
  expr_said = ind-Expr (λ e. Says (said.in_expr f line e) (in_expr e)) (λ x y is. subst (λ x. Says (said.in_expr f line (roll-Expr x)) (in_expr (roll-Expr x))) is (at_layer y))

  -- ---- statements

  optional_said : (e : Option Expr) → Says (said.in_optional f line e) (occurring.in_optional e)
  optional_said None = tt
  optional_said (Some e) = expr_said e

  bound_said : (b : Option Expr × Option Expr) → Says (said.in_bound f line b) (occurring.in_bound b)
  bound_said b = says_both (said.in_optional f line b.0) (said.in_optional f line b.1) (occurring.in_optional b.0) (occurring.in_optional b.1) (optional_said b.0) (optional_said b.1)

  declarator_said : (d : Declarator) → Says (said.in_declarator f line d) (occurring.in_declarator d)
  declarator_said d = go (occurring.declared_manner d.bounds) (manner_is (length d.bounds == 0))
    where
      NotCalled : Manner → Type 0
      NotCalled m = (name : Name) → callee f.attributes (occurs m name) ≡ []

      manner_is : (none : Bool) → NotCalled (if none then manner.Plain else manner.Dimensioned)
      manner_is true = λ name. refl
      manner_is false = λ name. refl

      go : (m : Manner) → NotCalled m → Says (said.in_declarator f line d) (occurs m d.name ∷ flat_map occurring.in_bound d.bounds)
      go m h = subst (λ cs. Told (said.in_declarator f line d) (cs ++ callees_with f (flat_map occurring.in_bound d.bounds))) (sym (h d.name)) (says_all (said.in_bound f line) occurring.in_bound bound_said d.bounds)

  block_said : (b : Name × List Declarator) → Says (said.in_block f line b) (occurring.in_block b)
  block_said b = one_more (said.block b.0 line) (flat_map (said.in_declarator f line) b.1) (flat_map occurring.in_declarator b.1) (says_all (said.in_declarator f line) occurring.in_declarator declarator_said b.1)

  definition_said : (d : Name × Expr) → Says (said.in_definition f line d) (occurring.in_definition d)
  definition_said d = expr_said d.1

  constant_said : (c : DataConst) → Says (said.in_constant f line c) (occurring.in_constant c)
  constant_said c = says_both (said.in_optional f line c.repeat) (said.in_expr f line c.value) (occurring.in_optional c.repeat) (in_expr c.value) (optional_said c.repeat) (expr_said c.value)

  run_said : (r : List Expr × List DataConst) → Says (said.in_run f line r) (occurring.in_run r)
  run_said r = says_both (flat_map (said.in_expr f line) r.0) (flat_map (said.in_constant f line) r.1) (flat_map in_expr r.0) (flat_map occurring.in_constant r.1) (says_all (said.in_expr f line) in_expr expr_said r.0) (says_all (said.in_constant f line) occurring.in_constant constant_said r.1)

  -- names that are no sites
  no_sites : (m : Manner) → ((name : Name) → callee f.attributes (occurs m name) ≡ []) → (ms : List Mention) (names : List Name) → Says ms (map (occurs m) names)
  no_sites m h ms [] = tt
  no_sites m h ms (name ∷ names) = subst (λ cs. Told ms (cs ++ callees_with f (map (occurs m) names))) (sym (h name)) (no_sites m h ms names)

  call_said : (name : Name) (es : List Expr) → type_of f name ≡ None → Says (said.call f line name es ++ flat_map (said.in_expr f line) es) (occurs manner.Called name ∷ flat_map in_expr es)
  call_said name es h = told_both (said.call f line name es) (flat_map (said.in_expr f line) es) (name ∷ []) (callees_with f (flat_map in_expr es))
      (record { at = 0; site = record { line = line; callee = name; wanted = Subroutine; actuals = map (said.actual f) es }; says = refl; callee_is = refl; wants = h }, tt)
      (says_all (said.in_expr f line) in_expr expr_said es)

  abbrev FormSays : Form → Type 0
  FormSays form = Each (CallFits f) (occurring.in_form form) → Says (said.in_form f line form) (occurring.in_form form)

  abbrev BothForms : Type 0
  BothForms = (form : Form) × FormSays form

  form_here : (y : Form-F BothForms) → Each (CallFits f) (occurring.form_step (map-Form Form Occurrences occurring.in_form (map-Form BothForms Form (λ e. e.0) y)))
      → Says (said.form_step f line (map-Form Form (List Mention) (said.in_form f line) (map-Form BothForms Form (λ e. e.0) y))) (occurring.form_step (map-Form Form Occurrences occurring.in_form (map-Form BothForms Form (λ e. e.0) y)))
  form_here (Form-F.Typed ty all) h = says_all (said.in_declarator f line) occurring.in_declarator declarator_said all
  form_here (Form-F.Dimension all) h = says_all (said.in_declarator f line) occurring.in_declarator declarator_said all
  form_here (Form-F.Common blocks) h = says_all (said.in_block f line) occurring.in_block block_said blocks
  form_here (Form-F.Parameter all) h = says_all (said.in_definition f line) occurring.in_definition definition_said all
  form_here (Form-F.External names) h = no_sites manner.External (λ name. refl) (flat_map (said.in_external f line) names) names
  form_here (Form-F.Intrinsic names) h = no_sites manner.Intrinsic (λ name. refl) [] names
  form_here (Form-F.Save names blocks) h = no_sites manner.Plain (λ name. refl) [] names
  form_here (Form-F.DataRuns runs) h = says_all (said.in_run f line) occurring.in_run run_said runs
  form_here (Form-F.Assign t e) h = says_both (said.in_expr f line t) (said.in_expr f line e) (in_expr t) (in_expr e) (expr_said t) (expr_said e)
  form_here (Form-F.BlockIf e) h = expr_said e
  form_here (Form-F.ElseIf e) h = expr_said e
  form_here (Form-F.LogicalIf e i) h = says_both (said.in_expr f line e) (said.in_form f line i.0) (in_expr e) (occurring.in_form i.0) (expr_said e) (i.1 (each_right (CallFits f) (in_expr e) (occurring.in_form i.0) h))
  form_here (Form-F.ArithmeticIf e x y z) h = expr_said e
  form_here (Form-F.ComputedGoTo labels e) h = expr_said e
  form_here (Form-F.Do label name a b c) h = says_both (said.in_expr f line a) (said.in_expr f line b ++ said.in_optional f line c) (in_expr a) (in_expr b ++ occurring.in_optional c) (expr_said a)
      (says_both (said.in_expr f line b) (said.in_optional f line c) (in_expr b) (occurring.in_optional c) (expr_said b) (optional_said c))
  form_here (Form-F.Call name es) h = call_said name es h.0
  form_here (Form-F.Print es) h = says_all (said.in_expr f line) in_expr expr_said es
  form_here (Form-F.Read es) h = says_all (said.in_expr f line) in_expr expr_said es
  form_here x h = tt

  form_at : (y : Form-F BothForms) → FormSays (roll-Form (map-Form BothForms Form (λ e. e.0) y))
  form_at y h =
      let x : Form-F Form = map-Form BothForms Form (λ e. e.0) y in
      let occurrences_are = fold-roll-Form Occurrences occurring.form_step x in
      subst (λ ms. Says ms (occurring.in_form (roll-Form x))) (sym (fold-roll-Form (List Mention) (said.form_step f line) x))
      (subst (Says (said.form_step f line (map-Form Form (List Mention) (said.in_form f line) x))) (sym occurrences_are) (form_here y (subst (Each (CallFits f)) occurrences_are h)))

  -- The callees of a statement are sites that it tells.
  pub form_said : (form : Form) → Each (CallFits f) (occurring.in_form form) → Each (SiteIn f (said.in_form f line form)) (callees_with f (occurring.in_form form))
  form_said = ind-Form FormSays (λ x y is. subst (λ x. FormSays (roll-Form x)) is (form_at y))

-- The callees of a list of statements are sites that they tell.
pub statements_said : (f : Facts) (sts : List Stmt) → ((k : ℕ) (s : Stmt) → slice_get sts k ≡ Some s → Each (CallFits f) (occurring.in_statement s)) → Each (SiteIn f (flat_map (said.in_statement f) sts)) (callees_with f (flat_map occurring.in_statement sts))
statements_said f [] h = tt
statements_said f (s ∷ sts) h =
    says_both f s.line (said.in_statement f s) (flat_map (said.in_statement f) sts) (occurring.in_statement s) (flat_map occurring.in_statement sts)
    (form_said f s.line s.form (h 0 s refl)) (statements_said f sts (λ k x e. h (suc k) x e))
