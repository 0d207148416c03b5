-- In what manners names occur in a statement: none as a dummy or a function's own name, and none before `=` but in PARAMETER.
use Rattle.std.proofs.Common.{◌≡◌, ◌==◌, Bool, true, false, ◌&&◌, ◌||◌, Option, Some, None, List, [], ◌∷◌, ◌++◌, length, map, flat_map, refl, sym, ap, ◌∙◌, subst, if◌then◌else◌}
use Rattle.std.specs.List.{list_any}
use Rattle.f77_tree.specs.declared.expr.Expr.{Expr, roll-Expr, ind-Expr, fold-roll-Expr}
use Rattle.f77_tree.specs.declared.expr.Expr.TheFolds.{map-Expr}
use Rattle.f77_tree.specs.declared.expr.Expr.TheOpen.{Expr-F}
use Rattle.f77_tree.specs.declared.form.DataConst.{DataConst}
use Rattle.f77_tree.specs.declared.form.Declarator.{Declarator}
use Rattle.f77_tree.specs.declared.form.Form.{Form, out-Form}
use Rattle.f77_tree.specs.declared.form.Form.TheFolds.{map-Form}
use Rattle.f77_tree.specs.declared.form.Form.TheOpen.{Form-F}
use Rattle.f77_tree.specs.declared.unit.Stmt.{Stmt}
use Rattle.f77_names.specs.declared.occurrences.Manner.{Manner}
use Rattle.f77_names.specs.declared.occurrences.Manner.TheVariants as manner
use Rattle.f77_names.specs.declared.occurrences.Occurrence.{Occurrence}
use Rattle.f77_values.specs.Tables.{Name, name_eq}
use Rattle.f77_names.specs.Occurrences.{Occurrences, occurs, expr_step, in_expr, in_optional, in_bound, in_declarator, in_block, in_definition, in_constant, in_run, form_step, in_form, in_statement, is_manner, names_that}
use Rattle.sound_units.specs.Sites.{Each}
use Rattle.sound_units.specs.Texts.{is_action, guards_action}
use Rattle.sound_units.proofs.Giving.{occurs_so}
use Rattle.sound_units.proofs.Lists.{or_none, any-append, flat}
use Rattle.sound_units.proofs.Opening.{opens}
use Rattle.sound_units.proofs.Tables.{each_both, each_flat, each_map, none_of}

-- what a head and PARAMETER make of names
abbrev introduces : Manner → Bool
introduces manner.ResultName = true
introduces manner.Dummy = true
introduces manner.Defined = true
introduces _ = false

abbrev Used : Occurrence → Type 0
Used o = introduces o.manner ≡ false

abbrev Quiet : Occurrences → Type 0
Quiet a = Each Used a

both : (a b : Occurrences) → Quiet a → Quiet b → Quiet (a ++ b)
both a b h k = each_both Used a b h k

all_quiet : {A : Type 0} (g : A → Occurrences) → ((x : A) → Quiet (g x)) → (xs : List A) → Quiet (flat_map g xs)
all_quiet g h xs = each_flat Used g h xs

-- ---- expressions

abbrev Both : Type 0
Both = (e : Expr) × Quiet (in_expr e)

members : (es : List Both) → Quiet (flat_map in_expr (map (λ e. e.0) es))
members [] = tt
members (e ∷ es) = both (in_expr e.0) (flat_map in_expr (map (λ e. e.0) es)) e.1 (members es)

here : (y : Expr-F Both) → Quiet (expr_step (map-Expr Expr Occurrences in_expr (map-Expr Both Expr (λ e. e.0) y)))
here (Expr-F.Int n) = tt
here (Expr-F.Truth b) = tt
here (Expr-F.Text bytes) = tt
here (Expr-F.Scalar name) = (refl, tt)
here (Expr-F.Apply name es) = (refl, subst Quiet (sym (flat in_expr (map (λ (e : Both). e.0) es))) (members es))
here (Expr-F.Paren e) = e.1
here (Expr-F.Neg e) = e.1
here (Expr-F.Plus e) = e.1
here (Expr-F.Not e) = e.1
here (Expr-F.Binary op a b) = both (in_expr a.0) (in_expr b.0) a.1 b.1

at_layer : (y : Expr-F Both) → Quiet (in_expr (roll-Expr (map-Expr Both Expr (λ e. e.0) y)))
at_layer y = subst Quiet (sym (fold-roll-Expr Occurrences expr_step (map-Expr Both Expr (λ e. e.0) y))) (here y)

expr_quiet : (e : Expr) → Quiet (in_expr e)
expr_quiet = ind-Expr (λ e. Quiet (in_expr e)) (λ x y is. subst (λ x. Quiet (in_expr (roll-Expr x))) is (at_layer y))

optional_quiet : (e : Option Expr) → Quiet (in_optional e)
optional_quiet None = tt
optional_quiet (Some e) = expr_quiet e

-- ---- statements

bound_quiet : (b : Option Expr × Option Expr) → Quiet (in_bound b)
bound_quiet b = both (in_optional b.0) (in_optional b.1) (optional_quiet b.0) (optional_quiet b.1)

declarator_quiet : (d : Declarator) → Quiet (in_declarator d)
declarator_quiet d = (go (length d.bounds == 0), all_quiet in_bound bound_quiet d.bounds)
  where
    go : (none : Bool) → introduces (if none then manner.Plain else manner.Dimensioned) ≡ false
    go true = refl
    go false = refl

block_quiet : (b : Name × List Declarator) → Quiet (in_block b)
block_quiet b = all_quiet in_declarator declarator_quiet b.1

constant_quiet : (c : DataConst) → Quiet (in_constant c)
constant_quiet c = both (in_optional c.repeat) (in_expr c.value) (optional_quiet c.repeat) (expr_quiet c.value)

run_quiet : (r : List Expr × List DataConst) → Quiet (in_run r)
run_quiet r = both (flat_map in_expr r.0) (flat_map in_constant r.1) (all_quiet in_expr expr_quiet r.0) (all_quiet in_constant constant_quiet r.1)

-- a form without definitions, whose own form is none too
abbrev Inside : Form-F Form → Type 0
Inside (Form-F.LogicalIf e i) = Quiet (in_form i)
Inside (Form-F.Parameter all) = ⊥
Inside _ = Unit {0}

abbrev layer : Form-F Form → Occurrences
layer F = form_step (map-Form Form Occurrences in_form F)

form_quiet : (F : Form-F Form) → Inside F → Quiet (layer F)
form_quiet (Form-F.Typed ty all) h = all_quiet in_declarator declarator_quiet all
form_quiet (Form-F.Dimension all) h = all_quiet in_declarator declarator_quiet all
form_quiet (Form-F.Common blocks) h = all_quiet in_block block_quiet blocks
form_quiet (Form-F.Parameter all) h = absurd h
form_quiet (Form-F.External names) h = each_map Used (occurs manner.External) (λ name. refl) names
form_quiet (Form-F.Intrinsic names) h = each_map Used (occurs manner.Intrinsic) (λ name. refl) names
form_quiet (Form-F.Save names blocks) h = each_map Used (occurs manner.Plain) (λ name. refl) names
form_quiet (Form-F.DataRuns runs) h = all_quiet in_run run_quiet runs
form_quiet (Form-F.Assign t e) h = both (in_expr t) (in_expr e) (expr_quiet t) (expr_quiet e)
form_quiet (Form-F.BlockIf e) h = expr_quiet e
form_quiet (Form-F.ElseIf e) h = expr_quiet e
form_quiet (Form-F.LogicalIf e i) h = both (in_expr e) (in_form i) (expr_quiet e) h
form_quiet (Form-F.ArithmeticIf e a b c) h = expr_quiet e
form_quiet (Form-F.ComputedGoTo labels e) h = expr_quiet e
form_quiet (Form-F.Do label name a b c) h = (refl, both (in_expr a) (in_expr b ++ in_optional c) (expr_quiet a) (both (in_expr b) (in_optional c) (expr_quiet b) (optional_quiet c)))
form_quiet (Form-F.Call name es) h = (refl, all_quiet in_expr expr_quiet es)
form_quiet (Form-F.Print es) h = all_quiet in_expr expr_quiet es
form_quiet (Form-F.Read es) h = all_quiet in_expr expr_quiet es
form_quiet F h = tt

action_inside : (F : Form-F Form) → is_action F ≡ true → Inside F
action_inside (Form-F.LogicalIf e i) h = cc
action_inside (Form-F.Parameter all) h = cc
action_inside F h = tt

-- what a logical IF guards
guarded_quiet : (i : Form) → is_action (out-Form i) ≡ true → Quiet (in_form i)
guarded_quiet i h = subst Quiet (sym (opens form_step i)) (form_quiet (out-Form i) (action_inside (out-Form i) h))

-- ---- definitions

abbrev pub definitions_in : Form-F Form → List (Name × Expr)
definitions_in (Form-F.Parameter all) = all
definitions_in _ = []

abbrev pub defines : Name → Name × Expr → Bool
defines name d = name_eq name d.0

quiet_defined : (name : Name) (o : Occurrence) → Used o → occurs_so manner.Defined name o ≡ false
unfolding occurs_so
quiet_defined name o h = ap (λ b. b && name_eq name o.name) (go o.manner h)
  where
    go : (m : Manner) → introduces m ≡ false → is_manner manner.Defined m ≡ false
    go manner.Defined h = cc
    go m h = refl

none_defined : (name : Name) (a : Occurrences) → Quiet a → list_any (occurs_so manner.Defined name) a ≡ false
none_defined name a h = none_of Used (occurs_so manner.Defined name) (quiet_defined name) a h

defined_once : (name : Name) (all : List (Name × Expr)) → list_any (occurs_so manner.Defined name) (flat_map in_definition all) ≡ list_any (defines name) all
unfolding occurs_so
defined_once name [] = refl
defined_once name (d ∷ all) =
    any-append (occurs_so manner.Defined name) (in_definition d) (flat_map in_definition all)
    ∙ (ap (λ b. (name_eq name d.0 || b) || list_any (occurs_so manner.Defined name) (flat_map in_definition all)) (none_defined name (in_expr d.1) (expr_quiet d.1))
    ∙ (ap (λ b. b || list_any (occurs_so manner.Defined name) (flat_map in_definition all)) (or_none (name_eq name d.0)) ∙ ap (λ b. name_eq name d.0 || b) (defined_once name all)))

-- What occurs as defined is what PARAMETER defines.
pub defined_here : (name : Name) (s : Stmt) → guards_action (out-Form s.form) ≡ true → list_any (occurs_so manner.Defined name) (in_statement s) ≡ list_any (defines name) (definitions_in (out-Form s.form))
defined_here name s h = ap (list_any (occurs_so manner.Defined name)) (opens form_step s.form) ∙ go (out-Form s.form) h
  where
    go : (F : Form-F Form) → guards_action F ≡ true → list_any (occurs_so manner.Defined name) (layer F) ≡ list_any (defines name) (definitions_in F)
    go (Form-F.Parameter all) h = defined_once name all
    go (Form-F.LogicalIf e i) h = none_defined name (layer (Form-F.LogicalIf e i)) (form_quiet (Form-F.LogicalIf e i) (guarded_quiet i h))
    go F h = none_defined name (layer F) (form_quiet F tt)

-- ---- dummies

quiet_dummy : (o : Occurrence) → Used o → is_manner manner.Dummy o.manner ≡ false
quiet_dummy o h = go o.manner h
  where
    go : (m : Manner) → introduces m ≡ false → is_manner manner.Dummy m ≡ false
    go manner.Dummy h = cc
    go m h = refl

abbrev NoDummy : Occurrence → Type 0
NoDummy o = is_manner manner.Dummy o.manner ≡ false

weaker : (a : Occurrences) → Quiet a → Each NoDummy a
weaker [] h = tt
weaker (o ∷ a) h = (quiet_dummy o h.0, weaker a h.1)

definition_quiet : (d : Name × Expr) → Each NoDummy (in_definition d)
definition_quiet d = (refl, weaker (in_expr d.1) (expr_quiet d.1))

no_names : (a : Occurrences) → Each NoDummy a → names_that manner.Dummy a ≡ []
no_names [] h = refl
no_names (o ∷ a) h = ap (λ b. (if b then o.name ∷ [] else []) ++ names_that manner.Dummy a) h.0 ∙ no_names a h.1

-- The dummies of a unit stand in its head alone.
pub no_dummies : (s : Stmt) → guards_action (out-Form s.form) ≡ true → names_that manner.Dummy (in_statement s) ≡ []
no_dummies s h = ap (names_that manner.Dummy) (opens form_step s.form) ∙ no_names (layer (out-Form s.form)) (go (out-Form s.form) h)
  where
    go : (F : Form-F Form) → guards_action F ≡ true → Each NoDummy (layer F)
    go (Form-F.Parameter all) h = each_flat NoDummy in_definition definition_quiet all
    go (Form-F.LogicalIf e i) h = weaker (layer (Form-F.LogicalIf e i)) (form_quiet (Form-F.LogicalIf e i) (guarded_quiet i h))
    go F h = weaker (layer F) (form_quiet F tt)
