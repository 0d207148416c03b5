-- Constant expressions of integers of 64 bits, named constants, bounds, and what DATA gives.
use Rattle.std.proofs.Common.{◌≡◌, ℕ, zero, suc, List, [], ◌∷◌, ◌++◌, Option, Some, None, Bool, true, false, cond, ◌&&◌, ◌==◌, refl, sym, ◌∙◌, subst, map, flat_map, length, is_some, if◌then◌else◌}
use Rattle.std.specs.List.{AllByRecursion, list_all, fold, repeat, zip}
use Rattle.f77_tree.specs.declared.expr.Expr.{Expr, out-Expr, roll-Expr, ind-Expr, fold-roll-Expr}
use Rattle.f77_tree.specs.declared.expr.Expr.TheFolds.{map-Expr}
use Rattle.f77_tree.specs.declared.expr.Expr.TheOpen.{Expr-F}
use Rattle.f77_tree.specs.declared.expr.Op.{Op}
use Rattle.f77_tree.specs.declared.form.DataConst.{DataConst}
use Rattle.f77_tree.specs.declared.form.Form.{Form, out-Form}
use Rattle.f77_tree.specs.declared.form.Form.TheOpen.{Form-F}
use Rattle.f77_tree.specs.declared.form.TypeWord.{TypeWord}
use Rattle.f77_tree.specs.declared.unit.Stmt.{Stmt}
use Rattle.f77_tree.specs.declared.unit.Value.{Value}
use Rattle.f77_values.specs.Arithmetic.{negated, kept, denied}
use Rattle.f77_values.specs.Constants.{applied, operated, value_step, value_of, defined, with_constant, form_constants, with_statement}
use Rattle.f77_values.specs.Tables.{Name, name_eq, Told, what, with_told, with_pair, with_first}
use Rattle.f77_names.specs.declared.declarations.Declaration.{Declaration}
use Rattle.f77_names.specs.declared.declarations.Shape.{Shape}
use Rattle.f77_names.specs.Declarations.{declared, of_head, in_block, in_form, declarations_from, declarations, shape_told, shapes}
use Rattle.f77_semantics.specs.Terms.{Meant, constant_in}
use Rattle.f77_semantics.specs.Data.{item_units, times, value_list, constants_of, given_by, form_gives, initial}
use Rattle.run_inputs.proofs.Decided.{word}
use Rattle.word_laws.specs.Literals.{literal_step, has_word64, bound_has_word64, declarator_has_word64, data_has_word64, form_has_word64}
use Rattle.word_laws.proofs.Terms.{Has, MayHave, operate_has, negated_has, kept_has, denied_has}

pub both : (a b : Bool) → (a && b) ≡ true → (a ≡ true) × (b ≡ true)
both true b e = (refl, e)
both false b e = let z : false ≡ true = e in cc

-- ---- lists

pub all_append : {A : Type 0} → (P : A → Type 0) (xs ys : List A) → AllByRecursion P xs → AllByRecursion P ys → AllByRecursion P (xs ++ ys)
all_append P [] ys h k = k
all_append P (x ∷ xs) ys h k = (h.0, all_append P xs ys h.1 k)

pub all_flat : {A B : Type 0} → (P : B → Type 0) (t : A → Bool) (f : A → List B) → ((x : A) → t x ≡ true → AllByRecursion P (f x)) → (xs : List A) → list_all t xs ≡ true → AllByRecursion P (flat_map f xs)
all_flat P t f g [] e = tt
all_flat P t f g (x ∷ xs) e = let h = both (t x) (list_all t xs) e in all_append P (f x) (flat_map f xs) (g x h.0) (all_flat P t f g xs h.1)

pub all_map : {A B : Type 0} → (P : B → Type 0) (t : A → Bool) (f : A → B) → ((x : A) → t x ≡ true → P (f x)) → (xs : List A) → list_all t xs ≡ true → AllByRecursion P (map f xs)
all_map P t f g [] e = tt
all_map P t f g (x ∷ xs) e = let h = both (t x) (list_all t xs) e in (g x h.0, all_map P t f g xs h.1)

all_repeat : {A : Type 0} → (P : A → Type 0) (n : ℕ) (xs : List A) → AllByRecursion P xs → AllByRecursion P (repeat n xs)
all_repeat P zero xs h = tt
all_repeat P (suc n) xs h = all_append P xs (repeat n xs) h (all_repeat P n xs h)

all_zip : {K X : Type 0} → (P : X → Type 0) (ks : List K) (xs : List X) → AllByRecursion P xs → AllByRecursion (λ p. P p.1) (zip ks xs)
all_zip P [] xs h = tt
all_zip P (k ∷ ks) [] h = tt
all_zip P (k ∷ ks) (x ∷ xs) h = (h.0, all_zip P ks xs h.1)

-- ---- what is told of names

module _ {A : Type 0} (P : A → Type 0) where
  abbrev pub Each : Told A → Type 0
  Each es = AllByRecursion (λ e. P e.1) es

  abbrev pub MayBe : Option A → Type 0
  MayBe None = Unit {0}
  MayBe (Some v) = P v

  pub told_one : (es : Told A) (k : Name) (v : A) → Each es → P v → Each (with_told es k v)
  told_one [] k v h p = (p, tt)
  told_one (e ∷ es) k v h p = go (name_eq k e.0) (told_one es k v h.1 p)
    where
      go : (b : Bool) → Each (with_told es k v) → Each (cond b ((e.0, v) ∷ es) (e ∷ with_told es k v))
      go true ih = (p, h.1)
      go false ih = (h.0, ih)

  pub what_told : (es : Told A) → Each es → (name : Name) → MayBe (what es name)
  what_told [] h name = tt
  what_told (e ∷ es) h name = go (name_eq name e.0) (what_told es h.1 name)
    where
      go : (b : Bool) → MayBe (what es name) → MayBe (cond b (Some e.1) (what es name))
      go true ih = h.0
      go false ih = ih

  pub told_firsts : (pairs : List (Name × A)) (es : Told A) → Each es → Each pairs → Each (fold with_first es pairs)
  told_firsts [] es h k = h
  told_firsts (p ∷ pairs) es h k = told_firsts pairs (with_first es p) (go (is_some (what es p.0))) k.1
    where
      go : (b : Bool) → Each (if b then es else with_pair es p)
      go true = h
      go false = told_one es p.0 p.1 h k.0

-- ---- constants

applied_has : (f : Value → Option Value) → ((v : Value) → Has v → MayHave (f v)) → (o : Option Value) → MayHave o → MayHave (applied f o)
applied_has f g None h = tt
applied_has f g (Some v) h = g v h

operated_has : (op : Op) (a b : Option Value) → MayHave (operated op a b)
operated_has op (Some x) (Some y) = operate_has op x y
operated_has op None b = tt
operated_has op (Some x) None = tt

may : (o : Option Value) → MayBe Has o → MayHave o
may None h = tt
may (Some v) h = h

module _ (named : Told Value) (known : Each Has named) where
  abbrev Fits : Expr → Type 0
  Fits e = has_word64 e ≡ true → MayHave (value_of named e)

  -- an expression of which it is known
  abbrev Fitting : Type 0
  Fitting = (e : Expr) × Fits e

  here : (y : Expr-F Fitting) → literal_step (map-Expr Expr Bool has_word64 (map-Expr Fitting Expr (λ e. e.0) y)) ≡ true → MayHave (value_step named (map-Expr Expr (Option Value) (value_of named) (map-Expr Fitting Expr (λ e. e.0) y)))
  here (Expr-F.Int n) h = word n h
  here (Expr-F.Truth b) h = tt
  here (Expr-F.Text bytes) h = tt
  here (Expr-F.Scalar name) h = may (what named name) (what_told Has named known name)
  here (Expr-F.Apply name es) h = tt
  here (Expr-F.Paren e) h = e.1 h
  here (Expr-F.Neg e) h = applied_has negated (λ v p. negated_has v) (value_of named e.0) (e.1 h)
  here (Expr-F.Plus e) h = applied_has kept kept_has (value_of named e.0) (e.1 h)
  here (Expr-F.Not e) h = applied_has denied (λ v p. denied_has v) (value_of named e.0) (e.1 h)
  here (Expr-F.Binary op a b) h = operated_has op (value_of named a.0) (value_of named b.0)

  at_layer : (y : Expr-F Fitting) → Fits (roll-Expr (map-Expr Fitting Expr (λ e. e.0) y))
  at_layer y h =
      let x : Expr-F Expr = map-Expr Fitting Expr (λ e. e.0) y in
      subst MayHave (sym (fold-roll-Expr (Option Value) (value_step named) x)) (here y (sym (fold-roll-Expr Bool literal_step x) ∙ h))

  pub value_fits : (e : Expr) → has_word64 e ≡ true → MayHave (value_of named e)
  value_fits = ind-Expr Fits (λ x y is. subst (λ x. Fits (roll-Expr x)) is (at_layer y))

defined_fits : (named : Told Value) (name : Name) (o : Option Value) → Each Has named → MayHave o → Each Has (defined named name o)
defined_fits named name None k h = k
defined_fits named name (Some v) k h = told_one Has named name v k h

definitions_fit : (ds : List (Name × Expr)) (named : Told Value) → Each Has named → list_all (λ d. has_word64 d.1) ds ≡ true → Each Has (fold with_constant named ds)
definitions_fit [] named k h = k
definitions_fit (d ∷ ds) named k h =
    let b = both (has_word64 d.1) (list_all (λ d. has_word64 d.1) ds) h in
    definitions_fit ds (with_constant named d) (defined_fits named d.0 (value_of named d.1) k (value_fits named k d.1 b.0)) b.1

form_fits : (named : Told Value) (form : Form-F Form) → Each Has named → form_has_word64 form ≡ true → Each Has (form_constants named form)
form_fits named (Form-F.Parameter ds) k h = definitions_fit ds named k h
form_fits named form k h = k

abbrev pub HasAll : List Stmt → Type 0
HasAll sts = list_all (λ s. form_has_word64 (out-Form s.form)) sts ≡ true

pub constants_fit : (sts : List Stmt) (named : Told Value) → Each Has named → HasAll sts → Each Has (fold with_statement named sts)
constants_fit [] named k h = k
constants_fit (s ∷ sts) named k h =
    let b = both (form_has_word64 (out-Form s.form)) _ h in
    constants_fit sts (with_statement named s) (form_fits named (out-Form s.form) k b.0) b.1

-- ---- bounds

abbrev pub BoundsFit : Declaration → Type 0
BoundsFit d = list_all bound_has_word64 d.bounds ≡ true

in_form_fits : (named : Told Value) (form : Form-F Form) → form_has_word64 form ≡ true → AllByRecursion BoundsFit (in_form named form)
in_form_fits named (Form-F.Head kind word name dummies) h = go word
  where
    go : (o : Option TypeWord) → AllByRecursion BoundsFit (of_head o name)
    go None = tt
    go (Some w) = (refl, tt)
in_form_fits named (Form-F.Typed ty all) h = all_map BoundsFit declarator_has_word64 (declared named _ None) (λ d e. e) all h
in_form_fits named (Form-F.Dimension all) h = all_map BoundsFit declarator_has_word64 (declared named None None) (λ d e. e) all h
in_form_fits named (Form-F.Common blocks) h = all_flat BoundsFit (λ block. list_all declarator_has_word64 block.1) (in_block named) (λ block e. all_map BoundsFit declarator_has_word64 (declared named None (Some block.0)) (λ d e. e) block.1 e) blocks h
in_form_fits named form h = tt

declarations_fit : (sts : List Stmt) (named : Told Value) → HasAll sts → AllByRecursion BoundsFit (declarations_from named sts)
declarations_fit [] named h = tt
declarations_fit (s ∷ sts) named h =
    let b = both (form_has_word64 (out-Form s.form)) _ h in
    all_append BoundsFit (in_form named (out-Form s.form)) (declarations_from (with_statement named s) sts) (in_form_fits named (out-Form s.form) b.0) (declarations_fit sts (with_statement named s) b.1)

abbrev pub ShapeFits : Shape → Type 0
ShapeFits s = list_all bound_has_word64 s.bounds ≡ true

shape_fits : (d : Declaration) → BoundsFit d → Each ShapeFits (shape_told d)
shape_fits d h = go (length d.bounds == 0)
  where
    go : (b : Bool) → Each ShapeFits (if b then [] else (d.name, record { bounds = d.bounds; size = d.size }) ∷ [])
    go true = tt
    go false = (h, tt)

told_fit : (ds : List Declaration) → AllByRecursion BoundsFit ds → Each ShapeFits (flat_map shape_told ds)
told_fit [] h = tt
told_fit (d ∷ ds) h = all_append (λ e. ShapeFits e.1) (shape_told d) (flat_map shape_told ds) (shape_fits d h.0) (told_fit ds h.1)

pub shapes_fit : (sts : List Stmt) → HasAll sts → Each ShapeFits (shapes (declarations sts))
shapes_fit sts h = told_firsts ShapeFits (flat_map shape_told (declarations sts)) [] tt (told_fit (declarations sts) (declarations_fit sts [] h))

-- ---- DATA

module _ (named : Told Value) (known : Each Has named) (meant : Name → Meant) where
  value_list_fits : (o : Option Value) → MayHave o → AllByRecursion Has (value_list named meant o)
  value_list_fits None h = tt
  value_list_fits (Some v) h = (h, tt)

  constant_fits : (e : Expr) → has_word64 e ≡ true → MayHave (constant_in named e)
  unfolding constant_in
  constant_fits e h = value_fits named known e h

  constants_of_fit : (c : DataConst) → has_word64 c.value ≡ true → AllByRecursion Has (constants_of named meant c)
  constants_of_fit c h = all_repeat Has (times named meant c.repeat) (value_list named meant (constant_in named c.value)) (value_list_fits (constant_in named c.value) (constant_fits c.value h))

  given_fits : (run : List Expr × List DataConst) → data_has_word64 run ≡ true → AllByRecursion (λ g. Has g.1) (given_by named meant run)
  given_fits run h = all_zip Has (flat_map (λ e. item_units named meant (out-Expr e)) run.0) (flat_map (constants_of named meant) run.1) (all_flat Has (λ c. has_word64 c.value) (constants_of named meant) constants_of_fit run.1 h)

  gives_fit : (form : Form-F Form) → form_has_word64 form ≡ true → AllByRecursion (λ g. Has g.1) (form_gives named meant form)
  gives_fit (Form-F.DataRuns runs) h = all_flat (λ g. Has g.1) data_has_word64 (given_by named meant) given_fits runs h
  gives_fit form h = tt

  pub initial_fits : (sts : List Stmt) → HasAll sts → AllByRecursion (λ g. Has g.1) (initial named meant sts)
  initial_fits sts h = all_flat (λ g. Has g.1) (λ s. form_has_word64 (out-Form s.form)) (λ s. form_gives named meant (out-Form s.form)) (λ s e. gives_fit (out-Form s.form) e) sts h
