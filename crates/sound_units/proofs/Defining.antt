-- In a unit without fault 12 a named constant keeps the value that it has first.
use Rattle.std.proofs.Common.{◌≡◌, ℕ, zero, suc, ◌+◌, ◌==◌, Bool, true, false, Option, Some, None, List, [], ◌∷◌, ◌++◌, length, take, flat_map, fold, slice_get, refl, sym, ap, ◌∙◌, subst, arith}
use Rattle.std.specs.List.{list_any}
use Rattle.std.proofs.lemmas.List.{take_all}
use Rattle.std.proofs.lemmas.List.Sums.{fold-append}
use Rattle.f77_tree.specs.declared.expr.Expr.{Expr}
use Rattle.f77_tree.specs.declared.form.Form.{Form, out-Form}
use Rattle.f77_tree.specs.declared.form.Form.TheOpen.{Form-F}
use Rattle.f77_tree.specs.declared.unit.Stmt.{Stmt}
use Rattle.f77_tree.specs.declared.unit.Unit.{Unit as SourceUnit}
use Rattle.f77_tree.specs.declared.unit.Value.{Value}
use Rattle.f77_names.specs.declared.attributes.Attributes.{Attributes}
use Rattle.f77_names.specs.declared.occurrences.Manner.{Manner}
use Rattle.f77_names.specs.declared.occurrences.Manner.TheVariants as manner
use Rattle.f77_names.specs.declared.occurrences.Occurrence.{Occurrence}
use Rattle.f77_values.specs.Constants.{value_of, defined, with_constant, form_constants, with_statement, constants}
use Rattle.f77_values.specs.Tables.{Name, name_eq, is_among, Told, what}
use Rattle.f77_names.specs.Occurrences.{in_head, in_statement, occurrences, names_that}
use Rattle.f77_names.specs.Roles.{facts}
use Rattle.check_names.specs.declared.attribute.Attribute.{Attribute}
use Rattle.check_names.specs.declared.attribute.Attribute.TheVariants.{Constant}
use Rattle.check_names.specs.Exclusions.{nothing, has}
use Rattle.check_names.specs.Givings.{by_form, by_manner, by_occurrence}
use Rattle.check_names.specs.Conflicts.{given_to, conflict_in, given_by, given_at}
use Rattle.check_names.specs.Places.{where_stands, before, in_text}
use Rattle.sound_units.specs.Sites.{Each}
use Rattle.sound_units.specs.Texts.{guards_action}
use Rattle.sound_units.proofs.Giving.{gives_it, given_somewhere, given_stays, given_once, any_right, occurs_so, given_by_name}
use Rattle.sound_units.proofs.Lists.{any-append, or_left, or_right, untrue}
use Rattle.sound_units.proofs.Manners.{definitions_in, defines, defined_here}
use Rattle.sound_units.proofs.Tables.{name_self, each_of, any_here, any_flat, distinct_among, names_among, told_other, told_one, what_each}

-- ---- lists of statements

pub take_next : {A : Type 0} (xs : List A) (k : ℕ) (x : A) → slice_get xs k ≡ Some x → take (suc k) xs ≡ take k xs ++ x ∷ []
take_next [] k x e = cc
take_next (y ∷ ys) zero x e = let same : y ≡ x = cc in ap (λ y. y ∷ []) same
take_next (y ∷ ys) (suc k) x e = ap (λ zs. y ∷ zs) (take_next ys k x e)

pub take_past : {A : Type 0} (xs : List A) (k : ℕ) → slice_get xs k ≡ None → take (suc k) xs ≡ take k xs
take_past [] zero e = refl
take_past [] (suc k) e = refl
take_past (y ∷ ys) zero e = cc
take_past (y ∷ ys) (suc k) e = ap (λ zs. y ∷ zs) (take_past ys k e)

by_definitions : (named : Told Value) (F : Form-F Form) → form_constants named F ≡ fold with_constant named (definitions_in F)
by_definitions named (Form-F.Parameter all) = refl
by_definitions named F = refl

-- What is known behind a statement is what its definitions add.
pub next_constants : (ss : List Stmt) (k : ℕ) (s : Stmt) → slice_get ss k ≡ Some s → constants (take (suc k) ss) ≡ fold with_constant (constants (take k ss)) (definitions_in (out-Form s.form))
next_constants ss k s e = ap constants (take_next ss k s e) ∙ (fold-append with_statement [] (take k ss) (s ∷ []) ∙ by_definitions (constants (take k ss)) (out-Form s.form))

-- ---- tables of constants

told_defined : (Q : Name → Type 0) (named : Told Value) (name : Name) (o : Option Value) → Q name → Each (λ (p : Name × Value). Q p.0) named → Each (λ (p : Name × Value). Q p.0) (defined named name o)
told_defined Q named name None q h = h
told_defined Q named name (Some v) q h = told_one (λ (p : Name × Value). Q p.0) named name v h q

pub told_constants : (Q : Name → Type 0) (all : List (Name × Expr)) (named : Told Value) → Each (λ (d : Name × Expr). Q d.0) all → Each (λ (p : Name × Value). Q p.0) named → Each (λ (p : Name × Value). Q p.0) (fold with_constant named all)
told_constants Q [] named q h = h
told_constants Q (d ∷ all) named q h = told_constants Q all (with_constant named d) q.1 (told_defined Q named d.0 (value_of named d.1) q.0 h)

defined_other : (named : Told Value) (n : Name) (o : Option Value) (name : Name) → name_eq name n ≡ false → what (defined named n o) name ≡ what named name
defined_other named n None name h = refl
defined_other named n (Some v) name h = told_other named n v name h

-- Definitions of other names leave what is known of a name.
pub constants_other : (all : List (Name × Expr)) (named : Told Value) (name : Name) → list_any (defines name) all ≡ false → what (fold with_constant named all) name ≡ what named name
constants_other [] named name h = refl
constants_other (d ∷ all) named name h =
    constants_other all (with_constant named d) name (or_right (name_eq name d.0) (list_any (defines name) all) h)
    ∙ defined_other named d.0 (value_of named d.1) name (or_left (name_eq name d.0) (list_any (defines name) all) h)

module _ (u : SourceUnit) (apart : (k : ℕ) → conflict_in (before (given_at (facts u).attributes u) k) (given_at (facts u).attributes u k) ≡ false) (guards : (k : ℕ) (s : Stmt) → slice_get u.statements k ≡ Some s → guards_action (out-Form s.form) ≡ true) where
  abbrev a : Attributes
  a = (facts u).attributes

  abbrev ss : List Stmt
  ss = u.statements

  -- an occurrence in a statement gives there what it gives
  pub given_here : (m : Manner) (name : Name) (A : Attribute) → by_manner a m name ≡ Some A → (k : ℕ) (s : Stmt) → slice_get ss k ≡ Some s → list_any (occurs_so m name) (in_text u (k == 0) s) ≡ true → list_any (gives_it A name) (given_at a u k) ≡ true
  given_here m name A g k s e h =
      ap (λ o. list_any (gives_it A name) (where_stands [] (given_by a u (k == 0)) o)) e
      ∙ (any-append (gives_it A name) (by_form (out-Form s.form)) (flat_map (by_occurrence a) (in_text u (k == 0) s))
      ∙ any_right (list_any (gives_it A name) (by_form (out-Form s.form))) (list_any (gives_it A name) (flat_map (by_occurrence a) (in_text u (k == 0) s))) (given_by_name a m name A g (in_text u (k == 0) s) h))

  -- what stands in a statement stands in its text
  pub in_its_text : (test : Occurrence → Bool) (b : Bool) (s : Stmt) → list_any test (in_statement s) ≡ true → list_any test (in_text u b s) ≡ true
  in_its_text test true s h = any-append test (in_head u) (in_statement s) ∙ any_right (list_any test (in_head u)) (list_any test (in_statement s)) h
  in_its_text test false s h = h

  pub in_unit : (test : Occurrence → Bool) (k : ℕ) (s : Stmt) → slice_get ss k ≡ Some s → list_any test (in_statement s) ≡ true → list_any test (occurrences u) ≡ true
  in_unit test k s e h = any-append test (in_head u) (flat_map in_statement ss) ∙ any_right (list_any test (in_head u)) (list_any test (flat_map in_statement ss)) (any_flat test in_statement ss k s e h)

  abbrev all_at : Stmt → List (Name × Expr)
  all_at s = definitions_in (out-Form s.form)

  -- a definition in a statement
  defined_at : (name : Name) (k : ℕ) (s : Stmt) → slice_get ss k ≡ Some s → list_any (defines name) (all_at s) ≡ true → list_any (occurs_so manner.Defined name) (in_statement s) ≡ true
  defined_at name k s e h = defined_here name s (guards k s e) ∙ h

  gives_constant : (name : Name) (k : ℕ) (s : Stmt) → slice_get ss k ≡ Some s → list_any (defines name) (all_at s) ≡ true → list_any (gives_it Constant name) (given_at a u k) ≡ true
  gives_constant name k s e h = given_here manner.Defined name Constant refl k s e (in_its_text (occurs_so manner.Defined name) (k == 0) s (defined_at name k s e h))

  -- What PARAMETER defines is a constant of the unit.
  pub among_constants : (name : Name) (k : ℕ) (s : Stmt) → slice_get ss k ≡ Some s → list_any (defines name) (all_at s) ≡ true → is_among a.constants name ≡ true
  among_constants name k s e h =
      distinct_among (names_that manner.Defined (occurrences u)) name (names_among manner.Defined name (occurrences u) (in_unit (occurs_so manner.Defined name) k s e (defined_at name k s e h)))

  -- a constant that was given before statement k
  abbrev Given : ℕ → Name → Type 0
  Given k name = (has (given_to name (before (given_at a u) k)) Constant ≡ true) × (is_among a.constants name ≡ true)

  given_later : (k : ℕ) (name : Name) → Given k name → Given (suc k) name
  given_later k name g = (given_stays Constant name (before (given_at a u) k) (given_at a u k) g.0, g.1)

  given_now : (name : Name) (k : ℕ) (s : Stmt) → slice_get ss k ≡ Some s → list_any (defines name) (all_at s) ≡ true → Given (suc k) name
  given_now name k s e h = (
    given_somewhere Constant name (before (given_at a u) k ++ given_at a u k) nothing
        (any-append (gives_it Constant name) (before (given_at a u) k) (given_at a u k) ∙ any_right (list_any (gives_it Constant name) (before (given_at a u) k)) (list_any (gives_it Constant name) (given_at a u k)) (gives_constant name k s e h)),
    among_constants name k s e h,
  )

  not_again : (name : Name) (k : ℕ) (s : Stmt) → slice_get ss k ≡ Some s → Given k name → list_any (defines name) (all_at s) ≡ false
  not_again name k s e g = untrue (list_any (defines name) (all_at s)) (λ h. given_once Constant name refl (given_at a u k) (before (given_at a u) k) g.0 (gives_constant name k s e h) (apart k))

  abbrev AllGiven : ℕ → Told Value → Type 0
  AllGiven k named = Each (λ (p : Name × Value). Given k p.0) named

  later : (k : ℕ) (named : Told Value) → AllGiven k named → AllGiven (suc k) named
  later k [] h = tt
  later k (p ∷ named) h = (given_later k p.0 h.0, later k named h.1)

  all_given : (k : ℕ) → AllGiven k (constants (take k ss))
  all_given zero = tt
  all_given (suc k) = go (slice_get ss k) refl (later k (constants (take k ss)) (all_given k))
    where
      go : (o : Option Stmt) → slice_get ss k ≡ o → AllGiven (suc k) (constants (take k ss)) → AllGiven (suc k) (constants (take (suc k) ss))
      go None e h = subst (λ sts. AllGiven (suc k) (constants sts)) (sym (take_past ss k e)) h
      go (Some s) e h =
          subst (AllGiven (suc k)) (sym (next_constants ss k s e))
          (told_constants (Given (suc k)) (all_at s) (constants (take k ss)) (each_of (λ (d : Name × Expr). Given (suc k) d.0) (all_at s) (λ i d at. given_now d.0 k s e (any_here (defines d.0) (all_at s) i d at (name_self d.0)))) h)

  pub given_constant : (k : ℕ) (name : Name) (v : Value) → what (constants (take k ss)) name ≡ Some v → Given k name
  given_constant k name v h = what_each (λ (p : Name × Value). Given k p.0) (constants (take k ss)) name v (all_given k) h

  stays : (j k : ℕ) (name : Name) (v : Value) → what (constants (take k ss)) name ≡ Some v → what (constants (take (j + k) ss)) name ≡ Some v
  stays zero k name v h = let e : k ≡ 0 + k = omega arith in subst (λ n. what (constants (take n ss)) name ≡ Some v) e h
  stays (suc j) k name v h =
      let e : suc (j + k) ≡ suc j + k = omega arith in
      subst (λ n. what (constants (take n ss)) name ≡ Some v) e (go (slice_get ss (j + k)) refl (stays j k name v h))
    where
      go : (o : Option Stmt) → slice_get ss (j + k) ≡ o → what (constants (take (j + k) ss)) name ≡ Some v → what (constants (take (suc (j + k)) ss)) name ≡ Some v
      go None e h = ap (λ sts. what (constants sts) name) (take_past ss (j + k) e) ∙ h
      go (Some s) e h =
          ap (λ named. what named name) (next_constants ss (j + k) s e)
          ∙ (constants_other (all_at s) (constants (take (j + k) ss)) name (not_again name (j + k) s e (given_constant (j + k) name v h)) ∙ h)

  -- What is known of a constant at a statement is what is known of it in the whole unit.
  pub kept_value : (k : ℕ) (name : Name) (v : Value) → what (constants (take k ss)) name ≡ Some v → what (constants ss) name ≡ Some v
  kept_value k name v h =
      let all : take (length ss + k) ss ≡ ss = take_all (length ss + k) ss (omega arith) in
      subst (λ sts. what (constants sts) name ≡ Some v) all (stays (length ss) k name v h)
