-- The facts of a unit with thin statements: its names are scalars, and their types are those of their first letters.
use Rattle.std.proofs.Common.{◌≡◌, ℕ, Bool, true, false, ◌&&◌, nat_le, if◌then◌else◌, Option, Some, None, List, [], ◌∷◌, ◌++◌, map, flat_map, fold, option_map, slice_get, slice_index, unwrap_or, refl, ap, ◌∙◌}
use Rattle.std.specs.List.{AllZip, range_with_len}
use Rattle.std.proofs.lemmas.Option.{slice_get-map}
use Rattle.run_model.specs.Storage.{Name}
use Rattle.f77_tree.specs.declared.form.Form.{out-Form}
use Rattle.f77_tree.specs.declared.form.TypeWord.{TypeWord}
use Rattle.f77_tree.specs.declared.form.TypeWord.TheVariants as word
use Rattle.f77_tree.specs.declared.unit.Stmt.{Stmt}
use Rattle.f77_tree.specs.declared.unit.Ty.TheVariants as types
use Rattle.f77_tree.specs.declared.unit.Unit.{Unit as SourceUnit}
use Rattle.f77_tree.specs.declared.unit.Value.{Value}
use Rattle.f77_names.specs.declared.attributes.Attributes.{Attributes}
use Rattle.f77_names.specs.declared.occurrences.Manner.{Manner}
use Rattle.f77_names.specs.declared.occurrences.Manner.TheVariants as manner
use Rattle.f77_names.specs.declared.occurrences.Occurrence.{Occurrence}
use Rattle.f77_names.specs.declared.facts.Facts.{Facts}
use Rattle.f77_names.specs.declared.roles.Role.TheVariants.{Scalar}
use Rattle.f77_values.specs.Tables.{Told, distinct}
use Rattle.f77_values.specs.Constants.{with_statement, form_constants}
use Rattle.f77_names.specs.Declarations.{in_form, declarations_from, declarations, words, shapes}
use Rattle.f77_names.specs.Occurrences.{occurs, own_name, in_head, occurrences, is_manner, names_that}
use Rattle.f77_names.specs.Roles.{attributes, facts, role, type_of, known, names_with, names}
use Rattle.f77_names.specs.Types.{form_rules, statement_rules, rules, is_none, has_none, letter_word, storage_type}
use Rattle.thin_form.specs.declared.statement.Statement.{Statement}
use Rattle.thin_code.specs.Layout.{statement_names, names_of}
use Rattle.thin_meaning.specs.Units.{IsThinStmt, IsThinUnit}
use Rattle.thin_meaning.proofs.Layers.{plain, none_of, no_one, plainly, statements_occur}

-- ---- no declarations

kept_constants : (ss : List Stmt) (body : List Statement) (named : Told Value) → AllZip IsThinStmt ss body → fold with_statement named ss ≡ named
kept_constants [] [] named z = refl
kept_constants [] (t ∷ body) named z = absurd z
kept_constants (s ∷ ss) [] named z = absurd z
kept_constants (s ∷ ss) (t ∷ body) named z = ap (λ n. fold with_statement n ss) (plain (form_constants named) named (λ t v. refl) (λ es. refl) refl s.form t z.0) ∙ kept_constants ss body named z.1

no_declarations : (ss : List Stmt) (body : List Statement) (named : Told Value) → AllZip IsThinStmt ss body → declarations_from named ss ≡ []
no_declarations [] [] named z = refl
no_declarations [] (t ∷ body) named z = absurd z
no_declarations (s ∷ ss) [] named z = absurd z
no_declarations (s ∷ ss) (t ∷ body) named z = ap (λ ds. ds ++ declarations_from (with_statement named s) ss) (plain (in_form named) [] (λ t v. refl) (λ es. refl) refl s.form t z.0) ∙ no_declarations ss body (with_statement named s) z.1

no_rules : (ss : List Stmt) (body : List Statement) → AllZip IsThinStmt ss body → rules ss ≡ []
no_rules ss body z = none_of statement_rules (λ s t h. plain form_rules [] (λ t v. refl) (λ es. refl) refl s.form t h) ss body z

no_none : (ss : List Stmt) (body : List Statement) → AllZip IsThinStmt ss body → has_none ss ≡ false
no_none ss body z = no_one (λ s. is_none (out-Form s.form)) (λ s t h. plain is_none false (λ t v. refl) (λ es. refl) refl s.form t h) ss body z

-- ---- names without lists

no_others : (m : Manner) → is_manner m manner.Plain ≡ false → (ns : List Name) → names_that m (plainly ns) ≡ []
no_others m e [] = refl
no_others m e (n ∷ ns) = ap (λ b. (if b then n ∷ [] else []) ++ names_that m (plainly ns)) e ∙ no_others m e ns

names_back : (ns : List Name) → map (λ (o : Occurrence). o.name) (plainly ns) ≡ ns
names_back [] = refl
names_back (n ∷ ns) = ap (λ ns. n ∷ ns) (names_back ns)

abbrev pub thin_attributes : Attributes
thin_attributes = record { dummies = []; arrays = []; constants = []; external = []; intrinsic = []; called = []; listed = [] }

abbrev pub thin_letters : List TypeWord
thin_letters = map (letter_word [] false) (range_with_len 0 256)

abbrev pub thin_facts : Facts
thin_facts = record { attributes = thin_attributes; constants = []; shapes = []; words = []; letters = thin_letters }

thin_attributes_are : (ns : List Name) → attributes (plainly ns) ≡ thin_attributes
thin_attributes_are ns = λ i. record {
  dummies = distinct (no_others manner.Dummy refl ns i);
  arrays = distinct (no_others manner.Dimensioned refl ns i);
  constants = distinct (no_others manner.Defined refl ns i);
  external = distinct (no_others manner.External refl ns i);
  intrinsic = distinct (no_others manner.Intrinsic refl ns i);
  called = distinct (no_others manner.Called refl ns i);
  listed = distinct (no_others manner.Listed refl ns i);
}

-- ---- the facts

module _ (u : SourceUnit) (body : List Statement) (is : IsThinUnit u body) where
  -- the names of the text, as often as they stand there
  abbrev all_names : List Name
  all_names = flat_map statement_names body

  no_head : in_head u ≡ []
  no_head = λ i. own_name (is.main i) u.name ++ map (occurs manner.Dummy) (is.dummies i)

  pub occurrences_are : occurrences u ≡ plainly all_names
  occurrences_are = λ i. no_head i ++ statements_occur u.statements body is.statements i

  pub declarations_are : declarations u.statements ≡ []
  declarations_are = no_declarations u.statements body [] is.statements

  pub facts_are : facts u ≡ thin_facts
  facts_are =
      let all : attributes (occurrences u) ≡ thin_attributes = ap attributes occurrences_are ∙ thin_attributes_are all_names in
      λ i. record {
        attributes = all i;
        constants = kept_constants u.statements body [] is.statements i;
        shapes = shapes (declarations_are i);
        words = words (declarations_are i);
        letters = map (letter_word (no_rules u.statements body is.statements i) (no_none u.statements body is.statements i)) (range_with_len 0 256);
      }

  pub names_are : names u ≡ map (known thin_facts) (names_of body)
  names_are =
      (λ i. names_with (facts_are i) (occurrences_are i))
      ∙ ap (λ ns. map (known thin_facts) (distinct ns)) (names_back all_names)

-- ---- roles and types

pub scalar : (name : Name) → role thin_facts name ≡ Scalar
scalar name = refl

word_type : (b : Bool) → unwrap_or (storage_type (if b then word.Integer else word.Real)) types.Integer ≡ types.Integer
word_type true = refl
word_type false = refl

letter_type : (o : Option ℕ) → unwrap_or (storage_type (unwrap_or (option_map (letter_word [] false) o) word.Real)) types.Integer ≡ types.Integer
letter_type None = refl
letter_type (Some letter) = word_type (nat_le 73 letter && nat_le letter 78)

-- a cell has type INTEGER, by default too
pub integer : (name : Name) → unwrap_or (type_of thin_facts name) types.Integer ≡ types.Integer
integer name =
    ap (λ o. unwrap_or (storage_type (unwrap_or o word.Real)) types.Integer) (slice_get-map (letter_word [] false) (range_with_len 0 256) (slice_index name 0))
    ∙ letter_type (slice_get (range_with_len 0 256) (slice_index name 0))
