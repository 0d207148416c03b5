-- The run of a unit with thin statements.
use Rattle.std.proofs.Common.{◌≡◌, ℕ, ◌≤◌, true, Some, List, [], ◌∷◌, ℤ, cond, find, length, map, flat_map, refl, ap, ◌∙◌}
use Rattle.f77_tree.specs.declared.form.Form.{out-Form}
use Rattle.f77_tree.specs.declared.unit.Unit.{Unit as SourceUnit}
use Rattle.run_model.specs.Storage.{Name}
use Rattle.f77_names.specs.Roles.{facts}
use Rattle.f77_store.specs.Layouts.{slots}
use Rattle.f77_semantics.specs.Terms.{Meant}
use Rattle.f77_semantics.specs.Resolve.{statements_from}
use Rattle.f77_semantics.specs.Data.{form_gives, initial}
use Rattle.f77_semantics.specs.Source as whole
use Rattle.f77_semantics.specs.Source.{meant_in, dummy_arrays_from, is_main, routine, main_of, with_main}
use Rattle.thin_form.specs.declared.statement.Statement.{Statement}
use Rattle.thin_code.specs.Layout.{statement_names, names_of}
use Rattle.thin_code.specs.Meaning as thin
use Rattle.thin_meaning.specs.Units.{IsThinUnit}
use Rattle.thin_meaning.specs.Laws.{UnitsRunAlike}
use Rattle.thin_meaning.proofs.Images.{image}
use Rattle.thin_meaning.proofs.Layers.{plain, none_of}
use Rattle.thin_meaning.proofs.Places.{meant}
use Rattle.thin_meaning.proofs.Looked.{among_distinct, statements_looked}
use Rattle.thin_meaning.proofs.Flowing.{begins, follows}
use Rattle.thin_meaning.proofs.Running.{Images, running_is}

module _ (u : SourceUnit) (body : List Statement) (is : IsThinUnit u body) (few : length (names_of body) ≤ 16777216) where
  abbrev stands_for : Name → Meant
  stands_for = meant_in (facts u) (slots u)

  looked : (b : _) → b ≡ true → statements_from stands_for (facts u) b u.statements 0 1 u.statements ≡ map (image (names_of body)) body
  looked b e =
      ap (λ b. statements_from stands_for (facts u) b u.statements 0 1 u.statements) e
      ∙ statements_looked (names_of body) stands_for (meant u body is few) (facts u) u.statements u.statements body is.statements (among_distinct (flat_map statement_names body)) 0 1

  gives_nothing : initial (facts u).constants stands_for u.statements ≡ []
  gives_nothing = none_of (λ s. form_gives (facts u).constants stands_for (out-Form s.form)) (λ s t h. plain (form_gives (facts u).constants stands_for) [] (λ t v. refl) (λ es. refl) refl s.form t h) u.statements body is.statements

  main_unit : is_main u.kind ≡ true
  main_unit = ap is_main is.main

  images : Images (routine u) body
  images = record {
    first = begins u.statements body is.statements;
    after = λ k t e. follows u.statements body is.statements k;
    statements = looked (is_main u.kind) main_unit;
    dummies = ap (dummy_arrays_from (facts u) stands_for 0) is.dummies;
    initial = gives_nothing;
  }

  only_main : main_of (u ∷ []) ≡ Some u
  only_main = ap (λ b. cond b (Some u) (find (λ u. is_main u.kind) [])) main_unit

  runs : (input : List ℤ) (n : ℕ) → whole.Source (u ∷ []) input n ≡ thin.Source body input n
  runs input n = ap (λ m. with_main (map routine (u ∷ [])) m input n) only_main ∙ running_is (routine u) body images input n

pub units_run_alike : UnitsRunAlike
units_run_alike u body is few input n = runs u body is few input n
