-- The sites of an expression are the callees that stand in it, so each is numbered once, in the order of the text.
use Rattle.std.specs.Prelude.{◌≡◌, Bool, true, false, length}
use Rattle.f77_tree.specs.declared.expr.Expr.{Expr}
use Rattle.f77_tree.specs.declared.unit.Unit.{Unit}
use Rattle.f77_names.specs.declared.facts.Facts.{Facts}
use Rattle.f77_values.specs.Tables.{Name}
use Rattle.f77_names.specs.Occurrences.{in_expr}
use Rattle.f77_names.specs.Roles.{facts, is_function}
use Rattle.f77_store.specs.Layouts.{slots, callees_with}
use Rattle.f77_semantics.specs.Terms.{Meant, Function, sites_in, resolved}
use Rattle.f77_semantics.specs.Source.{meant_in}

abbrev pub refers : Meant → Bool
refers Function = true
refers _ = false

-- The names with the role of a function are those that are applied as functions, as in every unit without fault 12.
abbrev pub FunctionsAgree : Facts → (Name → Meant) → Type 0
FunctionsAgree f meant = (name : Name) → is_function f.attributes name ≡ refers (meant name)

abbrev pub SitesAreCallees : Type 0
SitesAreCallees = (u : Unit) → FunctionsAgree (facts u) (meant_in (facts u) (slots u)) → (e : Expr) → sites_in (resolved (meant_in (facts u) (slots u)) e) ≡ length (callees_with (facts u) (in_expr e))
