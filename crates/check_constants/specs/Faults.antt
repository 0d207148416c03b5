-- The fault of a unit in its constant expressions.
use Rattle.std.specs.Prelude.{ℕ}
use Rattle.f77_tree.specs.declared.unit.Unit.{Unit}
use Rattle.f77_store.specs.declared.areas.Place.{Place}
use Rattle.f77_values.specs.Tables.{Told}
use Rattle.f77_store.specs.Areas.{commons}
use Rattle.f77_names.specs.Declarations.{declarations}
use Rattle.f77_store.specs.Layouts.{common_places}
use Rattle.f77_names.specs.Roles.{facts}
use Rattle.fault_marks.specs.declared.marks.Mark.{Mark}
use Rattle.fault_marks.specs.Places.{ShowsAt}
use Rattle.check_constants.specs.Defined.{nothing, with_statement}
use Rattle.check_constants.specs.Needed.{statement_lacks}
use Rattle.check_constants.specs.Passes.{HoldsAt}

-- where the names in COMMON stand
abbrev pub in_commons : Unit → Told Place
in_commons u = common_places (facts u) (commons (declarations u.statements))

-- A constant expression is needed at statement k, and there is none.
abbrev pub NeedsConstant : Unit → ℕ → Type 0
NeedsConstant u k = HoldsAt with_statement (statement_lacks (facts u) (in_commons u)) nothing u.statements k

-- A statement shows it.
abbrev pub ConstantFaults : Unit → Mark → Type 0
ConstantFaults u mark = ShowsAt u.statements (NeedsConstant u) 22 0 mark
