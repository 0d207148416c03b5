-- Fault 12: a name is given what excludes what it was given before.
use Rattle.std.specs.Prelude.{ℕ, ◌==◌, Bool, false, ◌||◌, [], ◌∷◌, ◌++◌, if◌then◌else◌, slice_get, fold, flat_map}
use Rattle.f77_tree.specs.declared.form.Form.TheViews.{out-Form}
use Rattle.f77_tree.specs.declared.unit.Stmt.{Stmt}
use Rattle.f77_tree.specs.declared.unit.Unit.{Unit}
use Rattle.f77_names.specs.declared.attributes.Attributes.{Attributes}
use Rattle.f77_values.specs.Tables.{Name, name_eq}
use Rattle.check_names.specs.declared.attribute.Given.{Given}
use Rattle.check_names.specs.declared.givings.Giving.{Giving}
use Rattle.check_names.specs.Exclusions.{nothing, with_attribute, conflicts}
use Rattle.check_names.specs.Givings.{Givings, by_form, by_occurrence}
use Rattle.check_names.specs.Places.{where_stands, before, in_text}

-- what a name has been given by all these
abbrev pub with_giving : Name → Given → Giving → Given
with_giving name given g = if name_eq g.name name then with_attribute given g.attribute else given

abbrev pub given_to : Name → Givings → Given
given_to name all = fold (with_giving name) nothing all

-- One of these gives a name what excludes what was given to it before, by the earlier ones or by those that stand before it here.
abbrev pub conflict_in : Givings → Givings → Bool
conflict_in earlier [] = false
conflict_in earlier (g ∷ others) = conflicts (given_to g.name earlier) g.attribute || conflict_in (earlier ++ g ∷ []) others

-- what a statement gives to names, the first one with the head's
abbrev pub given_by : Attributes → Unit → Bool → Stmt → Givings
given_by a u first s = by_form (out-Form s.form) ++ flat_map (by_occurrence a) (in_text u first s)

abbrev pub given_at : Attributes → Unit → ℕ → Givings
given_at a u k = where_stands [] (given_by a u (k == 0)) (slice_get u.statements k)

-- Of two that exclude each other the fault stands at the later of those that first give them; of what is given once, at each that
-- gives it again.
abbrev pub conflicts_at : Attributes → Unit → ℕ → Bool
conflicts_at a u k = conflict_in (before (given_at a u) k) (given_at a u k)
