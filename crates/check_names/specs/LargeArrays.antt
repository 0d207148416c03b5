-- Fault 37 on one array: it has more storage units than an array may have.
use Rattle.std.specs.Prelude.{ℕ, Bool, false, not, ◌&&◌, nat_lt, List, Option, Some, None, slice_get, take}
use Rattle.std.specs.List.{list_any}
use Rattle.f77_tree.specs.declared.form.Declarator.{Declarator}
use Rattle.f77_tree.specs.declared.form.Form.{Form}
use Rattle.f77_tree.specs.declared.form.Form.TheViews.{out-Form}
use Rattle.f77_tree.specs.declared.form.Form.TheOpen.{Form-F}
use Rattle.f77_tree.specs.declared.unit.Unit.{Unit}
use Rattle.f77_tree.specs.declared.unit.Value.{Value}
use Rattle.f77_names.specs.declared.attributes.Attributes.{Attributes}
use Rattle.f77_values.specs.Tables.{Name, Told, is_among}
use Rattle.f77_values.specs.Constants.{constants}
use Rattle.f77_values.specs.Sizes.{elements}
use Rattle.check_names.specs.Places.{where_stands}

abbrev pub most_units : ℕ
most_units = 16777216

abbrev pub exceeds : Option ℕ → Bool
exceeds None = false
exceeds (Some n) = nat_lt most_units n

-- A dummy array has no storage of its own.
abbrev pub is_large : Attributes → Told Value → Declarator → Bool
is_large a named d = exceeds (elements named d.bounds) && not (is_among a.dummies d.name)

abbrev pub has_large_in : Attributes → Told Value → Name × List Declarator → Bool
has_large_in a named block = list_any (is_large a named) block.1

abbrev pub has_large : Attributes → Told Value → Form-F Form → Bool
has_large a named (Form-F.Typed ty all) = list_any (is_large a named) all
has_large a named (Form-F.Dimension all) = list_any (is_large a named) all
has_large a named (Form-F.Common blocks) = list_any (has_large_in a named) blocks
has_large a named _ = false

-- A declarator of statement k makes it, under the named constants that are known there.
abbrev pub large_at : Attributes → Unit → ℕ → Bool
large_at a u k = where_stands false (λ s. has_large a (constants (take k u.statements)) (out-Form s.form)) (slice_get u.statements k)
