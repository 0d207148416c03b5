-- What spans of units and of values stand for, one by one.
use Rattle.std.specs.Prelude.{ℕ, ℤ, List, [], ◌∷◌, Option, None, map, flat_map}
use Rattle.std.specs.List.{range_with_len, repeat}
use Rattle.f77_tree.specs.declared.expr.Expr.{Expr, out-Expr}
use Rattle.f77_tree.specs.declared.unit.Value.{Value}
use Rattle.f77_values.specs.Tables.{Name, Told}
use Rattle.f77_semantics.specs.declared.storage.Base.{Base}
use Rattle.f77_semantics.specs.declared.storage.Bounds.{Bounds}
use Rattle.f77_semantics.specs.declared.storage.Bounds.TheVariants.{AtEntry, Known}
use Rattle.f77_semantics.specs.Expressions.{numbered}
use Rattle.f77_semantics.specs.Terms.{Meant}
use Rattle.f77_semantics.specs.Data.{beyond, item_units}
use Rattle.interp_data.specs.declared.spans.Places.{Places}
use Rattle.interp_data.specs.declared.spans.Repeated.{Repeated}
use Rattle.interp_data.specs.declared.spans.Span.{Span}

abbrev pub places_from : Base → (skip count : ℕ) → List Base
places_from base skip count = map (beyond base) (range_with_len skip count)

abbrev pub given_from : Base → (skip count : ℕ) → Value → List (Base × Value)
given_from base skip count v = map (λ k. (beyond base k, v)) (range_with_len skip count)

abbrev pub places_of : Places → List Base
places_of p = places_from p.base p.skip p.count

abbrev pub values_of : Repeated → List Value
values_of r = repeat r.count (r.value ∷ [])

abbrev pub units_of : Span → List (Base × Value)
units_of r = given_from r.base r.skip r.count r.value

-- the number of an element by its constant subscripts
abbrev pub element_number : Bounds → List ℤ → Option ℕ
element_number (Known extents) is = numbered extents is
element_number (AtEntry k) is = None

-- the units of items of DATA
abbrev pub items_units : Told Value → (Name → Meant) → List Expr → List Base
items_units named meant items = flat_map (λ e. item_units named meant (out-Expr e)) items
