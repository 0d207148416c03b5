use Rattle.std.proofs.Common.{◌≡◌, ◌++◌, drop, flat_map}
use Rattle.interp_data.specs.Meant.{meant}
use Rattle.interp_data.specs.Spans.{places_of, items_units}
use Rattle.interp_data.proofs.values.places_of.Given as goal

abbrev pub invariant-loop-item : goal.invariant-loop-item
invariant-loop-item l = flat_map places_of l.all ++ items_units l.names.facts.constants (meant l.names) (drop l.item-index l.item-items) ≡ items_units l.names.facts.constants (meant l.names) l.item-items
