-- What activations stand for.
use Rattle.std.specs.Prelude.{ℕ, List, [], ◌∷◌, Option, None, Some, pos, map, slice_index_or}
use Rattle.run_model.specs.Storage as run
use Rattle.f77_semantics.specs.Expressions as running
use Rattle.interp_cells.specs.Spots.{area_of}
use Rattle.f77_semantics.specs.declared.storage.Extent.{Extent}
use Rattle.interp_steps.specs.declared.frame.Interval.{Interval}
use Rattle.interp_steps.specs.declared.frame.Frame.{Frame}

abbrev pub interval_of : Interval → run.Interval
interval_of i = record { area = area_of i.area; from = i.from; length = i.length }

-- A dummy array has no element before its bounds are known.
abbrev pub shape_of : Option (List Extent) → List Extent
shape_of None = record { lower = pos 1; size = 0 } ∷ []
shape_of (Some es) = es

abbrev pub shape_at : List (Option (List Extent)) → ℕ → List Extent
shape_at shapes k = shape_of (slice_index_or shapes k None)

abbrev pub frame_of : Frame → running.Frame
frame_of f = record { unit = f.unit.now; actuals = map interval_of f.actuals.items; shapes = shape_at f.shapes.items }
