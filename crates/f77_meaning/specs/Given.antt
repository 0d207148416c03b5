-- What DATA gives to the cells, over those that are given already.
use Rattle.std.specs.Prelude.{List, [], ◌∷◌, Some, cond, pos, flat_map}
use Rattle.run_model.specs.Storage.{Cells, loc_eq}
use Rattle.f77_tree.specs.declared.unit.Value.{Value}
use Rattle.f77_values.specs.Tables.{Name}
use Rattle.f77_semantics.specs.Values.{stored}
use Rattle.f77_semantics.specs.declared.storage.Base.{Base}
use Rattle.f77_semantics.specs.Expressions.{Frame, scalar}
use Rattle.interp_data.specs.Spans.{units_of}
use Rattle.interp_calls.specs.declared.procedure.Procedure.{Procedure}

-- a unit of this name that isn't called
abbrev pub idle : Name → Frame
idle name = record { unit = name; actuals = []; shapes = λ k. record { lower = pos 1; size = 0 } ∷ [] }

-- the first that gives a cell wins
abbrev pub given_over : Name → List (Base × Value) → Cells → Cells
given_over name [] cells l = cells l
given_over name (c ∷ cs) cells l = cond (loc_eq (scalar (idle name) c.0) l) (Some (stored c.1)) (given_over name cs cells l)

abbrev pub given_by : List Procedure → Cells → Cells
given_by [] cells = cells
given_by (p ∷ ps) cells = given_over p.routine.name (flat_map units_of p.routine.cells.initial) (given_by ps cells)
