use Rattle.std.proofs.Common.{◌≡◌, drop, fold, flat_map}
use Rattle.f77_values.specs.Tables.{with_first}
use Rattle.f77_names.specs.Declarations.{shape_told, shapes}
use Rattle.f77_names.proofs.declarations.shapes_of.Given as goal

-- what is still to come makes of what is told so far what is wanted
abbrev pub invariant-loop-declaration : goal.invariant-loop-declaration
invariant-loop-declaration l = fold with_first l.shapes (flat_map shape_told (drop l.declaration-index l.declaration-items)) ≡ shapes l.declaration-items
