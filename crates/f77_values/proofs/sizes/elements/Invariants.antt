use Rattle.std.proofs.Common.{◌≡◌, take}
use Rattle.std.specs.Option.{option_map}
use Rattle.f77_values.specs.Tables.{saturated}
use Rattle.f77_values.specs.Sizes.{elements}
use Rattle.f77_values.proofs.sizes.elements.Given as goal

abbrev pub invariant-loop-bound : goal.invariant-loop-bound
invariant-loop-bound l = l.size ≡ option_map saturated (elements l.constants (take l.bound-index l.bound-items))
