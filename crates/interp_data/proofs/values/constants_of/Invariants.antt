use Rattle.std.proofs.Common.{◌≡◌, ◌++◌, drop, flat_map}
use Rattle.f77_semantics.specs.Data.{constants_of}
use Rattle.interp_data.specs.Meant.{meant}
use Rattle.interp_data.specs.Spans.{values_of}
use Rattle.interp_data.proofs.values.constants_of.Given as goal

abbrev pub invariant-loop-c : goal.invariant-loop-c
invariant-loop-c l = flat_map values_of l.all ++ flat_map (constants_of l.names.facts.constants (meant l.names)) (drop l.c-index l.c-items) ≡ flat_map (constants_of l.names.facts.constants (meant l.names)) l.c-items
