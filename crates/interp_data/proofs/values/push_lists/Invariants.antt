use Rattle.std.proofs.Common.{◌≡◌, ◌++◌, drop, flat_map}
use Rattle.f77_semantics.specs.Data.{given_by}
use Rattle.interp_data.specs.Meant.{meant}
use Rattle.interp_data.specs.Spans.{units_of}
use Rattle.interp_data.proofs.values.push_lists.Given as goal

abbrev pub invariant-loop-run : goal.invariant-loop-run
invariant-loop-run l = flat_map units_of l.found ++ flat_map (given_by l.names.facts.constants (meant l.names)) (drop l.run-index l.run-items) ≡ flat_map units_of l.initial.found ++ flat_map (given_by l.names.facts.constants (meant l.names)) l.run-items
