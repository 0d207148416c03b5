use Rattle.std.proofs.Common.{◌≡◌, ◌++◌, drop, map}
use Rattle.f77_semantics.specs.Source.{dummy_arrays_from}
use Rattle.interp_data.specs.Meant.{meant}
use Rattle.interp_lower.specs.Routines.{dummy_of, dummy_as}
use Rattle.interp_lower.proofs.arrays.dummy_arrays.Given as goal

abbrev pub invariant-loop-k : goal.invariant-loop-k
invariant-loop-k l = map dummy_of l.found ++ map dummy_as (dummy_arrays_from l.names.facts (meant l.names) l.k (drop l.k l.all)) ≡ map dummy_as (dummy_arrays_from l.names.facts (meant l.names) 0 l.all)
