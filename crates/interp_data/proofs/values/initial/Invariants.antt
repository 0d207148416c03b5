use Rattle.std.proofs.Common.{◌≡◌, ◌++◌, drop, flat_map}
use Rattle.f77_semantics.specs.Data.{initial}
use Rattle.interp_data.specs.Meant.{meant}
use Rattle.interp_data.specs.Spans.{units_of}
use Rattle.interp_data.proofs.values.initial.Given as goal

abbrev pub invariant-loop-statement : goal.invariant-loop-statement
invariant-loop-statement l = flat_map units_of l.all ++ initial l.names.facts.constants (meant l.names) (drop l.statement-index l.statement-items) ≡ initial l.names.facts.constants (meant l.names) l.statement-items
