use Rattle.std.proofs.Common.{◌≡◌, ◌++◌, drop, map}
use Rattle.f77_names.specs.Occurrences.{occurs}
use Rattle.f77_names.proofs.occurrences.push_names.Given as goal

abbrev pub invariant-loop-name : goal.invariant-loop-name
invariant-loop-name l = l.found ++ map (occurs l.manner) (drop l.name-index l.name-items) ≡ l.initial.found ++ map (occurs l.manner) l.name-items
