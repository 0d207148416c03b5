use Rattle.std.proofs.Common.{◌≡◌, ◌++◌, drop, map}
use Rattle.f77_names.specs.Roles.{known}
use Rattle.f77_names.proofs.roles.all_known.Given as goal

abbrev pub invariant-loop-name : goal.invariant-loop-name
invariant-loop-name l = l.found ++ map (known l.facts) (drop l.name-index l.name-items) ≡ map (known l.facts) l.name-items
