use Rattle.std.proofs.Common.{◌≡◌, ◌++◌, drop, map}
use Rattle.f77_flow.specs.Labels.{target}
use Rattle.interp_lower.proofs.simple.targets_of.Given as goal

abbrev pub invariant-loop-label : goal.invariant-loop-label
invariant-loop-label l = l.all ++ map (target l.control.statements.now) (drop l.label-index l.label-items) ≡ map (target l.control.statements.now) l.label-items
