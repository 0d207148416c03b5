use Rattle.std.proofs.Common.{map, take}
use Rattle.f77_flow.specs.Labels.{target}
use Rattle.f77_flow.specs.Graph.{At}
use Rattle.f77_flow.specs.Adding.{Adds}
use Rattle.f77_flow.proofs.simple.push_targets.Given as goal

abbrev pub invariant-loop-label : goal.invariant-loop-label
invariant-loop-label l = Adds l.control.statements.now (map (λ label. At (target l.control.statements.now label)) (take l.label-index l.labels)) l.fn.all l.all
