use Rattle.std.proofs.Common.{◌<◌, sym, ap, ◌∙◌, arith}
use Rattle.run_model.specs.Acts.{Done}
use Rattle.run_model.specs.Turns.{Again}
use Rattle.f77_flow.specs.Graph.{At}
use Rattle.interp_turns.specs.declared.here.Loop.{Loop}
use Rattle.interp_turns.specs.Places.{here_of, loop_of}
use Rattle.interp_turns.proofs.Counts.{tested_leaves, tested_runs}
use Rattle.interp_turns.proofs.loops.tested.Goals as goal

pub returns-then-count-eq0-clause-turn : goal.returns-then-count-eq0-clause-turn
returns-then-count-eq0-clause-turn c = λ u follows.
    let s = here_of c.args.here.now in
    let e = ap (λ (l : Loop). (loop_of l).count) c.get-left.ensures in
    tested_leaves u c.args.k s (sym e ∙ c.if-count-eq0.true) ∙ ap (λ p. Done (Again (record s { point = p }))) (follows.leaving c.args.k ∙ sym c.leaving-here.ensures.value)

pub returns-else-count-eq0-clause-turn : goal.returns-else-count-eq0-clause-turn
returns-else-count-eq0-clause-turn c = λ u follows.
    let s = here_of c.args.here.now in
    let e = ap (λ (l : Loop). (loop_of l).count) c.get-left.ensures in
    let more : 0 < (s.loops c.args.k).count = omega (arith, e) in
    tested_runs u c.args.k s more ∙ ap (λ k. Done (Again (record s { point = At k }))) (follows.below c.args.k ∙ sym c.below.ensures.value)
