use Rattle.std.proofs.Common.{◌≡◌, ℕ, ap, pos, replicate, rules}
use Rattle.f77_flow.specs.Graph.{At}
use Rattle.f77_semantics.specs.Statements as running
use Rattle.interp_turns.proofs.Counts.{all_fresh}
use Rattle.interp_turns.proofs.here.Here.new.Goals as goal

pub returns-clause-place : goal.returns-clause-place
returns-clause-place c =
    let e : c.in_ok-loops.loops.items ≡ replicate c.args.statements (record { count = 0; step = pos 1 }) = search rules in
    ap (λ (loops : ℕ → running.Loop). record { point = At c.args.first; loops = loops }) (all_fresh c.in_ok-loops.loops.items c.args.statements e)
