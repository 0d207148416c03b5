use Rattle.std.proofs.Common.{ap, ℕ}
use Rattle.f77_semantics.specs.Statements as running
use Rattle.interp_turns.specs.Places.{here_of}
use Rattle.interp_turns.proofs.Counts.{set_is}
use Rattle.interp_turns.proofs.here.Here.set.Goals as goal

pub returns-clause-place : goal.returns-clause-place
returns-clause-place c = ap (λ (ls : ℕ → running.Loop). record (here_of c.args.self.now) { loops = ls }) (set_is c.args.self.now.loops.items c.args.k c.args.left c.requires)
