use Rattle.std.proofs.Common.{◌≡◌, ◌++◌, drop, map}
use Rattle.prog_texts.specs.Mentions.{actual}
use Rattle.prog_texts.proofs.texts.actuals_of.Given as goal

abbrev pub invariant-loop-e : goal.invariant-loop-e
invariant-loop-e l = l.all ++ map (actual l.facts) (drop l.e-index l.e-items) ≡ map (actual l.facts) l.e-items
