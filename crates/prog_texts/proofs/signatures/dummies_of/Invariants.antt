use Rattle.std.proofs.Common.{◌≡◌, ◌++◌, drop, map}
use Rattle.prog_texts.specs.Signatures.{dummy}
use Rattle.prog_texts.proofs.signatures.dummies_of.Given as goal

abbrev pub invariant-loop-name : goal.invariant-loop-name
invariant-loop-name l = l.all ++ map (dummy l.facts) (drop l.name-index l.name-items) ≡ map (dummy l.facts) l.name-items
