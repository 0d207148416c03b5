use Rattle.std.proofs.Common.{◌≡◌, ◌++◌, drop, map, fold}
use Rattle.f77_values.specs.Tables.{with_pair}
use Rattle.prog_texts.specs.Mentions.{mentions}
use Rattle.prog_texts.specs.Signatures.{named_from, signatures}
use Rattle.prog_texts.proofs.programs.program_of.Given as goal

-- the units that are still to come make of those so far what is wanted
abbrev pub invariant-loop-place : goal.invariant-loop-place
invariant-loop-place l = record {
  signatures : fold with_pair l.signatures (named_from l.place (drop l.place l.units)) ≡ signatures l.units;
  texts : l.texts ++ map mentions (drop l.place l.units) ≡ map mentions l.units;
}
