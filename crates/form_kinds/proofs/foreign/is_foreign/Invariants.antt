use Rattle.std.proofs.Common.{length}
use Rattle.form_kinds.specs.Foreign.{IsForeign}
use Rattle.form_kinds.proofs.foreign.is_foreign.Given as goal

abbrev pub invariant-inside : goal.invariant-inside
invariant-inside l = record {
  yes : IsForeign l.rest → IsForeign l.text;
  no : IsForeign l.text → IsForeign l.rest;
}

abbrev pub decreases-inside : goal.decreases-inside
decreases-inside l = length l.rest
