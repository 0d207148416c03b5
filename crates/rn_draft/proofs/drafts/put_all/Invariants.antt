use Rattle.std.proofs.Common.{◌≡◌, [], map, fold, reverse, length}
use Rattle.f77_values.specs.Tables.{with_pair}
use Rattle.rn_draft.specs.Drafts.{named}
use Rattle.rn_draft.proofs.drafts.put_all.Given as goal

abbrev pub invariant-loop-unit : goal.invariant-loop-unit
invariant-loop-unit l = fold with_pair [] (map named (reverse l.fn.back)) ≡ fold with_pair l.draft.entries (map named (reverse l.back))

abbrev pub decreases-loop-unit : goal.decreases-loop-unit
decreases-loop-unit l = length l.back
