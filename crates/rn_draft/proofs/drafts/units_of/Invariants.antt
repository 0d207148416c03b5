use Rattle.std.proofs.Common.{◌≡◌, ◌++◌, map}
use Rattle.rn_draft.proofs.drafts.units_of.Given as goal

abbrev pub invariant-loop-unit : goal.invariant-loop-unit
invariant-loop-unit l = l.all.items ++ l.unit-iterator ≡ map (λ entry. entry.1) l.fn.draft.entries
