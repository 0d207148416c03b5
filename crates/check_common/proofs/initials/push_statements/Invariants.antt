use Rattle.std.proofs.Common.{◌≡◌, [], ◌++◌, drop}
use Rattle.check_common.specs.Initials.{statements_from}
use Rattle.check_common.proofs.initials.push_statements.Given as goal

-- the runs so far, and those still to come under what is defined so far
abbrev pub invariant-loop-statement : goal.invariant-loop-statement
invariant-loop-statement l =
    l.found.items ++ statements_from l.storage l.unit l.named (drop l.statement-index l.statement-items)
    ≡ l.initial.found.items ++ statements_from l.storage l.unit [] l.statement-items
