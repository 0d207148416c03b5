use Rattle.std.proofs.Common.{◌≡◌, ◌++◌, drop}
use Rattle.check_constants.specs.Defined.{with_statement, nothing}
use Rattle.check_data.specs.DataFaults.{statement_wrong}
use Rattle.check_constants.specs.Passes.{flags_from}
use Rattle.check_data.proofs.passes.wrong_data.Given as goal

-- the flags so far, and those still to come under what is defined so far
abbrev pub invariant-loop-statement : goal.invariant-loop-statement
invariant-loop-statement l =
    l.flags ++ flags_from with_statement (statement_wrong l.kind l.facts l.commons l.measures) l.defined (drop l.statement-index l.statement-items)
    ≡ flags_from with_statement (statement_wrong l.kind l.facts l.commons l.measures) nothing l.statement-items
