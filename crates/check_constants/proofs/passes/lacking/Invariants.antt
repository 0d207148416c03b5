use Rattle.std.proofs.Common.{◌≡◌, ◌++◌, drop}
use Rattle.check_constants.specs.Defined.{with_statement, nothing}
use Rattle.check_constants.specs.Needed.{statement_lacks}
use Rattle.check_constants.specs.Passes.{flags_from}
use Rattle.check_constants.proofs.passes.lacking.Given as goal

-- the flags so far, and those still to come under what is defined so far
abbrev pub invariant-loop-statement : goal.invariant-loop-statement
invariant-loop-statement l =
    l.flags ++ flags_from with_statement (statement_lacks l.facts l.commons) l.defined (drop l.statement-index l.statement-items)
    ≡ flags_from with_statement (statement_lacks l.facts l.commons) nothing l.statement-items
