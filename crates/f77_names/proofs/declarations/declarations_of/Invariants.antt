use Rattle.std.proofs.Common.{◌≡◌, ◌++◌, drop}
use Rattle.f77_names.specs.Declarations.{declarations_from, declarations}
use Rattle.f77_names.proofs.declarations.declarations_of.Given as goal

-- those so far and those of the statements still to come
abbrev pub invariant-loop-statement : goal.invariant-loop-statement
invariant-loop-statement l = l.found ++ declarations_from l.constants (drop l.statement-index l.statement-items) ≡ declarations l.statement-items
