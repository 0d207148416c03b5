use Rattle.std.proofs.Common.{◌≡◌, drop, fold, flat_map}
use Rattle.thin_code.specs.Layout.{statement_names, with_name, names_of}
use Rattle.thin_code.proofs.names.names_of.Given as goal

-- the names that are still to come make of those so far what is wanted
abbrev pub invariant-loop-statement : goal.invariant-loop-statement
invariant-loop-statement l = fold with_name l.names.keys (flat_map statement_names (drop l.statement-index l.body)) ≡ names_of l.body
