use Rattle.std.proofs.Common.{◌≡◌, drop, fold, map}
use Rattle.f77_values.specs.Tables.{with_name}
use Rattle.f77_names.specs.Roles.{in_order}
use Rattle.f77_names.proofs.roles.in_order.Given as goal

-- the names that are still to come make of those so far what is wanted
abbrev pub invariant-loop-occurrence : goal.invariant-loop-occurrence
invariant-loop-occurrence l = fold with_name l.names (map (λ o. o.name) (drop l.occurrence-index l.occurrence-items)) ≡ in_order l.occurrence-items
