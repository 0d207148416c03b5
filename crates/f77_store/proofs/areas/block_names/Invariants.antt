use Rattle.std.proofs.Common.{◌≡◌, drop, fold, map}
use Rattle.f77_values.specs.Tables.{with_name, distinct}
use Rattle.f77_store.proofs.areas.block_names.Given as goal

-- the names that are still to come make of those so far what is wanted
abbrev pub invariant-loop-member : goal.invariant-loop-member
invariant-loop-member l = fold with_name l.names (map (λ m. m.block) (drop l.member-index l.member-items)) ≡ distinct (map (λ m. m.block) l.member-items)
