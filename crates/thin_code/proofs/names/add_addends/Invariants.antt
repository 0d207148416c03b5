use Rattle.std.proofs.Common.{◌≡◌, drop, fold, flat_map}
use Rattle.thin_code.specs.Layout.{term_names, with_name}
use Rattle.thin_code.proofs.names.add_addends.Given as goal

-- the names that are still to come make of those so far what is wanted
abbrev pub invariant-loop-addend : goal.invariant-loop-addend
invariant-loop-addend l = fold with_name l.names.keys (flat_map (λ a. term_names a.term) (drop l.addend-index l.more)) ≡ fold with_name l.initial.names.keys (flat_map (λ a. term_names a.term) l.more)
