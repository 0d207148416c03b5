use Rattle.std.proofs.Common.{rules, ◌≡◌, sym, subst, []}
use Rattle.std.specs.Ordering.{nat_cmp}
use Rattle.rn_lattice.specs.Order.{IsJoin}
use Rattle.rn_lattice.specs.Maps.{map_leq, IsMap}
use Rattle.iv_set.specs.Sets.{leq, IsSet}
use Rattle.item_maps.specs.Relation.{IsPairs}
use Rattle.item_maps.proofs.Inclusion.{copied}
use Rattle.item_maps.proofs.pairs.Pairs.copy.Goals as goal

pub invariant_of-result : goal.invariant_of-result
invariant_of-result c =
    let pairs : IsPairs c.args.self.now = subst IsPairs c.self.view_is c.self.invariant in
    let joins : IsJoin (IsMap nat_cmp IsSet []) (map_leq nat_cmp leq []) [] c.args.self.now c.join.new.self = search rules in
    subst IsPairs (sym (copied c.args.self.now c.join.new.self pairs.map joins)) pairs

pub returns : goal.returns
returns c =
    let pairs : IsPairs c.args.self.now = subst IsPairs c.self.view_is c.self.invariant in
    let joins : IsJoin (IsMap nat_cmp IsSet []) (map_leq nat_cmp leq []) [] c.args.self.now c.join.new.self = search rules in
    copied c.args.self.now c.join.new.self pairs.map joins
