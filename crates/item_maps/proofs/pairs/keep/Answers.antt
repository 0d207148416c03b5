use Rattle.std.proofs.Common.{rules, ◌≡◌, ◌≢◌, ℕ, true}
use Rattle.std.specs.Ordering.{nat_cmp}
use Rattle.f77_tree.specs.declared.unit.Item.{Item}
use Rattle.f77_tree.specs.declared.unit.Item.TheVariants.{Dummy}
use Rattle.rn_lattice.specs.Maps.{get}
use Rattle.iv_set.specs.Sets.{has_item}
use Rattle.item_maps.proofs.Inclusion.{kept_by}
use Rattle.item_maps.proofs.pairs.keep.Goals as goal

pub returns-in_ok-raise-clause-kept : goal.returns-in_ok-raise-clause-kept
returns-in_ok-raise-clause-kept c =
    let others : (q : ℕ) → q ≢ c.args.dummy → get nat_cmp c.raise.new.self q ≡ get nat_cmp c.args.kept.now q = search rules in
    let held : has_item c.args.own.now (Dummy c.args.dummy) ≡ true = search rules in
    kept_by c.args.kept.now c.raise.new.self c.args.own.now c.args.with.now c.in_ok-both.both c.args.dummy c.in_ok-raise.ensures.was_map c.in_ok-raise.ensures.value c.in_ok-raise.ensures.joins others held c.in_ok-both.ensures
