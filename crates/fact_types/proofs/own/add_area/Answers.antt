use Rattle.std.proofs.Common.{rules, ◌≡◌, ◌-◌, ap, ◌∙◌, arith}
use Rattle.f77_tree.specs.declared.unit.Item.{Item}
use Rattle.f77_tree.specs.declared.unit.Item.TheVariants.{Common}
use Rattle.iv_set.specs.Toggles.{either}
use Rattle.iv_set.specs.Places.{between}
use Rattle.iv_set.specs.Sets.{has_item}
use Rattle.fact_types.proofs.Areas.{area_run}
use Rattle.fact_types.proofs.own.add_area.Goals as goal

pub returns : goal.returns
returns c =
    let block = c.args.block.now in
    let run : (i : Item) → has_item c.add.new.self i ≡ either (has_item c.args.own.now i) (between (Common block 0) (Common block (c.args.size - 1)) i) = search rules in
    λ i. run i ∙ ap (either (has_item c.args.own.now i)) (area_run block c.args.size (omega arith) i)
