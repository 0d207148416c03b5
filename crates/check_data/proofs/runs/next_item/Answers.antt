use Rattle.std.proofs.Common.{refl}
use Rattle.check_data.proofs.Pairs.{item_done}
use Rattle.check_data.proofs.runs.next_item.Goals as goal

pub returns-clause-same : goal.returns-clause-same
returns-clause-same c = λ all. item_done all c.args.items.now c.args.constants.now c.args.at _ c.requires.less c.requires.alike refl c.count_at.ensures refl refl
