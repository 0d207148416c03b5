use Rattle.std.proofs.Common.{rules, ◌≡◌, ap, ◌∙◌, IsTrue}
use Rattle.iv_set.specs.Toggles.{either}
use Rattle.iv_set.specs.Places.{place_of, is_item, run}
use Rattle.iv_set.specs.Sets.{has_item, made, IsSet, made_has, either_rule}
use Rattle.iv_set.proofs.Runs.{run_has, run_set}
use Rattle.iv_set.proofs.ranges.Ranges.add.Goals as goal

pub returns-clause-added : goal.returns-clause-added
returns-clause-added c =
    let one : IsSet c.args.self.now = c.add_run.ensures.set in
    let fits : IsTrue (is_item (place_of c.args.to.now)) = search rules in
    let other : IsSet (run c.args.from.now c.args.to.now) = run_set c.args.from.now c.args.to.now c.requires fits in
    let grown : c.add_run.new.self ≡ made either c.args.self.now (run c.args.from.now c.args.to.now) = search rules in
    λ i. ap (λ l. has_item l i) grown ∙ made_has either_rule one other (place_of i) ∙ ap (either (has_item c.args.self.now i)) (run_has c.args.from.now c.args.to.now i)
