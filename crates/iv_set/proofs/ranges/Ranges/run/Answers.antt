use Rattle.std.proofs.Common.{rules, ◌≡◌, sym, subst, IsTrue}
use Rattle.iv_set.specs.Places.{place_of, is_item, run}
use Rattle.iv_set.specs.Sets.{IsSet}
use Rattle.iv_set.proofs.Runs.{run_set}
use Rattle.iv_set.proofs.ranges.Ranges.run.Goals as goal

pub invariant_of-result : goal.invariant_of-result
invariant_of-result c =
    let e : c.in_ok-ends.field-0.items ≡ run c.args.from.now c.args.to.now = search rules in
    let fits : IsTrue (is_item (place_of c.args.to.now)) = search rules in
    subst IsSet (sym e) (run_set c.args.from.now c.args.to.now c.requires fits)

pub returns-clause-set : goal.returns-clause-set
returns-clause-set c =
    let e : c.in_ok-ends.field-0.items ≡ run c.args.from.now c.args.to.now = search rules in
    let fits : IsTrue (is_item (place_of c.args.to.now)) = search rules in
    subst IsSet (sym e) (run_set c.args.from.now c.args.to.now c.requires fits)
