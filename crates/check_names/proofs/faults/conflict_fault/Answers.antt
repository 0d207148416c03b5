use Rattle.check_names.specs.Conflicts.{conflicts_at}
use Rattle.check_names.proofs.Passes.{by_test}
use Rattle.check_names.proofs.faults.conflict_fault.Goals as goal

pub returns : goal.returns
returns c = by_test c.args.unit.now.statements _ (conflicts_at c.args.facts.now.attributes c.args.unit.now) _ _ _ _ _ c.as_slice.ensures c.as_slice-2.ensures c.in_ok-flags.ensures c.earliest_flagged.ensures.earliest
