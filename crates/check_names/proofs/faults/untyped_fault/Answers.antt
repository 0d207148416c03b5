use Rattle.check_names.specs.Untyped.{untyped_at}
use Rattle.check_names.proofs.Passes.{by_test}
use Rattle.check_names.proofs.faults.untyped_fault.Goals as goal

pub returns : goal.returns
returns c = by_test c.args.unit.now.statements _ (untyped_at c.args.facts.now c.args.unit.now) _ _ _ _ _ c.as_slice.ensures c.as_slice-2.ensures c.in_ok-flags.ensures c.earliest_flagged.ensures.earliest
