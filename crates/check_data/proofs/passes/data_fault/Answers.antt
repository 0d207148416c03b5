use Rattle.check_data.proofs.Gathering.{gathered}
use Rattle.check_data.proofs.passes.data_fault.Goals as goal

pub returns : goal.returns
returns c = record {
  first = gathered c.args.unit.now c.in_ok-wrong.wrong c.in_ok-repeat.repeat c.first_of.result
      (c.in_ok-wrong.ensures {u = tt}) (c.in_ok-repeat.ensures {u = tt}) c.first_of.ensures.first;
}
