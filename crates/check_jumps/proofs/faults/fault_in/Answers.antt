use Rattle.check_jumps.proofs.Gathering.{all_by}
use Rattle.check_jumps.proofs.faults.fault_in.Goals as goal

pub returns : goal.returns
returns c = all_by _ _ _ _ _ _ _ _ _ _ c.first_of-labels.ensures.first c.first_of-ends.ensures.first c.first_of-jumps.ensures.first c.first_of.ensures.first (c.in_ok-nowhere.ensures {u = tt}) (c.in_ok-repeated.ensures {u = tt}) (c.in_ok-astray.ensures {u = tt}) (c.in_ok-bad_end.ensures {u = tt}) (c.in_ok-misnested.ensures {u = tt})
