use Rattle.std.proofs.Common.{subst}
use Rattle.check_common.specs.Again.{FirstAgain}
use Rattle.check_common.proofs.Moving.{first_moved}
use Rattle.check_common.proofs.again.initialised_again.Goals as goal

pub returns : goal.returns
returns c = record {
  first = subst (λ xs. FirstAgain xs c.first_again.result) (c.in_ok-all.ensures {u = tt})
      (first_moved c.in_ok-all.all.items c.sort_unstable_by.new.self.items c.first_again.result c.sort_unstable_by.ensures.permutation
      (subst (λ xs. FirstAgain xs c.first_again.result) c.as_slice.ensures.value c.first_again.ensures));
}
