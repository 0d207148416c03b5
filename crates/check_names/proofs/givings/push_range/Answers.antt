use Rattle.check_names.proofs.Joined.{next_letter}
use Rattle.check_names.proofs.givings.push_range.Goals as goal

pub loop-letter-preserved : goal.loop-letter-preserved
loop-letter-preserved c = next_letter _ _ _ _ _ c.loop-letter-test.true c.in_ok-push_letter.ensures c.loop-letter.invariant
