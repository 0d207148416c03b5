use Rattle.std.proofs.Common.{length}
use Rattle.interp_turns.proofs.record.+say_record_from.Given as goal

abbrev pub decreases-say_record_from : goal.decreases-say_record_from
decreases-say_record_from l = length l.operands.now
