use Rattle.std.proofs.Common.{◌≡◌, ◌++◌, drop, take, fold}
use Rattle.check_data.specs.DataTwice as t
use Rattle.check_constants.specs.Passes.{flags_from}
use Rattle.check_data.specs.Seen.{Tells}
use Rattle.check_data.proofs.repeats.repeating.Given as goal

-- what is defined and given so far is what the statements so far define and give
abbrev pub invariant-loop-statement : goal.invariant-loop-statement
invariant-loop-statement l = record {
  defined : l.defined ≡ (fold t.past_with t.beginning (take l.statement-index l.statement-items)).defined;
  tells : Tells l.seen (fold t.past_with t.beginning (take l.statement-index l.statement-items)).given;
  flags : l.flags ++ flags_from t.past_with t.statement_repeats (fold t.past_with t.beginning (take l.statement-index l.statement-items)) (drop l.statement-index l.statement-items)
      ≡ flags_from t.past_with t.statement_repeats t.beginning l.statement-items;
}
