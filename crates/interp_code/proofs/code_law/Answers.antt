use Rattle.interp_code.proofs.Codes.{code_does, codes_does, passes_does, aim_does, shows_does, shown_says, reads_does}
use Rattle.interp_code.proofs.code_law.Goals as goal

pub returns : goal.returns
returns c = record { value_ = code_does; values_ = codes_does; actuals_ = passes_does; target_ = aim_does; shown_ = shows_does; items_ = shown_says; targets_ = reads_does }
