use Rattle.one_answer.proofs.Trees.{one_program_fault, no_program_fault}
use Rattle.one_answer.proofs.program_law.Goals as goal

pub returns : goal.returns
returns c = record { fault = one_program_fault; never_both = no_program_fault }
