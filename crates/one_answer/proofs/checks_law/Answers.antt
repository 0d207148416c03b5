use Rattle.one_answer.proofs.Trees.{one_tree_fault, no_tree_fault}
use Rattle.one_answer.proofs.checks_law.Goals as goal

pub returns : goal.returns
returns c = record { fault = one_tree_fault; never_both = no_tree_fault }
