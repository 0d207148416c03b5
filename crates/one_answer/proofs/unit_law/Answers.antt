use Rattle.one_answer.proofs.Trees.{one_tree, one_text_fault, no_text_fault}
use Rattle.one_answer.proofs.unit_law.Goals as goal

pub returns : goal.returns
returns c = record {
  tree = one_tree c.forms_law.ensures.form c.lexes_law.ensures.pieces;
  fault = one_text_fault;
  never_both = no_text_fault;
}
