use Rattle.one_answer.proofs.Readings.{one_reading_fault, read_or_faulty}
use Rattle.one_answer.proofs.Trees.{one_reading}
use Rattle.one_answer.proofs.reading_law.Goals as goal

pub returns : goal.returns
returns c = record {
  units = one_reading c.forms_law.ensures.form c.head_law.ensures.named;
  fault = one_reading_fault;
  never_both = read_or_faulty;
}
