use Rattle.f77_parse.proofs.ReadTexts.{read_good}
use Rattle.f77_parse.proofs.laws.read_law.Goals as goal

pub returns : goal.returns
returns c = record {
  ends = λ lines units reads k d l. (read_good lines units reads k d l).ends;
  short = λ lines units reads k d l. (read_good lines units reads k d l).short;
}
