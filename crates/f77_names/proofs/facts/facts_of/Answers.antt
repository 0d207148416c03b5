use Rattle.std.proofs.Common.{◌∙◌, ap}
use Rattle.f77_names.specs.Declarations.{shapes, words}
use Rattle.f77_names.proofs.facts.facts_of.Goals as goal

pub returns : goal.returns
returns c = λ i. record {
  attributes = (c.in_ok-attributes_of.ensures {u = tt}) i;
  constants = (c.in_ok-constants_of.ensures {u = tt}) i;
  shapes = ((c.in_ok-shapes_of.ensures {u = tt}) ∙ ap shapes c.requires) i;
  words = ((c.in_ok-words_of.ensures {u = tt}) ∙ ap words c.requires) i;
  letters = (c.in_ok-letter_words.ensures {u = tt}) i;
}
