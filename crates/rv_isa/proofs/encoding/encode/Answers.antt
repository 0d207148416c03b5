use Rattle.std.proofs.Common.{ap, ◌∙◌}
use Rattle.rv_isa.specs.Layout.{word}
use Rattle.rv_isa.specs.Table.{decode_word, encode_word}
use Rattle.rv_isa.proofs.Round.{width_of, decode-encode}
use Rattle.rv_isa.proofs.encoding.encode.Goals as goal

pub word_of-requires : goal.word_of-requires
word_of-requires c = rw c.fields_for.ensures (width_of _ c.requires)

pub returns-clause-word : goal.returns-clause-word
unfolding encode_word
returns-clause-word c = c.word_of.ensures ∙ ap word c.fields_for.ensures

pub returns-clause-decoded : goal.returns-clause-decoded
unfolding encode_word
returns-clause-decoded c = ap decode_word (c.word_of.ensures ∙ ap word c.fields_for.ensures) ∙ decode-encode _ c.requires
