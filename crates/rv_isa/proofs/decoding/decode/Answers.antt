use Rattle.std.proofs.Common.{arith, ap, ◌∙◌}
use Rattle.rv_isa.specs.Table.{decode_fields, decode_word}
use Rattle.rv_isa.proofs.Round.{decoded, not_decoded}
use Rattle.rv_isa.proofs.decoding.decode.Goals as goal

pub returns-clause-value : goal.returns-clause-value
unfolding decode_word
returns-clause-value c = c.instruction.ensures ∙ ap decode_fields c.fields_of.ensures

pub returns-clause-some : goal.returns-clause-some
unfolding decode_word
returns-clause-some c = decoded c.args.word (omega arith) _ (c.instruction.ensures ∙ ap decode_fields c.fields_of.ensures)

pub returns-clause-none : goal.returns-clause-none
unfolding decode_word
returns-clause-none c = not_decoded c.args.word _ (c.instruction.ensures ∙ ap decode_fields c.fields_of.ensures)
