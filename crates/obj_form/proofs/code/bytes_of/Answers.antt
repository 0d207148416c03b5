use Rattle.std.proofs.Common.{◌≡◌, ◌<◌, ◌++◌, [], length, get_or, ap, sym, ◌∙◌, rules}
use Rattle.std.proofs.lemmas.List.{append-nil, take_all}
use Rattle.byteorder.specs.Endian.{little_bytes}
use Rattle.obj_form.specs.Grammar.{code_bytes}
use Rattle.obj_form.proofs.Words.{more_bytes}
use Rattle.obj_form.proofs.code.bytes_of.Goals as goal

pub word-preserved : goal.word-preserved
word-preserved c =
    let words = c.args.words.now in
    let here = get_or words c.word.word-index 0 in
    let within : c.word.word-index < length words = search rules in
    let cell : c.write_u32.new.buf ≡ little_bytes 4 here ++ [] = search rules in
    let grown : c.extend_from_slice.new.self.items ≡ c.word.bytes.items ++ c.write_u32.new.buf = search rules in
    grown
    ∙ ap (λ bs. c.word.bytes.items ++ bs) (cell ∙ append-nil (little_bytes 4 here))
    ∙ ap (λ bs. bs ++ little_bytes 4 here) c.word.invariant
    ∙ sym (more_bytes words c.word.word-index 0 within)

pub returns : goal.returns
returns c = c.word.invariant ∙ ap code_bytes (take_all c.word.word-index c.args.words.now c.word-test.false)
