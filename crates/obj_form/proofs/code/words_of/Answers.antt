use Rattle.std.proofs.Common.{◌≡◌, ◌-◌, ◌*◌, ◌/◌, ◌<◌, ◌≤◌, ◌∷◌, ◌++◌, [], length, take, drop, ap, sym, ◌∙◌, arith, rules}
use Rattle.std.proofs.lemmas.List.{length-drop, take_all, take_more}
use Rattle.byteorder.specs.Endian.{little_number}
use Rattle.obj_form.proofs.Words.{length-code_bytes, word_at}
use Rattle.obj_form.proofs.code.words_of.Goals as goal

pub word-preserved : goal.word-preserved
word-preserved c = λ code small e.
    let at = c.word.at in
    let bytes = c.args.bytes.now in
    let before : at < length bytes / 4 = search rules in
    let long : length bytes ≡ 4 * length code = ap (λ bs. length bs) e ∙ length-code_bytes code in
    let within : at < length code = omega (arith, before, long) in
    let rest = drop (4 * at) bytes in
    let cut : c.read_u32.result ≡ little_number 4 (take (length bytes - 4 * at) rest) = search rules in
    let left : length rest ≡ length bytes - 4 * at = length-drop (4 * at) bytes in
    let read : c.read_u32.result ≡ little_number 4 rest = cut ∙ ap (little_number 4) (take_all (length bytes - 4 * at) rest (omega (arith, left))) in
    let grown : c.push.new.self ≡ c.word.words ++ c.read_u32.result ∷ [] = search rules in
    grown
    ∙ ap (λ xs. xs ++ c.read_u32.result ∷ []) (c.word.invariant code small e)
    ∙ ap (λ w. take at code ++ w ∷ []) (read ∙ ap (λ bs. little_number 4 (drop (4 * at) bs)) e ∙ word_at code at 0 small within)
    ∙ sym (take_more code at 0 within)

pub returns : goal.returns
returns c = λ code small e.
    let past : length c.args.bytes.now / 4 ≤ c.word.at = c.word-test.false in
    let long : length c.args.bytes.now ≡ 4 * length code = ap (λ bs. length bs) e ∙ length-code_bytes code in
    c.word.invariant code small e ∙ take_all c.word.at code (omega (arith, past, long))
