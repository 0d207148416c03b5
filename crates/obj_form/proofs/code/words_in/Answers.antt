use Rattle.std.proofs.Common.{◌≡◌, Some, ap, sym, ◌∙◌, inl, inr}
use Rattle.std.proofs.lemmas.Result.{IfOk-weaker}
use Rattle.hex.specs.Hex.{decode_of}
use Rattle.obj_form.specs.Grammar.{code_bytes}
use Rattle.obj_form.proofs.Words.{decoded, no_code, ok_or_none}
use Rattle.obj_form.proofs.code.words_in.Goals as goal

pub returns-in_ok-words_of-in-Ok : goal.returns-in_ok-words_of-in-Ok
returns-in_ok-words_of-in-Ok c = λ code small e.
    let bytes : c.in-Ok.bytes.items ≡ code_bytes code = ap ok_or_none (sym c.in-Ok.ensures.ok ∙ ap decode_of e ∙ decoded code) in
    ap Some (c.in_ok-words_of-in-Ok.ensures code small (c.as_slice.ensures.value ∙ bytes))

pub returns-in-Err : goal.returns-in-Err
returns-in-Err c =
    IfOk-weaker c.none_but_for_memory.result _ _ (λ found other code small e.
    elim c.in-Err.ensures.err [
      | inl memory ↦ absurd (other memory)
      | inr is ↦ absurd (no_code c.args.text.now code c.in-Err.fault is e)
    ]) c.none_but_for_memory.ensures
