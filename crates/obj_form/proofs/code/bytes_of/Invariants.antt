use Rattle.std.proofs.Common.{◌≡◌, take}
use Rattle.obj_form.specs.Grammar.{code_bytes}
use Rattle.obj_form.proofs.code.bytes_of.Given as goal

abbrev pub invariant-word : goal.invariant-word
invariant-word l = l.bytes.items ≡ code_bytes (take l.word-index l.words)
