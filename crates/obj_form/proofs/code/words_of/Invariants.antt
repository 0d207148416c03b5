use Rattle.std.proofs.Common.{◌≡◌, ◌^◌, ◌<◌, ℕ, List, take}
use Rattle.std.specs.List.{All}
use Rattle.obj_form.specs.Grammar.{code_bytes}
use Rattle.obj_form.proofs.code.words_of.Given as goal

abbrev pub invariant-word : goal.invariant-word
invariant-word l = (code : List ℕ) → All (λ w. w < 2 ^ 32) code → l.bytes ≡ code_bytes code → l.words ≡ take l.at code
