use Rattle.std.proofs.Common.{◌≡◌, take}
use Rattle.f77_names.specs.Types.{letter_word}
use Rattle.f77_names.proofs.types.letter_word.Given as goal

abbrev pub invariant-loop-rule : goal.invariant-loop-rule
invariant-loop-rule l = l.word ≡ letter_word (take l.rule-index l.rule-items) l.none l.letter
