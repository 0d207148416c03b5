use Rattle.std.proofs.Common.{◌∙◌, ap, map}
use Rattle.std.specs.List.{range_with_len}
use Rattle.f77_names.specs.Types.{letter_word, rules}
use Rattle.f77_names.proofs.types.letter_words.Goals as goal

pub returns : goal.returns
returns c =
    c.from_vec.ensures
    ∙ ((c.in_ok-words.ensures {u = tt})
    ∙ (ap (λ found. map (letter_word found c.has_none.result) (range_with_len 0 256)) (c.in_ok-rules.ensures {u = tt})
    ∙ ap (λ none. map (letter_word (rules c.args.statements.now) none) (range_with_len 0 256)) c.has_none.ensures))
