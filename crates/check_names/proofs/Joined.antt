-- Lists that are put behind each other, and the letters of a range.
use Rattle.std.proofs.Common.{◌≡◌, ℕ, suc, ◌+◌, ◌-◌, ◌<◌, List, [], ◌∷◌, ◌++◌, map, append_assoc, subst, arith}
use Rattle.std.specs.List.{range_with_len}
use Rattle.check_names.specs.Givings.{Givings, gives_letter}

pub ruleset joined = (append_assoc)

pub next_letter : (found more all : Givings) (letter end : ℕ) → letter < end → more ≡ found ++ gives_letter letter ∷ [] → found ++ map gives_letter (range_with_len letter (end - letter)) ≡ all → more ++ map gives_letter (range_with_len (letter + 1) (end - (letter + 1))) ≡ all
next_letter found more all letter end l e h =
    let s : end - letter ≡ suc (end - (letter + 1)) = omega arith in
    let k : found ++ map gives_letter (range_with_len letter (suc (end - (letter + 1)))) ≡ all = subst (λ n. found ++ map gives_letter (range_with_len letter n) ≡ all) s h in
    rw (e, append_assoc) k
