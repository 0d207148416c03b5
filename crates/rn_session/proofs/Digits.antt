-- Hexadecimal digits that are written from the last one on.
use Rattle.std.proofs.Common.{◌≡◌, ℕ, suc, ◌+◌, ◌/◌, ◌%◌, ◌<◌, List, [], ◌∷◌, ◌++◌, length, drop, sym, ap, ◌∙◌, append_assoc, arith}
use Rattle.std.proofs.Math.ListN.{set}
use Rattle.std.proofs.lemmas.List.{drop-set}
use Rattle.rn_session.specs.Statuses.{hex_digit, hex_digits}

-- the digits that are left, before those that stand
abbrev pub so_far : (left rest : ℕ) → List ℕ → List ℕ
so_far left rest text = hex_digits left rest ++ drop left text

pub so_far_step : (left k rest digit : ℕ) (text : List ℕ) → left ≡ suc k → k < length text → digit ≡ hex_digit (rest % 16)
    → so_far left rest text ≡ so_far k (rest / 16) (set text k digit)
unfolding hex_digits
so_far_step left k rest digit text e h d =
    ap (λ n. so_far n rest text) e
    ∙ append_assoc (hex_digits k (rest / 16)) (hex_digit (rest % 16) ∷ []) (drop (suc k) text)
    ∙ ap (λ x. hex_digits k (rest / 16) ++ x) (ap (λ x. x ∷ drop (suc k) text) (sym d) ∙ (let n : suc k ≡ k + 1 = omega arith in ap (λ n. digit ∷ drop n text) n) ∙ sym (drop-set text k digit h))

pub so_far_end : (left rest : ℕ) (text : List ℕ) → left ≡ 0 → so_far left rest text ≡ text
unfolding hex_digits
so_far_end left rest text e = ap (λ n. so_far n rest text) e
