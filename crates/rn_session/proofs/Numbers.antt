-- A number read digit by digit.
use Rattle.std.proofs.Common.{◌≡◌, ℕ, ◌+◌, ◌-◌, ◌*◌, ◌^◌, ◌≤◌, ◌<◌, Bool, true, false, cond, nat_le, nat_lt, List, [], ◌∷◌, length, fold, None, Some, refl, sym, ap, ◌∙◌, arith, lit<}
use Rattle.std.specs.Prelude.{◌&&◌, if◌then◌else◌}
use Rattle.std.specs.List.{list_all}
use Rattle.std.specs.declared.option.Option.{Option}
use Rattle.std.proofs.lemmas.Grind.{common_steps}
use Rattle.fixed_form.specs.Cards.{is_digit, with_digit}
use Rattle.rn_session.specs.Words.{number_of}

-- the number that the digits say behind a number, where it stays below 2^63 at each digit
abbrev pub number_from : ℕ → List ℕ → Option ℕ
number_from n [] = Some n
number_from n (digit ∷ digits) =
    if nat_le 48 digit && nat_le digit 57 && nat_le (n * 10 + (digit - 48)) (2 ^ 63 - 1)
    then number_from (n * 10 + (digit - 48)) digits
    else None

-- the same by the value as a whole
abbrev pub number_behind : ℕ → List ℕ → Option ℕ
number_behind n digits = if list_all is_digit digits && nat_le (fold with_digit n digits) (2 ^ 63 - 1) then Some (fold with_digit n digits) else None

-- the value only grows with more digits
fold_grows : (n : ℕ) (ds : List ℕ) → n ≤ fold with_digit n ds
fold_grows n [] = omega arith
fold_grows n (d ∷ ds) = go (is_digit d) refl (fold_grows n ds) (fold_grows (10 * n + (d - 48)) ds)
  where
    go : (b : Bool) → is_digit d ≡ b → n ≤ fold with_digit n ds → 10 * n + (d - 48) ≤ fold with_digit (10 * n + (d - 48)) ds → n ≤ fold with_digit (with_digit n d) ds
    go false e same more = rw e same
    go true e same more = rw e (omega arith)

-- digits that lead past the greatest number
past : (m : ℕ) (ds : List ℕ) → 2 ^ 63 - 1 < m → number_behind m ds ≡ None
past m ds h = let g : m ≤ fold with_digit m ds = fold_grows m ds in let f : nat_le (fold with_digit m ds) (2 ^ 63 - 1) ≡ false = grind (arith, common_steps) in go (list_all is_digit ds) f
  where
    go : (b : Bool) → nat_le (fold with_digit m ds) (2 ^ 63 - 1) ≡ false → cond (b && nat_le (fold with_digit m ds) (2 ^ 63 - 1)) (Some (fold with_digit m ds)) None ≡ None
    go false f = refl
    go true f = rw f refl

number_from-behind : (n : ℕ) (ds : List ℕ) → n < 2 ^ 63 → number_from n ds ≡ number_behind n ds
number_from-behind n [] h = grind (arith, common_steps)
number_from-behind n (d ∷ ds) h = go (is_digit d) refl (nat_le (n * 10 + (d - 48)) (2 ^ 63 - 1)) refl (λ k. number_from-behind (n * 10 + (d - 48)) ds k)
  where
    same : n * 10 + (d - 48) ≡ 10 * n + (d - 48)
    same = omega arith

    go : (b : Bool) → is_digit d ≡ b → (c : Bool) → nat_le (n * 10 + (d - 48)) (2 ^ 63 - 1) ≡ c →
        (n * 10 + (d - 48) < 2 ^ 63 → number_from (n * 10 + (d - 48)) ds ≡ number_behind (n * 10 + (d - 48)) ds) → number_from n (d ∷ ds) ≡ number_behind n (d ∷ ds)
    go false e c f more = rw e refl
    go true e false f more =
        let long : 2 ^ 63 - 1 < 10 * n + (d - 48) = grind (arith, common_steps, f) in
        let q : number_behind (10 * n + (d - 48)) ds ≡ None = past (10 * n + (d - 48)) ds long in
        rw (e, f) (sym q)
    go true e true f more =
        let short : n * 10 + (d - 48) < 2 ^ 63 = grind (arith, common_steps, f) in
        let q : number_from (n * 10 + (d - 48)) ds ≡ number_behind (10 * n + (d - 48)) ds = more short ∙ ap (λ k. number_behind k ds) same in
        rw (e, f) q

-- a number by its digits from left to right
pub number_by_digits : (digits : List ℕ) → 0 < length digits → number_of digits ≡ number_from 0 digits
number_by_digits digits h =
    let f : nat_lt 0 (length digits) ≡ true = grind (arith, common_steps) in
    let q : number_behind 0 digits ≡ number_from 0 digits = sym (number_from-behind 0 digits (lit< tt)) in
    rw f q
