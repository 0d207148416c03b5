-- The first piece of a text, by its first byte.
use Rattle.std.proofs.Common.{◌≡◌, ℕ, zero, suc, ◌+◌, ◌<◌, ◌≤◌, ◌^◌, true, false, [], ◌∷◌, ◌++◌, length, take, get_or, ap, sym, ◌∙◌, subst, refl, arith, length-take, pos, ◌⊎◌, ⊎_elim, inl, inr}
use Rattle.std.specs.List.{list_all}
use Rattle.std.proofs.lemmas.List.{take-append-drop}
use Rattle.f77_tree.specs.Names.{is_letter, is_word}
use Rattle.f77_expr.specs.declared.token.Token.TheVariants as t
use Rattle.f77_expr.specs.declared.token.Kind.TheVariants as k
use Rattle.f77_expr.specs.declared.fronts.Sort.TheVariants as s
use Rattle.f77_expr.specs.declared.fronts.Part.{Part}
use Rattle.f77_expr.specs.declared.fronts.Part.TheVariants as p
use Rattle.f77_expr.specs.Kinds.{sign_kind}
use Rattle.f77_expr.specs.Spelling.{Text, is_digit, value_of, AreDigits, word, integer, power, sign}
use Rattle.f77_expr.specs.Lexing.{Piece, Good, Large, Strange, Spelled, good, large, spelled, strange}
use Rattle.f77_expr.specs.Runs.{IsRun}
use Rattle.f77_expr.specs.Fronts.{IsPart, Begins, IsPower}
use Rattle.f77_expr.proofs.Classes.{and_both, false_true, letter_word}
use Rattle.f77_expr.proofs.RunLengths.{run_longest, all_others}
use Rattle.f77_expr.proofs.Spellings.{Digits, small, great, Signed, one, two, word_piece, digit_piece, sign_piece, no_piece, no_empty_piece}

-- each piece that begins with b, and goes on in bs, has at most n bytes
pub record AtMost (b : ℕ) (bs : Text) (n : ℕ) : Type 0 where
  pub most : (other more : Text) (second : Piece) → bs ≡ other ++ more → Spelled (b ∷ other) second → length other + 1 ≤ n

longest_of : {b : ℕ} {bs : Text} {n : ℕ} → AtMost b bs n → (other more : Text) (second : Piece) → b ∷ bs ≡ other ++ more → Spelled other second → length other ≤ n
longest_of most [] more second e s = omega arith
longest_of {b} {bs} {n} most (c ∷ other) more second e s =
    let first : c ≡ b = cc in
    let behind : bs ≡ other ++ more = cc in
    omega (arith, most.most other more second behind (subst (λ c. Spelled (c ∷ other) second) first s))

pub taken : (text : Text) (n : ℕ) → n ≤ length text → length (take n text) ≡ n
taken text n h = omega (arith, length-take n text, h)

spelled_some : (bytes : Text) {piece : Piece} → Spelled bytes piece → 0 < length bytes
spelled_some [] s = absurd (no_empty_piece s)
spelled_some (b ∷ bs) s = omega arith

pub begins_spelled : (b : ℕ) (bs : Text) (n : ℕ) (part : Part) (piece : Piece) → n ≤ length (b ∷ bs) → AtMost b bs n → IsPart part (take n (b ∷ bs)) piece → Spelled (take n (b ∷ bs)) piece → Begins (b ∷ bs) part n
begins_spelled b bs n part piece within most is s = record {
  within = within;
  some = omega (arith, spelled_some (take n (b ∷ bs)) s, taken (b ∷ bs) n within);
  piece = piece;
  is = is;
  all = λ others pieces. spelled (record {
    bytes = take n (b ∷ bs);
    cut = sym (take-append-drop n (b ∷ bs));
    spelled = s;
    longest = λ other more second e t. omega (arith, longest_of most other more second e t, taken (b ∷ bs) n within);
  }) pieces refl;
}

-- no piece begins with b and goes on in bs
pub record NoneAt (b : ℕ) (bs : Text) : Type 0 where
  pub none : (other more : Text) (second : Piece) → bs ≡ other ++ more → Spelled (b ∷ other) second → ⊥

no_front : {b : ℕ} {bs : Text} (bytes rest : Text) {piece : Piece} → NoneAt b bs → b ∷ bs ≡ bytes ++ rest → Spelled bytes piece → ⊥
no_front [] rest none e s = no_empty_piece s
no_front {b} {bs} (c ∷ bytes) rest {piece} none e s =
    let first : c ≡ b = cc in
    let behind : bs ≡ bytes ++ rest = cc in
    none.none bytes rest piece behind (subst (λ c. Spelled (c ∷ bytes) piece) first s)

pub begins_strange : (b : ℕ) (bs : Text) → NoneAt b bs → Begins (b ∷ bs) p.Strange 1
begins_strange b bs none = record {
  within = omega arith;
  some = omega arith;
  piece = Strange;
  is = refl;
  all = λ others pieces. strange b refl (record { not = λ piece rest front. no_front front.bytes rest none front.cut front.spelled }) pieces refl;
}

-- ---- words

word_most : (b : ℕ) (bs : Text) (n : ℕ) → is_letter b ≡ true → IsRun is_word (b ∷ bs) n → AtMost b bs n
word_most b bs n l run = record {
  most = λ other more second e s.
      let w = word_piece l s in
      let each : list_all is_word (b ∷ other) ≡ true = and_both (is_word b) (list_all is_word other) (letter_word b l) w.others in
      let longest : length (b ∷ other) ≤ n = run_longest (b ∷ bs) (b ∷ other) more n run (ap (λ s. b ∷ s) e) each in
      omega (arith, longest);
}

pub begins_word : (text : Text) (n : ℕ) → 0 < length text → is_letter (get_or text 0 0) ≡ true → IsRun is_word text n → Begins text (p.Good s.Word) n
begins_word [] n some l run = absurd (omega (arith, some))
begins_word (b ∷ bs) zero some l run = absurd (false_true (run.stops (omega arith)) (letter_word b l))
begins_word (b ∷ bs) (suc n) some l run =
    begins_spelled b bs (suc n) (p.Good s.Word) (Good (t.Word (take (suc n) (b ∷ bs)))) run.within (word_most b bs (suc n) l run) (record { token = t.Word (take (suc n) (b ∷ bs)); has = refl; is = refl })
    (good (t.Word (take (suc n) (b ∷ bs))) (word b (take n bs) refl l (all_others is_word b (take n bs) run.each) refl) refl)

-- ---- numbers

digits_all : {bytes : Text} {piece : Piece} → Digits bytes piece → list_all is_digit bytes ≡ true
digits_all (small digits few is) = digits.digits
digits_all (great digits much is) = digits.digits

digits_most : (b : ℕ) (bs : Text) (n : ℕ) → is_digit b ≡ true → IsRun is_digit (b ∷ bs) n → AtMost b bs n
digits_most b bs n d run = record {
  most = λ other more second e s.
      let longest : length (b ∷ other) ≤ n = run_longest (b ∷ bs) (b ∷ other) more n run (ap (λ s. b ∷ s) e) (digits_all (digit_piece d s)) in
      omega (arith, longest);
}

are_digits : (b : ℕ) (bs : Text) (n : ℕ) → IsRun is_digit (b ∷ bs) (suc n) → AreDigits (take (suc n) (b ∷ bs))
are_digits b bs n run = record { filled = omega arith; digits = run.each }

pub begins_integer : (text : Text) (n : ℕ) (value : _) → 0 < length text → is_digit (get_or text 0 0) ≡ true → IsRun is_digit text n → value ≡ pos (value_of (take n text)) → value_of (take n text) < 2 ^ 63 → Begins text (p.Good (s.Int value)) n
begins_integer [] n value some d run v few = absurd (omega (arith, some))
begins_integer (b ∷ bs) zero value some d run v few = absurd (false_true (run.stops (omega arith)) d)
begins_integer (b ∷ bs) (suc n) value some d run v few =
    let bytes = take (suc n) (b ∷ bs) in
    let token = t.Int value (length bytes) in
    begins_spelled b bs (suc n) (p.Good (s.Int value)) (Good token) run.within (digits_most b bs (suc n) d run) (record { token = token; has = refl; is = refl })
    (good token (integer (are_digits b bs n run) few (ap (λ v. t.Int v (length bytes)) v)) refl)

pub begins_large : (text : Text) (n : ℕ) → 0 < length text → is_digit (get_or text 0 0) ≡ true → IsRun is_digit text n → 2 ^ 63 ≤ value_of (take n text) → Begins text p.Large n
begins_large [] n some d run much = absurd (omega (arith, some))
begins_large (b ∷ bs) zero some d run much = absurd (false_true (run.stops (omega arith)) d)
begins_large (b ∷ bs) (suc n) some d run much =
    begins_spelled b bs (suc n) p.Large Large run.within (digits_most b bs (suc n) d run) refl (large (are_digits b bs n run) much refl)

-- ---- signs

signed_length : {b : ℕ} {bs : Text} {piece : Piece} → Signed b bs piece → (length bs ≡ 0) ⊎ ((b ≡ 42) × (bs ≡ 42 ∷ []))
signed_length (one e is) = inl (ap length e)
signed_length (two g e is) = inr (g, e)

stars : (rest : Text) → Begins (42 ∷ 42 ∷ rest) (p.Good s.Power) 2
stars rest =
    begins_spelled 42 (42 ∷ rest) 2 (p.Good s.Power) (Good t.Power) (omega arith)
    (record {
      most = λ other more second e s.
          ⊎_elim (λ short. omega (arith, short)) (λ long. omega (arith, ap length long.1)) (signed_length (sign_piece (λ h. cc) s));
    })
    (record { token = t.Power; has = refl; is = refl }) (good t.Power (power refl refl) refl)

stars_at : (text : Text) → 1 < length text → get_or text 0 0 ≡ 42 → get_or text 1 0 ≡ 42 → Begins text (p.Good s.Power) 2
stars_at [] h e f = absurd (omega (arith, h))
stars_at (a ∷ []) h e f = absurd (omega (arith, h))
stars_at (a ∷ b ∷ text) h e f = subst (λ text. Begins text (p.Good s.Power) 2) (sym (ap (λ a. a ∷ b ∷ text) e ∙ ap (λ b. 42 ∷ b ∷ text) f)) (stars text)

pub begins_power : (text : Text) → IsPower text → Begins text (p.Good s.Power) 2
begins_power text two_stars = stars_at text two_stars.long two_stars.first two_stars.second

power_of : (text rest : Text) → text ≡ 42 ∷ 42 ∷ rest → IsPower text
power_of text rest e = record {
  long = omega (arith, ap length e);
  first = ap (λ (s : Text). get_or s 0 0) e;
  second = ap (λ (s : Text). get_or s 1 0) e;
}

pub begins_sign : (text : Text) → 0 < length text → (sign_kind (get_or text 0 0) ≡ k.Other → ⊥) → (IsPower text → ⊥) → Begins text (p.Good (s.Sign (get_or text 0 0))) 1
begins_sign [] some known single = absurd (omega (arith, some))
begins_sign (b ∷ bs) some known single =
    begins_spelled b bs 1 (p.Good (s.Sign b)) (Good (t.Sign b)) (omega arith)
    (record {
      most = λ other more second e s.
          ⊎_elim (λ short. omega (arith, short)) (λ long. absurd (single (power_of (b ∷ bs) more (ap (λ s. b ∷ s) e ∙ (ap (λ s. b ∷ (s ++ more)) long.1 ∙ ap (λ b. b ∷ 42 ∷ more) long.0))))) (signed_length (sign_piece known s));
    })
    (record { token = t.Sign b; has = refl; is = refl }) (good (t.Sign b) (sign b refl known refl) refl)

pub begins_none : (text : Text) → 0 < length text → is_letter (get_or text 0 0) ≡ false → is_digit (get_or text 0 0) ≡ false → (get_or text 0 0 ≡ 39 → ⊥) → (get_or text 0 0 ≡ 46 → ⊥) → sign_kind (get_or text 0 0) ≡ k.Other → Begins text p.Strange 1
begins_none [] some l d q o h = absurd (omega (arith, some))
begins_none (b ∷ bs) some l d q o h = begins_strange b bs (record { none = λ other more second e s. no_piece l d q o h s })
