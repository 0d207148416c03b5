-- Bytes with each apostrophe doubled.
use Rattle.std.proofs.Common.{◌≡◌, ℕ, ◌≤◌, Bool, true, false, if◌then◌else◌, [], ◌∷◌, ◌++◌, length, ap, sym, ◌∙◌, refl, arith, ◌==◌, ◌⊎◌, ⊎_elim, inl, inr, length-append}
use Rattle.std.proofs.lemmas.List.{append-nil}
use Rattle.std.proofs.lemmas.Bool.Decides.{nat_tests}
use Rattle.f77_expr.specs.Spelling.{Text, doubled}

pub doubled_none : doubled [] ≡ []
unfolding doubled
doubled_none = refl

pub doubled_quote : (bs : Text) → doubled (39 ∷ bs) ≡ 39 ∷ 39 ∷ doubled bs
unfolding doubled
doubled_quote bs = refl

step : (b : ℕ) (bs : Text) → doubled (b ∷ bs) ≡ (if b == 39 then 39 ∷ 39 ∷ doubled bs else b ∷ doubled bs)
unfolding doubled
step b bs = refl

pub doubled_plain : (b : ℕ) (bs : Text) → (b == 39) ≡ false → doubled (b ∷ bs) ≡ b ∷ doubled bs
doubled_plain b bs h = step b bs ∙ ap (λ t. if t then 39 ∷ 39 ∷ doubled bs else b ∷ doubled bs) h

by_test : (b : ℕ) (t : Bool) → (b == 39) ≡ t → (b ≡ 39) ⊎ ((b == 39) ≡ false)
by_test b true h = inl (grind (arith, nat_tests))
by_test b false h = inr h

pub quote_or : (b : ℕ) → (b ≡ 39) ⊎ ((b == 39) ≡ false)
quote_or b = by_test b (b == 39) refl

pub plain_byte : (b : ℕ) → (b == 39) ≡ false → b ≡ 39 → ⊥
plain_byte b h e = grind (arith, nat_tests)

-- ---- what is doubled, read from both sides

head_same : {b c : ℕ} {p q : Text} → b ∷ p ≡ c ∷ q → b ≡ c
head_same e = cc

tail_same : {b c : ℕ} {p q : Text} → b ∷ p ≡ c ∷ q → p ≡ q
tail_same e = cc

-- an apostrophe with none behind it
pub record Shut (text : Text) : Type 0 where
  pub behind : Text
  pub at : text ≡ 39 ∷ behind
  pub alone : (more : Text) → behind ≡ 39 ∷ more → ⊥

shut_front : (r m : Text) (d : ℕ) (ds : Text) → r ≡ doubled (d ∷ ds) ++ m → Shut r → ⊥
shut_front r m d ds e shut =
    ⊎_elim
    (λ quote.
    let spelled : doubled (d ∷ ds) ≡ 39 ∷ 39 ∷ doubled ds = ap (λ d. doubled (d ∷ ds)) quote ∙ doubled_quote ds in
    let whole : 39 ∷ shut.behind ≡ 39 ∷ 39 ∷ (doubled ds ++ m) = sym shut.at ∙ (e ∙ ap (λ s. s ++ m) spelled) in
    shut.alone (doubled ds ++ m) (tail_same whole))
    (λ plain.
    let whole : 39 ∷ shut.behind ≡ d ∷ (doubled ds ++ m) = sym shut.at ∙ (e ∙ ap (λ s. s ++ m) (doubled_plain d ds plain)) in
    plain_byte d plain (sym (head_same whole)))
    (quote_or d)

-- both begin alike
both : (c d : ℕ) (cs ds r m : Text) → doubled (c ∷ cs) ++ r ≡ doubled (d ∷ ds) ++ m → (c ≡ d) × (doubled cs ++ r ≡ doubled ds ++ m)
both c d cs ds r m e =
    ⊎_elim
    (λ quote.
    let left : doubled (c ∷ cs) ≡ 39 ∷ 39 ∷ doubled cs = ap (λ c. doubled (c ∷ cs)) quote ∙ doubled_quote cs in
    ⊎_elim
    (λ other.
    let right : doubled (d ∷ ds) ≡ 39 ∷ 39 ∷ doubled ds = ap (λ d. doubled (d ∷ ds)) other ∙ doubled_quote ds in
    let whole : 39 ∷ 39 ∷ (doubled cs ++ r) ≡ 39 ∷ 39 ∷ (doubled ds ++ m) = ap (λ s. s ++ r) (sym left) ∙ (e ∙ ap (λ s. s ++ m) right) in
    (quote ∙ sym other, tail_same (tail_same whole)))
    (λ plain.
    let whole : 39 ∷ 39 ∷ (doubled cs ++ r) ≡ d ∷ (doubled ds ++ m) = ap (λ s. s ++ r) (sym left) ∙ (e ∙ ap (λ s. s ++ m) (doubled_plain d ds plain)) in
    absurd (plain_byte d plain (sym (head_same whole))))
    (quote_or d))
    (λ plain.
    let left : doubled (c ∷ cs) ≡ c ∷ doubled cs = doubled_plain c cs plain in
    ⊎_elim
    (λ quote.
    let right : doubled (d ∷ ds) ≡ 39 ∷ 39 ∷ doubled ds = ap (λ d. doubled (d ∷ ds)) quote ∙ doubled_quote ds in
    let whole : c ∷ (doubled cs ++ r) ≡ 39 ∷ 39 ∷ (doubled ds ++ m) = ap (λ s. s ++ r) (sym left) ∙ (e ∙ ap (λ s. s ++ m) right) in
    absurd (plain_byte c plain (head_same whole)))
    (λ other.
    let whole : c ∷ (doubled cs ++ r) ≡ d ∷ (doubled ds ++ m) = ap (λ s. s ++ r) (sym left) ∙ (e ∙ ap (λ s. s ++ m) (doubled_plain d ds other)) in
    (head_same whole, tail_same whole))
    (quote_or d))
    (quote_or c)

-- a text begins with another
pub record Begins (whole front : Text) : Type 0 where
  pub rest : Text
  pub cut : whole ≡ front ++ rest

begins_cons : {b c : ℕ} {p q : Text} → b ≡ c → Begins p q → Begins (b ∷ p) (c ∷ q)
begins_cons {b} {c} {p} e begins = record { rest = begins.rest; cut = ap (λ b. b ∷ p) e ∙ ap (λ p. c ∷ p) begins.cut }

-- what is doubled ends at an apostrophe that stands alone
pub reach : (c d r m : Text) → doubled c ++ r ≡ doubled d ++ m → Shut r → Begins c d
reach c [] r m e shut = record { rest = c; cut = refl }
reach [] (d ∷ ds) r m e shut = absurd (shut_front r m d ds (ap (λ s. s ++ r) (sym doubled_none) ∙ e) shut)
reach (c ∷ cs) (d ∷ ds) r m e shut =
    let same = both c d cs ds r m e in
    begins_cons same.0 (reach cs ds r m same.1 shut)

pub doubled_append : (c d : Text) → doubled (c ++ d) ≡ doubled c ++ doubled d
doubled_append [] d = ap (λ s. s ++ doubled d) (sym doubled_none)
doubled_append (c ∷ cs) d =
    ⊎_elim
    (λ quote.
    let whole : doubled (c ∷ (cs ++ d)) ≡ 39 ∷ 39 ∷ doubled (cs ++ d) = ap (λ c. doubled (c ∷ (cs ++ d))) quote ∙ doubled_quote (cs ++ d) in
    let front : doubled (c ∷ cs) ≡ 39 ∷ 39 ∷ doubled cs = ap (λ c. doubled (c ∷ cs)) quote ∙ doubled_quote cs in
    whole ∙ (ap (λ s. 39 ∷ 39 ∷ s) (doubled_append cs d) ∙ ap (λ s. s ++ doubled d) (sym front)))
    (λ plain. doubled_plain c (cs ++ d) plain ∙ (ap (λ s. c ∷ s) (doubled_append cs d) ∙ ap (λ s. s ++ doubled d) (sym (doubled_plain c cs plain))))
    (quote_or c)

pub doubled_longer : (c d : Text) → Begins c d → length (doubled d) ≤ length (doubled c)
doubled_longer c d begins = omega (arith, ap (λ c. length (doubled c)) begins.cut, ap length (doubled_append d begins.rest), length-append (doubled d) (doubled begins.rest))

pub doubled_same : (c d : Text) → doubled c ≡ doubled d → c ≡ d
doubled_same [] [] e = refl
doubled_same [] (d ∷ ds) e = ⊎_elim
    (λ quote. let whole : [] ≡ 39 ∷ 39 ∷ doubled ds = sym doubled_none ∙ (e ∙ (ap (λ d. doubled (d ∷ ds)) quote ∙ doubled_quote ds)) in absurd cc)
    (λ plain. let whole : [] ≡ d ∷ doubled ds = sym doubled_none ∙ (e ∙ doubled_plain d ds plain) in absurd cc)
    (quote_or d)
doubled_same (c ∷ cs) [] e = ⊎_elim
    (λ quote. let whole : [] ≡ 39 ∷ 39 ∷ doubled cs = sym doubled_none ∙ (sym e ∙ (ap (λ c. doubled (c ∷ cs)) quote ∙ doubled_quote cs)) in absurd cc)
    (λ plain. let whole : [] ≡ c ∷ doubled cs = sym doubled_none ∙ (sym e ∙ doubled_plain c cs plain) in absurd cc)
    (quote_or c)
doubled_same (c ∷ cs) (d ∷ ds) e =
    let same = both c d cs ds [] [] (ap (λ s. s ++ []) e) in
    let rest : doubled cs ≡ doubled ds = sym (append-nil (doubled cs)) ∙ (same.1 ∙ append-nil (doubled ds)) in
    let others = doubled_same cs ds rest in
    ap (λ c. c ∷ cs) same.0 ∙ ap (λ cs. d ∷ cs) others
