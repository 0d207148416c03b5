-- Bytes that are read back from their doubled form.
use Rattle.std.proofs.Common.{◌≡◌, ℕ, ◌+◌, ◌<◌, Bool, true, false, [], ◌∷◌, ◌++◌, length, drop, get_or, ap, sym, ◌∙◌, refl, ◌==◌, ⊎_elim, append_assoc}
use Rattle.std.proofs.lemmas.List.{append-nil, drop_more}
use Rattle.f77_expr.specs.Spelling.{Text, doubled}
use Rattle.f77_expr.proofs.Doubles.{doubled_none, doubled_quote, doubled_plain, quote_or}

-- What is still to be read, where half says that the second of two apostrophes comes next.
pub data Half (half : Bool) (all rest content : Text) : Type 0 where
  even : (left : Text) → half ≡ false → rest ≡ doubled left → content ≡ all ++ left → Half half all rest content
  odd : (left : Text) → half ≡ true → rest ≡ 39 ∷ doubled left → content ≡ all ++ left → Half half all rest content

pub half_start : (bytes content : Text) → bytes ≡ doubled content → Half false [] bytes content
half_start bytes content e = even content refl e refl

pub half_skips : (bytes all content : Text) (i : ℕ) → i < length bytes → Half true all (drop i bytes) content → Half false all (drop (i + 1) bytes) content
half_skips bytes all content i lt (even left h e f) = absurd cc
half_skips bytes all content i lt (odd left h e f) =
    let whole : get_or bytes i 0 ∷ drop (i + 1) bytes ≡ 39 ∷ doubled left = sym (drop_more bytes i 0 lt) ∙ e in
    let rest : drop (i + 1) bytes ≡ doubled left = cc in
    even left refl rest f

takes : (b : ℕ) (left all more content : Text) → b ∷ more ≡ doubled left → content ≡ all ++ left → Half (b == 39) (all ++ b ∷ []) more content
takes b [] all more content e f = let no_way : b ∷ more ≡ [] = e ∙ doubled_none in absurd cc
takes b (d ∷ left) all more content e f =
    ⊎_elim
    (λ quote.
    let whole : b ∷ more ≡ 39 ∷ 39 ∷ doubled left = e ∙ (ap (λ d. doubled (d ∷ left)) quote ∙ doubled_quote left) in
    let first : b ≡ 39 = cc in
    let rest : more ≡ 39 ∷ doubled left = cc in
    odd left (ap (λ b. b == 39) first) rest (f ∙ (ap (λ d. all ++ d ∷ left) (quote ∙ sym first) ∙ sym (append_assoc all (b ∷ []) left))))
    (λ plain.
    let whole : b ∷ more ≡ d ∷ doubled left = e ∙ doubled_plain d left plain in
    let first : b ≡ d = cc in
    let rest : more ≡ doubled left = cc in
    even left (ap (λ b. b == 39) first ∙ plain) rest (f ∙ (ap (λ d. all ++ d ∷ left) (sym first) ∙ sym (append_assoc all (b ∷ []) left))))
    (quote_or d)

pub half_takes : (bytes all content : Text) (i : ℕ) → i < length bytes → Half false all (drop i bytes) content → Half (get_or bytes i 0 == 39) (all ++ get_or bytes i 0 ∷ []) (drop (i + 1) bytes) content
half_takes bytes all content i lt (even left h e f) = takes (get_or bytes i 0) left all (drop (i + 1) bytes) content (sym (drop_more bytes i 0 lt) ∙ e) f
half_takes bytes all content i lt (odd left h e f) = absurd cc

nothing : (left : Text) → [] ≡ doubled left → left ≡ []
nothing [] e = refl
nothing (d ∷ left) e =
    ⊎_elim
    (λ quote. let no_way : [] ≡ 39 ∷ 39 ∷ doubled left = e ∙ (ap (λ d. doubled (d ∷ left)) quote ∙ doubled_quote left) in absurd cc)
    (λ plain. let no_way : [] ≡ d ∷ doubled left = e ∙ doubled_plain d left plain in absurd cc)
    (quote_or d)

pub half_end : {half : Bool} {rest : Text} (all content : Text) → rest ≡ [] → Half half all rest content → all ≡ content
half_end all content e (even left h f g) = sym (append-nil all) ∙ (ap (λ s. all ++ s) (sym (nothing left (sym e ∙ f))) ∙ sym g)
half_end all content e (odd left h f g) = let no_way : [] ≡ 39 ∷ doubled left = sym e ∙ f in absurd cc
