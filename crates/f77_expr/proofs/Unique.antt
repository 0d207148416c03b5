-- A text has one list of pieces.
use Rattle.std.proofs.Common.{◌≡◌, ℕ, ◌<◌, List, [], ◌∷◌, ◌++◌, length, map, take, drop, ap, sym, ◌∙◌, subst, refl, arith, length-append}
use Rattle.std.proofs.lemmas.List.{append-nil, append_cancel_right}
use Rattle.std.proofs.Math.Seq.{take-append_seam, drop-append_seam}
use Rattle.f77_expr.specs.declared.token.Token.{Token}
use Rattle.f77_expr.specs.declared.token.Token.TheVariants as t
use Rattle.f77_expr.specs.Kinds.{Tokens}
use Rattle.f77_expr.specs.Spelling.{Text, AreDigits, doubled, word, integer, literal, dot_word, power, sign}
use Rattle.f77_expr.specs.Lexing.{Piece, Good, Strange, Spelled, good, large, unclosed, Front, Pieces, done, spelled, strange, Lexes}
use Rattle.f77_expr.proofs.Doubles.{Shut, reach, doubled_longer, doubled_same}
use Rattle.f77_expr.proofs.Spellings.{Digits, small, great, Quoted, closed, left, Signed, one, two, word_piece, digit_piece, quote_piece, dot_piece, sign_piece, no_empty_piece, first_digit}

-- ---- literals

pub shut_end : Shut (39 ∷ [])
shut_end = record { behind = []; at = refl; alone = λ more e. cc }

closed_only : (c d : Text) → doubled c ++ 39 ∷ [] ≡ doubled d ++ 39 ∷ [] → c ≡ d
closed_only c d e = doubled_same c d (append_cancel_right (doubled c) (doubled d) (39 ∷ []) e)

pub closed_or_left : (c d : Text) → doubled c ++ 39 ∷ [] ≡ doubled d → ⊥
closed_or_left c d e =
    let most = doubled_longer c d (reach c d (39 ∷ []) [] (e ∙ sym (append-nil (doubled d))) shut_end) in
    omega (arith, most, ap length e, length-append (doubled c) (39 ∷ []))

quoted_same : {bs : Text} {p q : Piece} → Quoted bs p → Quoted bs q → p ≡ q
quoted_same (closed c e is) (closed d f as_well) = is ∙ (ap (λ c. Good (t.Text c)) (closed_only c d (sym e ∙ f)) ∙ sym as_well)
quoted_same (closed c e is) (left d f as_well) = absurd (closed_or_left c d (sym e ∙ f))
quoted_same (left c e is) (closed d f as_well) = absurd (closed_or_left d c (sym f ∙ e))
quoted_same (left c e is) (left d f as_well) = is ∙ sym as_well

-- ---- the others

digits_same : {bytes : Text} {p q : Piece} → Digits bytes p → Digits bytes q → p ≡ q
digits_same (small d few is) (small c less as_well) = is ∙ sym as_well
digits_same (small d few is) (great c much as_well) = absurd (omega (arith, few, much))
digits_same (great d much is) (small c few as_well) = absurd (omega (arith, few, much))
digits_same (great d much is) (great c more as_well) = is ∙ sym as_well

digits_of : (bytes : Text) {q : Piece} → AreDigits bytes → Spelled bytes q → Digits bytes q
digits_of [] digits s = absurd (omega (arith, digits.filled))
digits_of (b ∷ bs) digits s = digit_piece (first_digit digits) s

empty_star : {c : ℕ} → [] ≡ c ∷ [] → ⊥
empty_star e = cc

signed_same : {b : ℕ} {bs : Text} {p q : Piece} → Signed b bs p → Signed b bs q → p ≡ q
signed_same (one e is) (one f as_well) = is ∙ sym as_well
signed_same (one e is) (two g f as_well) = absurd (empty_star (sym e ∙ f))
signed_same (two g e is) (one f as_well) = absurd (empty_star (sym f ∙ e))
signed_same (two g e is) (two h f as_well) = is ∙ sym as_well

at_bytes : {bytes other : Text} {q : Piece} → bytes ≡ other → Spelled bytes q → Spelled other q
at_bytes {q = q} e s = subst (λ bytes. Spelled bytes q) e s

pub spelled_same : {bytes : Text} {p q : Piece} → Spelled bytes p → Spelled bytes q → p ≡ q
spelled_same (good token (word c more e letter each eq) is) s =
    let other = word_piece letter (at_bytes e s) in
    is ∙ (ap Good eq ∙ (ap (λ bytes. Good (t.Word bytes)) e ∙ sym other.is))
spelled_same {bytes} (good token (integer digits few eq) is) s = digits_same (small digits few (is ∙ ap Good eq)) (digits_of bytes digits s)
spelled_same (good token (literal content e eq) is) s = quoted_same (closed content refl (is ∙ ap Good eq)) (quote_piece refl (at_bytes e s))
spelled_same (good token (dot_word inside e known eq) is) s =
    let other = dot_piece refl (at_bytes e s) in
    is ∙ (ap Good eq ∙ (ap (λ w. Good (t.Dot w)) (append_cancel_right inside other.inside (46 ∷ []) other.cut) ∙ sym other.is))
spelled_same (good token (power e eq) is) s = signed_same (two refl refl (is ∙ ap Good eq)) (sign_piece (λ h. cc) (at_bytes e s))
spelled_same (good token (sign c e known eq) is) s = signed_same (one refl (is ∙ ap Good eq)) (sign_piece known (at_bytes e s))
spelled_same {bytes} (large digits much is) s = digits_same (great digits much is) (digits_of bytes digits s)
spelled_same (unclosed content e is) s = quoted_same (left content refl is) (quote_piece refl (at_bytes e s))

-- ---- the front

pub front_shorter : {text rest : Text} {piece : Piece} → Front text piece rest → length rest < length text
front_shorter {rest = rest} {piece = piece} front = shorter front.bytes rest front.cut front.spelled
  where
    shorter : {text : Text} {piece : Piece} (bytes rest : Text) → text ≡ bytes ++ rest → Spelled bytes piece → length rest < length text
    shorter [] rest e s = absurd (no_empty_piece s)
    shorter (b ∷ bs) rest e s = omega (arith, ap length e, length-append bs rest)

pub record SameFront (p : Piece) (r : Text) (q : Piece) (s : Text) : Type 0 where
  pub piece : p ≡ q
  pub rest : r ≡ s

pub front_same : {text r s : Text} {p q : Piece} → Front text p r → Front text q s → SameFront p r q s
front_same {r = r} {s = s} {p = p} {q = q} front other =
    let long : length front.bytes ≡ length other.bytes = omega (arith, front.longest other.bytes s q other.cut other.spelled, other.longest front.bytes r p front.cut front.spelled) in
    let whole : front.bytes ++ r ≡ other.bytes ++ s = sym front.cut ∙ other.cut in
    let bytes : front.bytes ≡ other.bytes = sym (take-append_seam front.bytes r) ∙ (ap (take (length front.bytes)) whole ∙ (ap (λ n. take n (other.bytes ++ s)) long ∙ take-append_seam other.bytes s)) in
    let rest : r ≡ s = sym (drop-append_seam front.bytes r) ∙ (ap (drop (length front.bytes)) whole ∙ (ap (λ n. drop n (other.bytes ++ s)) long ∙ drop-append_seam other.bytes s)) in
    record { piece = spelled_same front.spelled (at_bytes (sym bytes) other.spelled); rest = rest }

-- ---- the whole

front_filled : {text rest : Text} {piece : Piece} → text ≡ [] → Front text piece rest → ⊥
front_filled e front = omega (arith, ap length e, front_shorter front)

pub pieces_same : {text : Text} {a b : List Piece} → Pieces text a → Pieces text b → a ≡ b
pieces_same (done e is) (done f as_well) = is ∙ sym as_well
pieces_same (done e is) (spelled front others as_well) = absurd (front_filled e front)
pieces_same (done e is) (strange b f none others as_well) = let no_way : [] ≡ _ = sym e ∙ f in absurd cc
pieces_same (spelled front others is) (done f as_well) = absurd (front_filled f front)
pieces_same (spelled {others = more} front others is) (spelled {first = q} {others = less} other rest as_well) =
    let same = front_same front other in
    let behind = pieces_same others (subst (λ r. Pieces r less) (sym same.rest) rest) in
    is ∙ (ap (λ p. p ∷ more) same.piece ∙ (ap (λ all. q ∷ all) behind ∙ sym as_well))
pieces_same (spelled front others is) (strange b f none rest as_well) = absurd (none.not _ _ front)
pieces_same (strange b e none others is) (done f as_well) = let no_way : [] ≡ _ = sym f ∙ e in absurd cc
pieces_same (strange b e none others is) (spelled front rest as_well) = absurd (none.not _ _ front)
pieces_same (strange {rest = r} {others = more} b e none others is) (strange {rest = s} {others = less} c f neither rest as_well) =
    let whole : b ∷ r ≡ c ∷ s = sym e ∙ f in
    let same : s ≡ r = cc in
    let behind : more ≡ less = pieces_same others (subst (λ r. Pieces r less) same rest) in
    is ∙ (ap (λ all. Strange ∷ all) behind ∙ sym as_well)

good_only : {a b : Token} → Good a ≡ Good b → a ≡ b
good_only e = cc

all_good : (a b : Tokens) → map Good a ≡ map Good b → a ≡ b
all_good [] [] e = refl
all_good [] (y ∷ ys) e = absurd cc
all_good (x ∷ xs) [] e = absurd cc
all_good (x ∷ xs) (y ∷ ys) e =
    let first : Good x ≡ Good y = cc in
    let others : map Good xs ≡ map Good ys = cc in
    ap (λ x. x ∷ xs) (good_only first) ∙ ap (λ xs. y ∷ xs) (all_good xs ys others)

pub lexes_same : (text : Text) (a b : Tokens) → Lexes text a → Lexes text b → a ≡ b
lexes_same text a b l m = all_good a b (pieces_same l m)
