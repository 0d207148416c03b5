-- The words of code, as bytes and as digits.
use Rattle.std.proofs.Common.{◌≡◌, ℕ, zero, suc, ◌+◌, ◌*◌, ◌^◌, ◌<◌, List, [], ◌∷◌, ◌++◌, length, take, drop, get_or, Result, Ok, Err, refl, sym, ap, subst, ◌∙◌, arith}
use Rattle.std.specs.Int.{byte_at}
use Rattle.std.specs.List.{All}
use Rattle.std.proofs.lemmas.List.{append-nil, take_more}
use Rattle.std.proofs.lemmas.List.Concat.{flat_map-append}
use Rattle.std.proofs.lemmas.List.Elements.{All-head, All-tail}
use Rattle.byteorder.specs.Endian.{little_bytes, little_number}
use Rattle.byteorder.specs.Numbers.{little_number-reads_back}
use Rattle.hex.specs.Hex.{IsBytes, decode_of, encode_lower}
use Rattle.hex.specs.declared.error.FromHexError.{FromHexError}
use Rattle.hex.proofs.HexLemmas.{decode_of-encode_lower}
use Rattle.obj_form.specs.Grammar.{code_bytes}

abbrev pub Small : ℕ → Type 0
Small w = w < 2 ^ 32

any_default : (xs : List ℕ) (k d e : ℕ) → k < length xs → get_or xs k d ≡ get_or xs k e
any_default [] k d e within = absurd (omega arith)
any_default (x ∷ xs) zero d e within = refl
any_default (x ∷ xs) (suc k) d e within = any_default xs k d e (omega arith)

pub all_small : (xs : List ℕ) → ((k : ℕ) → Small (get_or xs k 0)) → All Small xs
all_small xs h = λ k d within. subst Small (any_default xs k 0 d within) (h k)

pub more_bytes : (words : List ℕ) (i w : ℕ) → i < length words → code_bytes (take (i + 1) words) ≡ code_bytes (take i words) ++ little_bytes 4 (get_or words i w)
more_bytes words i w within =
    ap code_bytes (take_more words i w within)
    ∙ flat_map-append (little_bytes 4) (take i words) (get_or words i w ∷ [])
    ∙ ap (λ r. code_bytes (take i words) ++ r) (append-nil (little_bytes 4 (get_or words i w)))

pub length-code_bytes : (code : List ℕ) → length (code_bytes code) ≡ 4 * length code
length-code_bytes [] = refl
length-code_bytes (w ∷ code) = let later = length-code_bytes code in omega (arith, later)

-- the word that is read at its place
pub word_at : (code : List ℕ) (i d : ℕ) → All Small code → i < length code → little_number 4 (drop (4 * i) (code_bytes code)) ≡ get_or code i d
word_at [] i d small within = absurd (omega arith)
word_at (w ∷ code) zero d small within = little_number-reads_back 4 w (code_bytes code) (All-head Small w code small)
word_at (w ∷ code) (suc i) d small within =
    let place : 4 * suc i ≡ suc (suc (suc (suc (4 * i)))) = omega arith in
    ap (λ n. little_number 4 (drop n (code_bytes (w ∷ code)))) place ∙ word_at code i d (All-tail Small w code small) (omega arith)

bytes_before : (b : ℕ) (bs : List ℕ) → b < 256 → IsBytes bs → IsBytes (b ∷ bs)
bytes_before b bs small later zero = small
bytes_before b bs small later (suc i) = later i

four_before : (a b c d : ℕ) (bs : List ℕ) → a < 256 → b < 256 → c < 256 → d < 256 → IsBytes bs → IsBytes (a ∷ b ∷ c ∷ d ∷ bs)
four_before a b c d bs h i j k later =
    bytes_before a (b ∷ c ∷ d ∷ bs) h (bytes_before b (c ∷ d ∷ bs) i (bytes_before c (d ∷ bs) j (bytes_before d bs k later)))

pub IsBytes-code : (code : List ℕ) → IsBytes (code_bytes code)
IsBytes-code [] = λ i. omega arith
IsBytes-code (w ∷ code) =
    four_before (byte_at 0 w) (byte_at 1 w) (byte_at 2 w) (byte_at 3 w) (code_bytes code)
    (omega arith) (omega arith) (omega arith) (omega arith) (IsBytes-code code)

-- digits of code are read as its bytes
pub decoded : (code : List ℕ) → decode_of (encode_lower (code_bytes code)) ≡ Ok (code_bytes code)
decoded code = decode_of-encode_lower (code_bytes code) (IsBytes-code code)

front : (x : ℕ) (a : List ℕ) → Small x → little_number 4 (code_bytes (x ∷ a)) ≡ x
front x a small = little_number-reads_back 4 x (code_bytes a) small

pub code_of_bytes : (a b : List ℕ) → All Small a → All Small b → code_bytes a ≡ code_bytes b → a ≡ b
code_of_bytes [] [] small fits e = refl
code_of_bytes [] (y ∷ b) small fits e = let lengths = ap (λ (r : List ℕ). length r) e in absurd (omega (arith, lengths))
code_of_bytes (x ∷ a) [] small fits e = let lengths = ap (λ (r : List ℕ). length r) e in absurd (omega (arith, lengths))
code_of_bytes (x ∷ a) (y ∷ b) small fits e =
    let first : x ≡ y = sym (front x a (All-head Small x a small)) ∙ ap (little_number 4) e ∙ front y b (All-head Small y b fits) in
    let others : code_bytes a ≡ code_bytes b = ap (drop 4) e in
    let later = code_of_bytes a b (All-tail Small x a small) (All-tail Small y b fits) others in
    ap (λ n. n ∷ a) first ∙ ap (λ r. y ∷ r) later

abbrev pub ok_or_none : Result (List ℕ) FromHexError → List ℕ
ok_or_none (Ok xs) = xs
ok_or_none _ = []

-- code has one text
pub code_of_text : (a b : List ℕ) → All Small a → All Small b → encode_lower (code_bytes a) ≡ encode_lower (code_bytes b) → a ≡ b
code_of_text a b small fits e =
    code_of_bytes a b small fits (ap ok_or_none (sym (decoded a) ∙ ap decode_of e ∙ decoded b))

-- what isn't read as bytes is no code
pub no_code : (text code : List ℕ) (fault : FromHexError) → decode_of text ≡ Err fault → text ≡ encode_lower (code_bytes code) → ⊥
no_code text code fault e is = let both : Err fault ≡ Ok (code_bytes code) = sym e ∙ ap decode_of is ∙ decoded code in cc both
