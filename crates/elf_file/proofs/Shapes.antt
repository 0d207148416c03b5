-- What bytes of the shape have, and bytes that have it are of the shape.
use Rattle.std.proofs.Common.{◌≡◌, ℕ, zero, suc, ◌+◌, ◌^◌, ◌<◌, List, [], ◌∷◌, ◌++◌, length, get_or, take, drop, Bool, true, false, nat_eq, ◌&&◌, refl, sym, ap, ◌∙◌, arith}
use Rattle.std.specs.List.{list_all}
use Rattle.std.proofs.lemmas.List.{take-append-drop, drop-drop, length-take-le, length-drop, length-append, length-replicate}
use Rattle.std.proofs.lemmas.Bool.{eqb-true}
use Rattle.std.proofs.Math.Seq.{drop-append_seam, take-append_seam}
use Rattle.elf_file.specs.Numbers.{read}
use Rattle.elf_file.specs.Shape.{zeros, gap, data_offset, program_header, header, SizesFit, Shape}

-- ---- zeros

pub zeros-zero : zeros 0 ≡ []
unfolding zeros
zeros-zero = refl

pub zeros-suc : (n : ℕ) → zeros (suc n) ≡ 0 ∷ zeros n
unfolding zeros
zeros-suc n = refl

pub length-zeros : (n : ℕ) → length (zeros n) ≡ n
unfolding zeros
length-zeros n = length-replicate n 0

pub zeros-all : (n : ℕ) → list_all (λ b. nat_eq b 0) (zeros n) ≡ true
unfolding zeros
zeros-all zero = refl
zeros-all (suc n) = zeros-all n

pub all-zeros : (xs : List ℕ) → list_all (λ b. nat_eq b 0) xs ≡ true → xs ≡ zeros (length xs)
unfolding zeros
all-zeros [] h = refl
all-zeros (x ∷ xs) h = go (nat_eq x 0) refl h (all-zeros xs)
  where
    go : (b : Bool) → nat_eq x 0 ≡ b → (b && list_all (λ b. nat_eq b 0) xs) ≡ true → (list_all (λ b. nat_eq b 0) xs ≡ true → xs ≡ zeros (length xs)) → x ∷ xs ≡ 0 ∷ zeros (length xs)
    go true e t f = let p = eqb-true x 0 e in let q = f t in (λ i. p i ∷ q i)
    go false e t f = absurd (cc)

-- ---- the header

pub length-header : (c f m : ℕ) → length (header c f m) ≡ 176
unfolding header program_header
length-header c f m = refl

-- the numbers that stand in it
read_code : (c f m : ℕ) (rest : List ℕ) → c < 2 ^ 64 → read 8 (λ x. get_or (header c f m ++ rest) x 0) 96 ≡ c
unfolding header program_header
read_code c f m rest h = omega arith

read_file : (c f m : ℕ) (rest : List ℕ) → f < 2 ^ 64 → read 8 (λ x. get_or (header c f m ++ rest) x 0) 152 ≡ f
unfolding header program_header
read_file c f m rest h = omega arith

read_memory : (c f m : ℕ) (rest : List ℕ) → m < 2 ^ 64 → read 8 (λ x. get_or (header c f m ++ rest) x 0) 160 ≡ m
unfolding header program_header
read_memory c f m rest h = omega arith

-- ---- files of the shape

-- what can be read of the bytes of a file of the shape
pub record Forced (bytes code file : List ℕ) (memory : ℕ) : Type 0 where
  pub code_read : read 8 (λ x. get_or bytes x 0) 96 ≡ length code
  pub file_read : read 8 (λ x. get_or bytes x 0) 152 ≡ length file
  pub memory_read : read 8 (λ x. get_or bytes x 0) 160 ≡ memory
  pub head : take 176 bytes ≡ header (length code) (length file) memory
  pub start : take 3920 (drop 176 bytes) ≡ zeros 3920
  pub between : take (gap (length code)) (drop (4096 + length code) bytes) ≡ zeros (gap (length code))
  pub total : length bytes ≡ data_offset (length code) + length file
  pub sizes : SizesFit (length code) (length file) memory

-- a list of known length before another
pub before : (n : ℕ) (xs ys bytes : List ℕ) → length xs ≡ n → bytes ≡ xs ++ ys → take n bytes ≡ xs
before n xs ys bytes l e = ap (take n) e ∙ ap (λ k. take k (xs ++ ys)) (sym l) ∙ take-append_seam xs ys

pub behind : (n : ℕ) (xs ys bytes : List ℕ) → length xs ≡ n → bytes ≡ xs ++ ys → drop n bytes ≡ ys
behind n xs ys bytes l e = ap (drop n) e ∙ ap (λ k. drop k (xs ++ ys)) (sym l) ∙ drop-append_seam xs ys

pub forced : (bytes code file : List ℕ) (memory : ℕ) → Shape bytes code file memory → Forced bytes code file memory
forced bytes code file memory h =
    let c = length code in
    let f = length file in
    let g = gap c in
    let s = h.sizes in
    let first = header c f memory in
    let text = code ++ (zeros g ++ file) in
    let rest = zeros 3920 ++ text in
    let d1 : drop 176 bytes ≡ rest = behind 176 first rest bytes (length-header c f memory) h.bytes_are in
    let d2 : drop 4096 bytes ≡ text = sym (drop-drop 3920 176 bytes) ∙ behind 3920 (zeros 3920) text (drop 176 bytes) (length-zeros 3920) d1 in
    let d3 : drop (4096 + c) bytes ≡ zeros g ++ file = sym (drop-drop c 4096 bytes) ∙ behind c code (zeros g ++ file) (drop 4096 bytes) refl d2 in
    record {
      code_read = ap (λ (xs : List ℕ). read 8 (λ x. get_or xs x 0) 96) h.bytes_are ∙ read_code c f memory rest (omega arith);
      file_read = ap (λ (xs : List ℕ). read 8 (λ x. get_or xs x 0) 152) h.bytes_are ∙ read_file c f memory rest (omega arith);
      memory_read = ap (λ (xs : List ℕ). read 8 (λ x. get_or xs x 0) 160) h.bytes_are ∙ read_memory c f memory rest (omega arith);
      head = before 176 first rest bytes (length-header c f memory) h.bytes_are;
      start = before 3920 (zeros 3920) text (drop 176 bytes) (length-zeros 3920) d1;
      between = before g (zeros g) file (drop (4096 + c) bytes) (length-zeros g) d3;
      total = ap length h.bytes_are ∙ omega (arith, length-append first rest, length-append (zeros 3920) text, length-append code (zeros g ++ file), length-append (zeros g) file, length-zeros g, length-zeros 3920, length-header c f memory);
      sizes = s;
    }

-- n bytes from k on, and the others
cut : (k n : ℕ) (bytes : List ℕ) → drop k bytes ≡ take n (drop k bytes) ++ drop (k + n) bytes
cut k n bytes = sym (take-append-drop n (drop k bytes)) ∙ ap (λ xs. take n (drop k bytes) ++ xs) (drop-drop n k bytes)

-- bytes that pass the tests have the shape
pub found : (bytes : List ℕ) (c f memory : ℕ) → SizesFit c f memory → length bytes ≡ data_offset c + f → take 176 bytes ≡ header c f memory → take 3920 (drop 176 bytes) ≡ zeros 3920 → take (gap c) (drop (4096 + c) bytes) ≡ zeros (gap c) → Shape bytes (take c (drop 4096 bytes)) (drop (data_offset c) bytes) memory
found bytes c f memory s t e z0 z =
    let g = gap c in
    let code = take c (drop 4096 bytes) in
    let file = drop (data_offset c) bytes in
    let lc : length code ≡ c = length-take-le c (drop 4096 bytes) (omega (arith, length-drop 4096 bytes)) in
    let lf : length file ≡ f = length-drop (data_offset c) bytes ∙ omega arith in
    let d3 : drop (4096 + c) bytes ≡ zeros g ++ file = cut (4096 + c) g bytes ∙ ap (λ xs. xs ++ file) z in
    let d2 : drop 4096 bytes ≡ code ++ (zeros g ++ file) = cut 4096 c bytes ∙ ap (λ xs. code ++ xs) d3 in
    let d1 : drop 176 bytes ≡ zeros 3920 ++ (code ++ (zeros g ++ file)) = cut 176 3920 bytes ∙ (λ i. z0 i ++ d2 i) in
    let b : bytes ≡ header c f memory ++ (zeros 3920 ++ (code ++ (zeros g ++ file))) = sym (take-append-drop 176 bytes) ∙ (λ i. e i ++ d1 i) in
    record {
      sizes = rw (lc, lf) s;
      bytes_are = b ∙ (λ i. header (sym lc i) (sym lf i) memory ++ (zeros 3920 ++ (code ++ (zeros (gap (sym lc i)) ++ file))));
    }
