-- The code of a file stands in the machine's memory.
use Rattle.std.proofs.Common.{◌≡◌, ℕ, suc, ◌+◌, ◌-◌, ◌*◌, ◌/◌, ◌%◌, ◌^◌, ◌≤◌, ◌<◌, List, [], ◌∷◌, ◌++◌, length, true, cond, refl, sym, ap, ◌∙◌, subst, append_assoc, arith, lit<, length-append}
use Rattle.std.specs.Prelude.{nat_lt, slice_index}
use Rattle.std.proofs.lemmas.Bool.{lt-ltb}
use Rattle.rv_isa.specs.declared.inst.Inst.{Inst}
use Rattle.rv_isa.specs.Table.{encode_word}
use Rattle.rv_isa.proofs.Round.{word-below}
use Rattle.rv_machine.specs.Memory.{read}
use Rattle.rv_machine.specs.Kept.{whole}
use Rattle.rv_code.specs.Line.{HasAt, nil, more}
use Rattle.elf_file.specs.Numbers.{le}
use Rattle.thin_code.specs.Code.{InRanges, bytes_of}

-- the byte behind so many
index_behind : (before : List ℕ) (xs : List ℕ) (k : ℕ) → slice_index (before ++ xs) (length before + k) ≡ slice_index xs k
index_behind [] xs k = let z : 0 + k ≡ k = omega arith in ap (slice_index xs) z
index_behind (b ∷ before) xs k =
    let z : suc (length before) + k ≡ suc (length before + k) = omega arith in
    ap (slice_index (b ∷ (before ++ xs))) z ∙ index_behind before xs k

-- four bytes give their word again
four_bytes : (w : ℕ) → w < 2 ^ 32 → w % 256 + 256 * (w / 256 % 256 + 256 * (w / 256 / 256 % 256 + 256 * (w / 256 / 256 / 256 % 256 + 256 * 0))) ≡ w
four_bytes w h = omega arith

pub length-bytes_of : (is : List Inst) → length (bytes_of is) ≡ 4 * length is
length-bytes_of [] = refl
length-bytes_of (i ∷ is) = length-append (le 4 (encode_word i)) (bytes_of is) ∙ omega (arith, length-bytes_of is)

-- a byte of the code
code_byte : (code bytes : List ℕ) (at x k : ℕ) → 65536 + length code ≤ at → x ≡ 65536 + k → k < length code → whole code bytes at x ≡ slice_index code k
code_byte code bytes at x k l e h =
    let t : nat_lt x at ≡ true = lt-ltb x at (omega arith) in
    let z : x - 65536 ≡ k = omega arith in
    ap (λ b. cond b (slice_index code (x - 65536)) (slice_index bytes (x - at))) t ∙ ap (slice_index code) z

-- Behind the code before them the words stand where they are to.
pub stand : (bytes : List ℕ) (at : ℕ) (code before : List ℕ) (is : List Inst) → 65536 + length code ≤ at → code ≡ before ++ bytes_of is → InRanges is → HasAt (whole code bytes at) (65536 + length code) (65536 + length before) is
stand bytes at code before [] l e r = nil
stand bytes at code before (i ∷ is) l e r =
    let w = encode_word i in
    let n = length before in
    let rest = bytes_of is in
    let total : length code ≡ n + (4 + length rest) = ap length e ∙ length-append before (le 4 w ++ rest) ∙ omega arith in
    let byte : (k : ℕ) → k < 4 → (x : ℕ) → x ≡ 65536 + (n + k) → whole code bytes at x ≡ slice_index (le 4 w ++ rest) k =
    λ k h x ex. code_byte code bytes at x (n + k) l ex (omega (arith, total, h)) ∙ ap (λ c. slice_index c (n + k)) e ∙ index_behind before (le 4 w ++ rest) k in
    let b0 = byte 0 (lit< tt) (65536 + n) (omega arith) in
    let b1 = byte 1 (lit< tt) (65536 + n + 1) (omega arith) in
    let b2 = byte 2 (lit< tt) (65536 + n + 1 + 1) (omega arith) in
    let b3 = byte 3 (lit< tt) (65536 + n + 1 + 1 + 1) (omega arith) in
    let word : read 4 (whole code bytes at) (65536 + n) ≡ w = (λ j. b0 j + 256 * (b1 j + 256 * (b2 j + 256 * (b3 j + 256 * 0)))) ∙ four_bytes w (word-below i r.0) in
    let z : 65536 + length (before ++ le 4 w) ≡ 65536 + n + 4 = ap (λ k. 65536 + k) (length-append before (le 4 w)) ∙ omega arith in
    more (omega arith) (omega (arith, total)) r.0 word
    (subst (λ a. HasAt (whole code bytes at) (65536 + length code) a is) z (stand bytes at code (before ++ le 4 w) is l (e ∙ sym (append_assoc before (le 4 w) rest)) r.1))
