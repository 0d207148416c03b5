-- Code behind code.
use Rattle.std.proofs.Common.{◌≡◌, ℕ, suc, ◌+◌, ◌*◌, ◌≤◌, ◌<◌, List, [], ◌∷◌, ◌++◌, length, drop, sym, ap, ◌∙◌, subst, append_assoc, append-nil, arith, length-append, drop-cons, get_or}
use Rattle.std.proofs.lemmas.Grind.{flat_map-append}
use Rattle.std.proofs.lemmas.List.{drop_all}
use Rattle.rv_isa.specs.declared.inst.Inst.{Inst}
use Rattle.rv_isa.specs.Table.{encode_word}
use Rattle.elf_file.specs.Numbers.{le}
use Rattle.thin_code.specs.Code.{bytes_of, Emits}
use Rattle.thin_code.proofs.Stands.{length-bytes_of}

-- code, and what is written for the place behind it
abbrev pub then_code : (ℕ → List Inst) → (ℕ → List Inst) → ℕ → List Inst
then_code x y p = x p ++ y (p + 4 * length (x p))

pub emits_none : (a : List ℕ) → Emits a a (λ p. [])
emits_none a = record { bytes = sym (append-nil a) }

pub emits_then : {a b c : List ℕ} (x y : ℕ → List Inst) → Emits a b x → Emits b c y → Emits a c (then_code x y)
emits_then {a = a} {b = b} {c = c} x y e g =
    let p = 65536 + length a in
    let q : 65536 + length b ≡ p + 4 * length (x p) = ap (λ n. 65536 + n) (ap length e.bytes ∙ length-append a (bytes_of (x p)) ∙ ap (λ n. length a + n) (length-bytes_of (x p))) ∙ omega arith in
    record {
      bytes = g.bytes ∙ (λ i. e.bytes i ++ bytes_of (y (q i))) ∙ append_assoc a (bytes_of (x p)) (bytes_of (y (p + 4 * length (x p))))
          ∙ ap (λ t. a ++ t) (sym (flat_map-append (λ i. le 4 (encode_word i)) (x p) (y (p + 4 * length (x p)))));
    }

-- ---- a loop over the parts of a list

-- a list from one element on
pub from_element : {X : Type 0} (xs : List X) (k : ℕ) (x : X) → k < length xs → x ≡ get_or xs k x → drop k xs ≡ x ∷ drop (k + 1) xs
from_element xs k x l e = let z : suc k ≡ k + 1 = omega arith in drop-cons xs k x l ∙ (λ i. sym e i ∷ drop (z i) xs)

-- What follows one element's code is what is still to come, where the code of a list is that of its elements.
pub emits_more : {X : Type 0} {a b : List ℕ} (each : X → ℕ → List Inst) (all : List X → ℕ → List Inst) (xs : List X) (k : ℕ) (x : X) → ((x : X) (xs : List X) → all (x ∷ xs) ≡ then_code (each x) (all xs)) → drop k xs ≡ x ∷ drop (k + 1) xs
    → Emits a b (each x) → (whole : List ℕ) → Emits b whole (all (drop (k + 1) xs)) → Emits a whole (all (drop k xs))
emits_more {a = a} each all xs k x law e g whole h =
    subst (Emits a whole) (sym (ap all e ∙ law x (drop (k + 1) xs))) (emits_then (each x) (all (drop (k + 1) xs)) g h)

-- nothing is still to come
pub emits_all : {X : Type 0} {a : List ℕ} (all : List X → ℕ → List Inst) (xs : List X) (k : ℕ) (b : List ℕ) → all [] ≡ (λ p. []) → length xs ≤ k → ((whole : List ℕ) → Emits b whole (all (drop k xs)) → Emits a whole (all xs)) → Emits a b (all xs)
emits_all {a = a} all xs k b law l h = h b (subst (Emits b b) (sym (ap all (drop_all k xs l) ∙ law)) (emits_none b))

-- a list of bytes from one on
pub from_byte : (xs : List ℕ) (k : ℕ) → k < length xs → drop k xs ≡ get_or xs k 0 ∷ drop (k + 1) xs
from_byte xs k l = let z : suc k ≡ k + 1 = omega arith in drop-cons xs k 0 l ∙ ap (λ n. get_or xs k 0 ∷ drop n xs) z
