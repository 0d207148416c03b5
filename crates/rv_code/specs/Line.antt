-- Code in a memory, constants, and pairs of words that reach a target.
use Rattle.std.specs.Prelude.{◌≡◌, ℕ, ◌+◌, ◌-◌, ◌*◌, ◌/◌, ◌%◌, ◌^◌, ◌≤◌, ◌<◌, ℤ, pos, ◌⊎◌, List, [], ◌∷◌}
use Rattle.rv_isa.specs.declared.inst.Inst.{Inst}
use Rattle.rv_isa.specs.declared.inst.Inst.TheVariants.{Lui, Imm, ImmWord}
use Rattle.rv_isa.specs.declared.inst.ImmOp.TheVariants.{Addi, Slli}
use Rattle.rv_isa.specs.declared.inst.ImmWordOp.TheVariants.{Addiw}
use Rattle.rv_isa.specs.Layout.{signed}
use Rattle.rv_isa.specs.Table.{InRange, encode_word}
use Rattle.rv_machine.specs.Memory.{Memory, read, write}
use Rattle.rv_machine.specs.Machine.{State, run, output, bits_of}

-- The words of these instructions stand from a on, in a code segment that ends at e.
pub data HasAt (m : Memory) (e : ℕ) : ℕ → List Inst → Type 0 where
  nil : {a : ℕ} → HasAt m e a []
  more : {a : ℕ} {i : Inst} {is : List Inst} → 65536 ≤ a → a + 4 ≤ e → InRange i → read 4 m a ≡ encode_word i → HasAt m e (a + 4) is → HasAt m e a (i ∷ is)

-- n steps lead from s to t and print o
pub record Goes (n : ℕ) (s t : State) (o : List ℕ) : Type 0 where
  pub stands : run n s ≡ t
  pub prints : output n s ≡ o

-- A number as a signed 20 bits, rounded, times 4096 and a signed 12 bits: LUI or AUIPC, and ADDI, ADDIW or JALR.
abbrev pub upper : ℕ → ℤ
upper h = signed (2 ^ 19) ((h + 2048) / 4096 % 2 ^ 20)

abbrev pub lower : ℕ → ℤ
lower h = signed 2048 (h % 4096)

abbrev pub digit : ℕ → ℕ → ℤ
digit bits c = pos (c % 2 ^ bits)

-- any number of 64 bits in eight words: its upper 32 bits, then 11, 11 and 10 bits
abbrev pub constant : (d c : ℕ) → List Inst
constant d c =
    Lui d (upper (c / 2 ^ 32)) ∷ ImmWord Addiw d d (lower (c / 2 ^ 32))
    ∷ Imm Slli d d (pos 11) ∷ Imm Addi d d (digit 11 (c / 2 ^ 21))
    ∷ Imm Slli d d (pos 11) ∷ Imm Addi d d (digit 11 (c / 2 ^ 10))
    ∷ Imm Slli d d (pos 10) ∷ Imm Addi d d (digit 10 c) ∷ []

-- how far a target is from a place, modulo 2 ^ 64
abbrev pub distance : (from to : ℕ) → ℕ
distance from to = (to + (2 ^ 64 - from)) % 2 ^ 64

-- within the reach of a pair of words, from -2 ^ 31 - 2048 to 2 ^ 31 - 2049
abbrev pub IsNear : ℕ → Type 0
IsNear D = (D + 2 ^ 31 + 2048) % 2 ^ 64 < 2 ^ 32

-- a pair of words at p reaches a near target
abbrev pub PairReaches : Type 0
PairReaches = (p to : ℕ) → p < 2 ^ 63 → to < 2 ^ 63 → IsNear (distance p to)
    → ((p + bits_of (upper (distance p to)) * 4096 % 2 ^ 64) % 2 ^ 64 + bits_of (lower (distance p to))) % 2 ^ 64 ≡ to

-- a piece of data that is written changes no code
abbrev pub CodeStays : Type 0
CodeStays = (m : Memory) (e a n to v : ℕ) (is : List Inst) → e ≤ to → HasAt m e a is → HasAt (write n to v m) e a is

-- what was written is read again, and what lies apart is as before
abbrev pub ReadSame : Type 0
ReadSame = (n a v : ℕ) (m : Memory) → read n (write n a v m) a ≡ v % 2 ^ (8 * n)

abbrev pub ReadOther : Type 0
ReadOther = (k n a v c : ℕ) (m : Memory) → (c + k ≤ a) ⊎ (a + n ≤ c) → read k (write n a v m) c ≡ read k m c
