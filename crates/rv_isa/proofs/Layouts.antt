-- Words and fields, and immediates, there and back.
use Rattle.std.proofs.Common.{◌≡◌, ℕ, suc, ◌+◌, ◌-◌, ◌*◌, ◌/◌, ◌%◌, ◌^◌, ◌<◌, ◌≤◌, cond, refl, ap, ◌∙◌, arith, Bool, true, false}
use Rattle.std.specs.Prelude.{ℤ, pos, negsuc, nat_lt}
use Rattle.std.proofs.lemmas.Bool.{lt-ltb, le-ltb, ltb-true, ltb-false}
use Rattle.rv_isa.specs.declared.inst.Fields.{Fields}
use Rattle.rv_isa.specs.Layout.{word, fields, IsInWidth, unsigned, signed, InSigned, b_fields, b_bits, j_order, j_back}
use Rattle.rv_isa.specs.Table.{IsEven}

pub word-fields : (w : ℕ) → w < 2 ^ 32 → word (fields w) ≡ w
word-fields w h = omega arith

pub fields-in_width : (w : ℕ) → w < 2 ^ 32 → IsInWidth (fields w)
fields-in_width w h = record { opcode = omega arith; rd = omega arith; funct3 = omega arith; rs1 = omega arith; rs2 = omega arith; funct7 = omega arith }

pub same_fields : (f g : Fields) → f.opcode ≡ g.opcode → f.rd ≡ g.rd → f.funct3 ≡ g.funct3 → f.rs1 ≡ g.rs1 → f.rs2 ≡ g.rs2 → f.funct7 ≡ g.funct7 → f ≡ g
same_fields f g e0 e1 e2 e3 e4 e5 = λ i. record { opcode = e0 i; rd = e1 i; funct3 = e2 i; rs1 = e3 i; rs2 = e4 i; funct7 = e5 i }

pub fields-word : (f : Fields) → IsInWidth f → fields (word f) ≡ f
fields-word f h = same_fields _ f (omega arith) (omega arith) (omega arith) (omega arith) (omega arith) (omega arith)

pub signed-unsigned : (h : ℕ) (z : ℤ) → InSigned h z → signed h (unsigned h z) ≡ z
signed-unsigned h (pos n) r = ap (λ b. cond b (pos n) (negsuc (2 * h - suc n))) (lt-ltb n h r)
signed-unsigned h (negsuc n) r =
    ap (λ b. cond b (pos (2 * h - suc n)) (negsuc (2 * h - suc (2 * h - suc n)))) (le-ltb (2 * h - suc n) h (omega arith))
    ∙ ap negsuc (omega arith)

pub unsigned-below : (h : ℕ) (z : ℤ) → InSigned h z → unsigned h z < 2 * h
unsigned-below h (pos n) r = omega arith
unsigned-below h (negsuc n) r = omega arith

-- what a value that was read stands for
pub record Reads (h n : ℕ) (z : ℤ) : Type 0 where
  pub range : InSigned h z
  pub back : unsigned h z ≡ n

pub reads : (h n : ℕ) → n < 2 * h → Reads h n (signed h n)
reads h n r = go (nat_lt n h) refl
  where
    go : (b : Bool) → nat_lt n h ≡ b → Reads h n (cond b (pos n) (negsuc (2 * h - suc n)))
    go true e = record { range = ltb-true n h e; back = refl }
    go false e = let g : h ≤ n = ltb-false n h e in record { range = omega arith; back = omega arith }

pub even_unsigned : (h : ℕ) (z : ℤ) → InSigned (2 * h) z → IsEven z → unsigned (2 * h) z % 2 ≡ 0
even_unsigned h (pos n) r e = e
even_unsigned h (negsuc n) r e = omega arith

pub even_signed : (h n : ℕ) → n % 2 ≡ 0 → n < 2 * (2 * h) → IsEven (signed (2 * h) n)
even_signed h n e r = go (nat_lt n (2 * h)) refl
  where
    go : (b : Bool) → nat_lt n (2 * h) ≡ b → IsEven (cond b (pos n) (negsuc (2 * (2 * h) - suc n)))
    go true t = e
    go false t = omega arith

pub i_back : (n : ℕ) → n % 32 + 32 * (n / 32) ≡ n
i_back n = omega arith

pub u_back : (n : ℕ) → n % 8 + 8 * (n / 8 % 32) + 256 * (n / 256 % 32) + 8192 * (n / 8192) ≡ n
u_back n = omega arith

pub b_back : (o f a b n : ℕ) → n % 2 ≡ 0 → n < 2 ^ 13 → b_bits (b_fields o f a b n) ≡ n
b_back o f a b n e h = omega arith

pub j_round : (n : ℕ) → n % 2 ≡ 0 → n < 2 ^ 21 → j_back (j_order n) ≡ n
j_round n e h = omega arith

pub j_round_back : (v : ℕ) → v < 2 ^ 20 → j_order (j_back v) ≡ v
j_round_back v h = omega arith
