-- An instruction is read back from its fields, and fields that are read have the instruction.
use Rattle.std.proofs.Common.{◌≡◌, ◌≢◌, ℕ, ◌+◌, ◌*◌, ◌/◌, ◌%◌, ◌^◌, ◌<◌, ◌≤◌, cond, nat_eq, refl, sym, ap, ◌∙◌, subst, arith, lit<, Bool, true, false, List, [], ◌∷◌, Option, Some, None}
use Rattle.std.specs.Prelude.{ℤ, pos, negsuc, IfSome, IfNone}
use Rattle.std.specs.Option.{option_map}
use Rattle.std.proofs.lemmas.Bool.{eqb-true}
use Rattle.rv_isa.specs.declared.inst.Fields.{Fields}
use Rattle.rv_isa.specs.declared.inst.Inst.{Inst}
use Rattle.rv_isa.specs.declared.inst.Inst.TheVariants.{Lui, Auipc, Jal, Jalr, Branch, Load, Store, Imm, Reg, ImmWord, RegWord, Fence, Ecall, Ebreak}
use Rattle.rv_isa.specs.declared.inst.BranchOp.{BranchOp}
use Rattle.rv_isa.specs.declared.inst.BranchOp.TheVariants.{Beq}
use Rattle.rv_isa.specs.declared.inst.LoadOp.{LoadOp}
use Rattle.rv_isa.specs.declared.inst.LoadOp.TheVariants.{Lb}
use Rattle.rv_isa.specs.declared.inst.StoreOp.{StoreOp}
use Rattle.rv_isa.specs.declared.inst.StoreOp.TheVariants.{Sb}
use Rattle.rv_isa.specs.declared.inst.ImmOp.{ImmOp}
use Rattle.rv_isa.specs.declared.inst.ImmOp.TheVariants.{Addi, Slli, Srli, Srai}
use Rattle.rv_isa.specs.declared.inst.RegOp.{RegOp}
use Rattle.rv_isa.specs.declared.inst.RegOp.TheVariants.{Add}
use Rattle.rv_isa.specs.declared.inst.ImmWordOp.{ImmWordOp}
use Rattle.rv_isa.specs.declared.inst.ImmWordOp.TheVariants.{Addiw}
use Rattle.rv_isa.specs.declared.inst.RegWordOp.{RegWordOp}
use Rattle.rv_isa.specs.declared.inst.RegWordOp.TheVariants.{Addw}
use Rattle.rv_isa.specs.Layout.{word, fields, IsInWidth, unsigned, signed, i_fields, i_bits, s_fields, s_bits, b_fields, b_bits, u_fields, u_bits, j_order, j_back}
use Rattle.rv_isa.specs.Table.{Group, Luis, Auipcs, Jals, Jalrs, Branches, Loads, Stores, Imms, Regs, ImmWords, RegWords, Fences, Calls, opcode_of, key, branch_key, load_key, store_key, imm_key, reg_key, imm_word_key, reg_word_key, is_shift, key_bits, encode_fields, encode_word, InImmediate, InRange, find_key, groups, branch_ops, load_ops, store_ops, imm_ops, reg_ops, imm_word_ops, reg_word_ops, bits_key, bits_value, decode_group, decode_in, decode_fields, decode_word, IsDecoded}
use Rattle.rv_isa.proofs.Layouts.{word-fields, fields-in_width, same_fields, fields-word, signed-unsigned, unsigned-below, reads, even_unsigned, even_signed, i_back, u_back, b_back, j_round, j_round_back}

-- ---- the one rule of a table

-- what is found has the key
pub find_key-some : {A : Type 0} (f : A → ℕ) (xs : List A) (k : ℕ) (x : A) → find_key f xs k ≡ Some x → f x ≡ k
find_key-some f [] k x e = absurd (cc)
find_key-some f (y ∷ ys) k x e = go (find_key-some f ys k x) (nat_eq (f y) k) refl e
  where
    go : (find_key f ys k ≡ Some x → f x ≡ k) → (b : Bool) → nat_eq (f y) k ≡ b → cond b (Some y) (find_key f ys k) ≡ Some x → f x ≡ k
    go below true t e = let s : y ≡ x = cc in ap f (sym s) ∙ eqb-true (f y) k t
    go below false t e = below e

-- each operation is found by its key: computed row by row
branch_found : (op : BranchOp) → find_key branch_key branch_ops (branch_key op) ≡ Some op
branch_found Beq = refl
branch_found _ = refl

load_found : (op : LoadOp) → find_key load_key load_ops (load_key op) ≡ Some op
load_found Lb = refl
load_found _ = refl

store_found : (op : StoreOp) → find_key store_key store_ops (store_key op) ≡ Some op
store_found Sb = refl
store_found _ = refl

imm_found : (op : ImmOp) → find_key imm_key imm_ops (imm_key op) ≡ Some op
imm_found Addi = refl
imm_found _ = refl

reg_found : (op : RegOp) → find_key reg_key reg_ops (reg_key op) ≡ Some op
reg_found Add = refl
reg_found _ = refl

imm_word_found : (op : ImmWordOp) → find_key imm_word_key imm_word_ops (imm_word_key op) ≡ Some op
imm_word_found Addiw = refl
imm_word_found _ = refl

reg_word_found : (op : RegWordOp) → find_key reg_word_key reg_word_ops (reg_word_key op) ≡ Some op
reg_word_found Addw = refl
reg_word_found _ = refl

-- ---- immediates with a key

-- without a shift a key is funct3 alone
IsKey : ℕ → Type 0
IsKey k = is_shift (k % 8) ≡ false → k < 8

pub record KeyBack (amounts k d a o : ℕ) (z : ℤ) : Type 0 where
  pub key_is : bits_key amounts (i_fields o (k % 8) d a (key_bits amounts k z)) ≡ k
  pub value : bits_value amounts (i_fields o (k % 8) d a (key_bits amounts k z)) ≡ z

key_back_64 : (k d a o : ℕ) (z : ℤ) (b : Bool) → is_shift (k % 8) ≡ b → InImmediate b 64 z → (b ≡ false → k < 8) → KeyBack 64 k d a o z
key_back_64 k d a o (pos n) true e r s = record {
  key_is = rw e (omega arith);
  value = rw e (ap pos (omega arith));
}
key_back_64 k d a o (negsuc n) true e r s = absurd r
key_back_64 k d a o z false e r s = record {
  key_is = rw e (let h : k < 8 = s refl in omega arith);
  value = rw e (ap (signed 2048) (i_back (unsigned 2048 z)) ∙ signed-unsigned 2048 z r);
}

key_back_32 : (k d a o : ℕ) (z : ℤ) (b : Bool) → is_shift (k % 8) ≡ b → InImmediate b 32 z → (b ≡ false → k < 8) → KeyBack 32 k d a o z
key_back_32 k d a o (pos n) true e r s = record {
  key_is = rw e (omega arith);
  value = rw e (ap pos (omega arith));
}
key_back_32 k d a o (negsuc n) true e r s = absurd r
key_back_32 k d a o z false e r s = record {
  key_is = rw e (let h : k < 8 = s refl in omega arith);
  value = rw e (ap (signed 2048) (i_back (unsigned 2048 z)) ∙ signed-unsigned 2048 z r);
}

imm_is_key : (op : ImmOp) → is_shift (imm_key op % 8) ≡ false → imm_key op < 8
imm_is_key Addi e = lit< tt
imm_is_key Slli e = absurd (cc)
imm_is_key Srli e = absurd (cc)
imm_is_key Srai e = absurd (cc)
imm_is_key _ e = lit< tt

imm_word_is_key : (op : ImmWordOp) → is_shift (imm_word_key op % 8) ≡ false → imm_word_key op < 8
imm_word_is_key Addiw e = lit< tt
imm_word_is_key _ e = absurd (cc)

reg_key_back : (k : ℕ) → key (k % 8) (k / 8) ≡ k
reg_key_back k = omega arith

-- ---- from an instruction to its fields and back

pub round_fields : (i : Inst) → InRange i → decode_fields (encode_fields i) ≡ Some i
round_fields (Lui d z) r = ap (λ z. Some (Lui d z)) (ap (signed (2 ^ 19)) (u_back (unsigned (2 ^ 19) z)) ∙ signed-unsigned (2 ^ 19) z r.1)
round_fields (Auipc d z) r = ap (λ z. Some (Auipc d z)) (ap (signed (2 ^ 19)) (u_back (unsigned (2 ^ 19) z)) ∙ signed-unsigned (2 ^ 19) z r.1)
round_fields (Jal d z) r =
    let n = unsigned (2 ^ 20) z in
    ap (λ z. Some (Jal d z))
    (ap (λ v. signed (2 ^ 20) (j_back v)) (u_back (j_order n)) ∙ ap (signed (2 ^ 20)) (j_round n (even_unsigned (2 ^ 19) z r.1 r.2) (unsigned-below (2 ^ 20) z r.1)) ∙ signed-unsigned (2 ^ 20) z r.1)
round_fields (Jalr d a z) r = ap (λ z. Some (Jalr d a z)) (ap (signed 2048) (i_back (unsigned 2048 z)) ∙ signed-unsigned 2048 z r.2)
round_fields (Branch op a b z) r =
    let n = unsigned 4096 z in
    rw (branch_found op) (ap (λ z. Some (Branch op a b z)) (ap (signed 4096) (b_back 0x63 (branch_key op) a b n (even_unsigned 2048 z r.2 r.3) (unsigned-below 4096 z r.2)) ∙ signed-unsigned 4096 z r.2))
round_fields (Load op d a z) r = rw (load_found op) (ap (λ z. Some (Load op d a z)) (ap (signed 2048) (i_back (unsigned 2048 z)) ∙ signed-unsigned 2048 z r.2))
round_fields (Store op a b z) r = rw (store_found op) (ap (λ z. Some (Store op a b z)) (ap (signed 2048) (i_back (unsigned 2048 z)) ∙ signed-unsigned 2048 z r.2))
round_fields (Imm op d a z) r =
    let k = key_back_64 (imm_key op) d a 0x13 z (is_shift (imm_key op % 8)) refl r.2 (imm_is_key op) in
    let v = bits_value 64 (encode_fields (Imm op d a z)) in
    ap (λ k. option_map (λ o. Imm o d a v) (find_key imm_key imm_ops k)) k.key_is
    ∙ ap (λ f. option_map (λ o. Imm o d a v) f) (imm_found op) ∙ ap (λ z. Some (Imm op d a z)) k.value
round_fields (Reg op d a b) r = ap (λ k. option_map (λ op. Reg op d a b) (find_key reg_key reg_ops k)) (reg_key_back (reg_key op)) ∙ ap (λ o. option_map (λ op. Reg op d a b) o) (reg_found op)
round_fields (ImmWord op d a z) r =
    let k = key_back_32 (imm_word_key op) d a 0x1B z (is_shift (imm_word_key op % 8)) refl r.2 (imm_word_is_key op) in
    let v = bits_value 32 (encode_fields (ImmWord op d a z)) in
    ap (λ k. option_map (λ o. ImmWord o d a v) (find_key imm_word_key imm_word_ops k)) k.key_is
    ∙ ap (λ f. option_map (λ o. ImmWord o d a v) f) (imm_word_found op) ∙ ap (λ z. Some (ImmWord op d a z)) k.value
round_fields (RegWord op d a b) r = ap (λ k. option_map (λ op. RegWord op d a b) (find_key reg_word_key reg_word_ops k)) (reg_key_back (reg_word_key op)) ∙ ap (λ o. option_map (λ op. RegWord op d a b) o) (reg_word_found op)
round_fields (Fence d a z) r = ap (λ z. Some (Fence d a z)) (ap (signed 2048) (i_back (unsigned 2048 z)) ∙ signed-unsigned 2048 z r.2)
round_fields Ecall r = refl
round_fields Ebreak r = refl

-- ---- from fields to an instruction and back

-- an instruction in its range that has these fields
pub record Encodes (f : Fields) (i : Inst) : Type 0 where
  pub range : InRange i
  pub same : encode_fields i ≡ f

same_inst : (f : Fields) (i j : Inst) → Some i ≡ Some j → Encodes f i → Encodes f j
same_inst f i j e h = let s : i ≡ j = cc in subst (λ x. Encodes f x) s h

option_map-some : {A : Type 0} (o : Option A) (k : A → Inst) (f : Fields) (i : Inst) → option_map k o ≡ Some i → ((x : A) → o ≡ Some x → Encodes f (k x)) → Encodes f i
option_map-some None k f i e h = absurd (cc)
option_map-some (Some x) k f i e h = same_inst f (k x) i e (h x refl)

when-some : (b : Bool) (j : Inst) (f : Fields) (i : Inst) → cond b (Some j) None ≡ Some i → (b ≡ true → Encodes f j) → Encodes f i
when-some true j f i e h = same_inst f j i e (h refl)
when-some false j f i e h = absurd (cc)

upper : (f : Fields) → IsInWidth f → (o : ℕ) → o ≡ f.opcode → (n : ℕ) → n ≡ u_bits f → u_fields o f.rd n ≡ f
upper f h o eo n e = same_fields _ f eo refl (omega arith) (omega arith) (omega arith) (omega arith)

imm12 : (f : Fields) → IsInWidth f → (o k : ℕ) → o ≡ f.opcode → k ≡ f.funct3 → (n : ℕ) → n ≡ i_bits f → i_fields o k f.rd f.rs1 n ≡ f
imm12 f h o k eo ek n e = same_fields _ f eo refl ek refl (omega arith) (omega arith)

store12 : (f : Fields) → IsInWidth f → (o k : ℕ) → o ≡ f.opcode → k ≡ f.funct3 → (n : ℕ) → n ≡ s_bits f → s_fields o k f.rs1 f.rs2 n ≡ f
store12 f h o k eo ek n e = same_fields _ f eo (omega arith) ek refl refl (omega arith)

branch13 : (f : Fields) → IsInWidth f → (o k : ℕ) → o ≡ f.opcode → k ≡ f.funct3 → (n : ℕ) → n ≡ b_bits f → b_fields o k f.rs1 f.rs2 n ≡ f
branch13 f h o k eo ek n e = same_fields _ f eo (omega arith) ek refl refl (omega arith)

-- what a key that was found says of the immediate
pub record BitsBack (amounts : ℕ) (f : Fields) (k : ℕ) : Type 0 where
  pub funct : k % 8 ≡ f.funct3
  pub range : InImmediate (is_shift (k % 8)) amounts (bits_value amounts f)
  pub back : key_bits amounts k (bits_value amounts f) ≡ i_bits f

bits_back_64 : (f : Fields) → IsInWidth f → (k : ℕ) (b : Bool) → is_shift f.funct3 ≡ b → k ≡ bits_key 64 f → BitsBack 64 f k
bits_back_64 f h k true e s =
    let t : k ≡ key f.funct3 (i_bits f / 64) = rw e at s in
    let u : k % 8 ≡ f.funct3 = omega arith in
    record { funct = u; range = rw (u, e) (omega arith); back = rw (u, e) (omega arith) }
bits_back_64 f h k false e s =
    let t : k ≡ f.funct3 = rw e at s in
    let u : k % 8 ≡ f.funct3 = omega arith in
    let r = reads 2048 (i_bits f) (omega arith) in
    record { funct = u; range = rw (u, e) r.range; back = rw (u, e) r.back }

bits_back_32 : (f : Fields) → IsInWidth f → (k : ℕ) (b : Bool) → is_shift f.funct3 ≡ b → k ≡ bits_key 32 f → BitsBack 32 f k
bits_back_32 f h k true e s =
    let t : k ≡ key f.funct3 (i_bits f / 32) = rw e at s in
    let u : k % 8 ≡ f.funct3 = omega arith in
    record { funct = u; range = rw (u, e) (omega arith); back = rw (u, e) (omega arith) }
bits_back_32 f h k false e s =
    let t : k ≡ f.funct3 = rw e at s in
    let u : k % 8 ≡ f.funct3 = omega arith in
    let r = reads 2048 (i_bits f) (omega arith) in
    record { funct = u; range = rw (u, e) r.range; back = rw (u, e) r.back }

back_group : (f : Fields) → IsInWidth f → (g : Group) → opcode_of g ≡ f.opcode → (i : Inst) → decode_group f g ≡ Some i → Encodes f i
back_group f h Luis eo i e =
    let r = reads (2 ^ 19) (u_bits f) (omega arith) in
    same_inst f _ i e record { range = (h.rd, r.range); same = upper f h 0x37 eo _ r.back }
back_group f h Auipcs eo i e =
    let r = reads (2 ^ 19) (u_bits f) (omega arith) in
    same_inst f _ i e record { range = (h.rd, r.range); same = upper f h 0x17 eo _ r.back }
back_group f h Jals eo i e =
    let n = j_back (u_bits f) in
    let r = reads (2 ^ 20) n (omega arith) in
    same_inst f _ i e record {
      range = (h.rd, r.range, even_signed (2 ^ 19) n (omega arith) (omega arith));
      same = upper f h 0x6F eo _ (ap j_order r.back ∙ j_round_back (u_bits f) (omega arith));
    }
back_group f h Jalrs eo i e =
    let r = reads 2048 (i_bits f) (omega arith) in
    when-some (nat_eq f.funct3 0) _ f i e (λ t. record { range = (h.rd, h.rs1, r.range); same = imm12 f h 0x67 0 eo (sym (eqb-true f.funct3 0 t)) _ r.back })
back_group f h Branches eo i e =
    let n = b_bits f in
    let r = reads 4096 n (omega arith) in
    option_map-some (find_key branch_key branch_ops f.funct3) _ f i e
    (λ op found. record {
      range = (h.rs1, h.rs2, r.range, even_signed 2048 n (omega arith) (omega arith));
      same = branch13 f h 0x63 (branch_key op) eo (find_key-some branch_key branch_ops f.funct3 op found) _ r.back;
    })
back_group f h Loads eo i e =
    let r = reads 2048 (i_bits f) (omega arith) in
    option_map-some (find_key load_key load_ops f.funct3) _ f i e
    (λ op found. record { range = (h.rd, h.rs1, r.range); same = imm12 f h 0x03 (load_key op) eo (find_key-some load_key load_ops f.funct3 op found) _ r.back })
back_group f h Stores eo i e =
    let r = reads 2048 (s_bits f) (omega arith) in
    option_map-some (find_key store_key store_ops f.funct3) _ f i e
    (λ op found. record { range = (h.rs1, h.rs2, r.range); same = store12 f h 0x23 (store_key op) eo (find_key-some store_key store_ops f.funct3 op found) _ r.back })
back_group f h Imms eo i e =
    option_map-some (find_key imm_key imm_ops (bits_key 64 f)) _ f i e
    (λ op found.
    let k = bits_back_64 f h (imm_key op) (is_shift f.funct3) refl (find_key-some imm_key imm_ops (bits_key 64 f) op found) in
    record { range = (h.rd, h.rs1, k.range); same = imm12 f h 0x13 (imm_key op % 8) eo k.funct _ k.back })
back_group f h Regs eo i e =
    option_map-some (find_key reg_key reg_ops (key f.funct3 f.funct7)) _ f i e
    (λ op found.
    let k = find_key-some reg_key reg_ops (key f.funct3 f.funct7) op found in
    record { range = (h.rd, h.rs1, h.rs2); same = same_fields _ f eo refl (omega arith) refl refl (omega arith) })
back_group f h ImmWords eo i e =
    option_map-some (find_key imm_word_key imm_word_ops (bits_key 32 f)) _ f i e
    (λ op found.
    let k = bits_back_32 f h (imm_word_key op) (is_shift f.funct3) refl (find_key-some imm_word_key imm_word_ops (bits_key 32 f) op found) in
    record { range = (h.rd, h.rs1, k.range); same = imm12 f h 0x1B (imm_word_key op % 8) eo k.funct _ k.back })
back_group f h RegWords eo i e =
    option_map-some (find_key reg_word_key reg_word_ops (key f.funct3 f.funct7)) _ f i e
    (λ op found.
    let k = find_key-some reg_word_key reg_word_ops (key f.funct3 f.funct7) op found in
    record { range = (h.rd, h.rs1, h.rs2); same = same_fields _ f eo refl (omega arith) refl refl (omega arith) })
back_group f h Fences eo i e =
    let r = reads 2048 (i_bits f) (omega arith) in
    when-some (nat_eq f.funct3 0) _ f i e (λ t. record { range = (h.rd, h.rs1, r.range); same = imm12 f h 0x0F 0 eo (sym (eqb-true f.funct3 0 t)) _ r.back })
back_group f h Calls eo i e = go (nat_eq m 0) refl (nat_eq m (2 ^ 13)) refl e
  where
    m : ℕ
    m = f.rd + 32 * u_bits f

    go : (a : Bool) → nat_eq m 0 ≡ a → (b : Bool) → nat_eq m (2 ^ 13) ≡ b → cond a (Some Ecall) (cond b (Some Ebreak) None) ≡ Some i → Encodes f i
    go true t b s e = let z = eqb-true m 0 t in same_inst f Ecall i e record { range = tt; same = same_fields _ f eo (omega arith) (omega arith) (omega arith) (omega arith) (omega arith) }
    go false t true s e = let z = eqb-true m (2 ^ 13) s in same_inst f Ebreak i e record { range = tt; same = same_fields _ f eo (omega arith) (omega arith) (omega arith) (omega arith) (omega arith) }
    go false t false s e = absurd (cc)

-- ---- words

below_key : (op : BranchOp) → branch_key op < 8
below_key Beq = lit< tt
below_key _ = lit< tt

load_below : (op : LoadOp) → load_key op < 8
load_below Lb = lit< tt
load_below _ = lit< tt

store_below : (op : StoreOp) → store_key op < 8
store_below Sb = lit< tt
store_below _ = lit< tt

reg_below : (op : RegOp) → reg_key op < 1024
reg_below Add = lit< tt
reg_below _ = lit< tt

reg_word_below : (op : RegWordOp) → reg_word_key op < 1024
reg_word_below Addw = lit< tt
reg_word_below _ = lit< tt

imm_below : (op : ImmOp) → imm_key op < 256
imm_below Addi = lit< tt
imm_below _ = lit< tt

imm_word_below : (op : ImmWordOp) → imm_word_key op < 512
imm_word_below Addiw = lit< tt
imm_word_below _ = lit< tt

key_bits_below : (b : Bool) (amounts k : ℕ) (z : ℤ) → InImmediate b amounts z → amounts * (k / 8) < 2048 → amounts ≤ 64 → cond b (unsigned 2048 z + amounts * (k / 8)) (unsigned 2048 z) < 4096
key_bits_below true m k (pos n) r s t = omega arith
key_bits_below true m k (negsuc n) r s t = absurd r
key_bits_below false m k z r s t = omega (arith, unsigned-below 2048 z r)

-- the fields of an instruction in its range have their bits
pub width_of : (i : Inst) → InRange i → IsInWidth (encode_fields i)
width_of (Lui d z) r = let u = unsigned-below (2 ^ 19) z r.1 in record { opcode = lit< tt; rd = r.0; funct3 = omega arith; rs1 = omega arith; rs2 = omega arith; funct7 = omega arith }
width_of (Auipc d z) r = let u = unsigned-below (2 ^ 19) z r.1 in record { opcode = lit< tt; rd = r.0; funct3 = omega arith; rs1 = omega arith; rs2 = omega arith; funct7 = omega arith }
width_of (Jal d z) r = let u = unsigned-below (2 ^ 20) z r.1 in record { opcode = lit< tt; rd = r.0; funct3 = omega arith; rs1 = omega arith; rs2 = omega arith; funct7 = omega arith }
width_of (Jalr d a z) r = let u = unsigned-below 2048 z r.2 in record { opcode = lit< tt; rd = r.0; funct3 = lit< tt; rs1 = r.1; rs2 = omega arith; funct7 = omega arith }
width_of (Branch op a b z) r = let u = unsigned-below 4096 z r.2 in record { opcode = lit< tt; rd = omega arith; funct3 = below_key op; rs1 = r.0; rs2 = r.1; funct7 = omega arith }
width_of (Load op d a z) r = let u = unsigned-below 2048 z r.2 in record { opcode = lit< tt; rd = r.0; funct3 = load_below op; rs1 = r.1; rs2 = omega arith; funct7 = omega arith }
width_of (Store op a b z) r = let u = unsigned-below 2048 z r.2 in record { opcode = lit< tt; rd = omega arith; funct3 = store_below op; rs1 = r.0; rs2 = r.1; funct7 = omega arith }
width_of (Imm op d a z) r =
    let s = imm_below op in
    let u = key_bits_below (is_shift (imm_key op % 8)) 64 (imm_key op) z r.2 (omega arith) (omega arith) in
    record { opcode = lit< tt; rd = r.0; funct3 = omega arith; rs1 = r.1; rs2 = omega arith; funct7 = omega arith }
width_of (Reg op d a b) r = let s = reg_below op in record { opcode = lit< tt; rd = r.0; funct3 = omega arith; rs1 = r.1; rs2 = r.2; funct7 = omega arith }
width_of (ImmWord op d a z) r =
    let s = imm_word_below op in
    let u = key_bits_below (is_shift (imm_word_key op % 8)) 32 (imm_word_key op) z r.2 (omega arith) (omega arith) in
    record { opcode = lit< tt; rd = r.0; funct3 = omega arith; rs1 = r.1; rs2 = omega arith; funct7 = omega arith }
width_of (RegWord op d a b) r = let s = reg_word_below op in record { opcode = lit< tt; rd = r.0; funct3 = omega arith; rs1 = r.1; rs2 = r.2; funct7 = omega arith }
width_of (Fence d a z) r = let u = unsigned-below 2048 z r.2 in record { opcode = lit< tt; rd = r.0; funct3 = lit< tt; rs1 = r.1; rs2 = omega arith; funct7 = omega arith }
width_of Ecall r = record { opcode = lit< tt; rd = lit< tt; funct3 = lit< tt; rs1 = lit< tt; rs2 = lit< tt; funct7 = lit< tt }
width_of Ebreak r = record { opcode = lit< tt; rd = lit< tt; funct3 = lit< tt; rs1 = lit< tt; rs2 = lit< tt; funct7 = lit< tt }

pub back_fields : (f : Fields) → IsInWidth f → (i : Inst) → decode_fields f ≡ Some i → Encodes f i
back_fields f h i e = go (find_key opcode_of groups f.opcode) refl e
  where
    go : (o : Option Group) → find_key opcode_of groups f.opcode ≡ o → decode_in f o ≡ Some i → Encodes f i
    go None t e = absurd (cc)
    go (Some g) t e = back_group f h g (find_key-some opcode_of groups f.opcode g t) i e

-- [decode (encode i)] is i
pub decode-encode : (i : Inst) → InRange i → decode_word (encode_word i) ≡ Some i
unfolding decode_word encode_word
decode-encode i r = ap decode_fields (fields-word (encode_fields i) (width_of i r)) ∙ round_fields i r

pub encode-decode : (w : ℕ) → w < 2 ^ 32 → (i : Inst) → decode_word w ≡ Some i → IsDecoded w i
unfolding decode_word encode_word
encode-decode w h i e =
    let b = back_fields (fields w) (fields-in_width w h) i e in
    record { range = b.range; word_is = ap word b.same ∙ word-fields w h }

pub word-below : (i : Inst) → InRange i → encode_word i < 2 ^ 32
unfolding encode_word
word-below i r = let h = width_of i r in omega arith

-- ---- for the contracts

pub decoded : (w : ℕ) → w < 2 ^ 32 → (o : Option Inst) → o ≡ decode_word w → IfSome o (λ i. IsDecoded w i)
decoded w h None e = tt
decoded w h (Some i) e = encode-decode w h i (sym e)

pub not_decoded : (w : ℕ) → (o : Option Inst) → o ≡ decode_word w → IfNone o ((i : Inst) → InRange i → encode_word i ≢ w)
not_decoded w None e = λ i r s. let d = decode-encode i r in let t : decode_word w ≡ Some i = subst (λ v. decode_word v ≡ Some i) s d in absurd (cc (e, t))
not_decoded w (Some i) e = tt
