-- The table of the instructions of RV64I and M: rows, words, ranges, and the instruction of a word.
-- Sections are those of the RISC-V Instruction Set Manual, Volume I: Unprivileged ISA, document version 20191213; the rows stand in chapter 24, RV32/64G Instruction Set Listings.
use Rattle.std.specs.Prelude.{◌≡◌, ℕ, ◌+◌, ◌*◌, ◌/◌, ◌%◌, ◌^◌, ◌<◌, ℤ, pos, negsuc, Bool, true, false, cond, nat_eq, ◌||◌, List, [], ◌∷◌, Option, Some, None}
use Rattle.std.specs.Option.{option_map}
use Rattle.rv_isa.specs.declared.inst.Fields.{Fields}
use Rattle.rv_isa.specs.declared.inst.Inst.{Inst}
use Rattle.rv_isa.specs.declared.inst.Inst.TheVariants.{Lui, Auipc, Jal, Jalr, Branch, Load, Store, Imm, Reg, ImmWord, RegWord, Fence, Ecall, Ebreak}
use Rattle.rv_isa.specs.declared.inst.BranchOp.{BranchOp}
use Rattle.rv_isa.specs.declared.inst.BranchOp.TheVariants.{Beq, Bne, Blt, Bge, Bltu, Bgeu}
use Rattle.rv_isa.specs.declared.inst.LoadOp.{LoadOp}
use Rattle.rv_isa.specs.declared.inst.LoadOp.TheVariants.{Lb, Lh, Lw, Ld, Lbu, Lhu, Lwu}
use Rattle.rv_isa.specs.declared.inst.StoreOp.{StoreOp}
use Rattle.rv_isa.specs.declared.inst.StoreOp.TheVariants.{Sb, Sh, Sw, Sd}
use Rattle.rv_isa.specs.declared.inst.ImmOp.{ImmOp}
use Rattle.rv_isa.specs.declared.inst.ImmOp.TheVariants.{Addi, Slti, Sltiu, Xori, Ori, Andi, Slli, Srli, Srai}
use Rattle.rv_isa.specs.declared.inst.RegOp.{RegOp}
use Rattle.rv_isa.specs.declared.inst.RegOp.TheVariants.{Add, Sub, Sll, Slt, Sltu, Xor, Srl, Sra, Or, And, Mul, Mulh, Mulhsu, Mulhu, Div, Divu, Rem, Remu}
use Rattle.rv_isa.specs.declared.inst.ImmWordOp.{ImmWordOp}
use Rattle.rv_isa.specs.declared.inst.ImmWordOp.TheVariants.{Addiw, Slliw, Srliw, Sraiw}
use Rattle.rv_isa.specs.declared.inst.RegWordOp.{RegWordOp}
use Rattle.rv_isa.specs.declared.inst.RegWordOp.TheVariants.{Addw, Subw, Sllw, Srlw, Sraw, Mulw, Divw, Divuw, Remw, Remuw}
use Rattle.rv_isa.specs.Layout.{word, fields, unsigned, signed, InSigned, r_fields, i_fields, i_bits, s_fields, s_bits, b_fields, b_bits, u_fields, u_bits, j_fields, j_bits}

-- ---- the opcodes (2.4 to 2.8; 5.2 for the word forms)

-- what the words of one opcode are
pub data Group : Type 0 where
  Luis : Group
  Auipcs : Group
  Jals : Group
  Jalrs : Group
  Branches : Group
  Loads : Group
  Stores : Group
  Imms : Group
  Regs : Group
  ImmWords : Group
  RegWords : Group
  Fences : Group
  Calls : Group

abbrev pub opcode_of : Group → ℕ
opcode_of Luis = 0x37
opcode_of Auipcs = 0x17
opcode_of Jals = 0x6F
opcode_of Jalrs = 0x67
opcode_of Branches = 0x63
opcode_of Loads = 0x03
opcode_of Stores = 0x23
opcode_of Imms = 0x13
opcode_of Regs = 0x33
opcode_of ImmWords = 0x1B
opcode_of RegWords = 0x3B
opcode_of Fences = 0x0F
opcode_of Calls = 0x73

-- ---- the rows: the operations of each opcode

-- The key of an operation is funct3 and, above its three bits, what else of the word says which operation it is:
-- funct7 in format R, the upper bits of a shift's immediate (six, or seven in word forms) in format I.
abbrev pub key : (funct3 funct7 : ℕ) → ℕ
key funct3 funct7 = funct3 + 8 * funct7

-- 2.5, Conditional Branches
abbrev pub branch_key : BranchOp → ℕ
branch_key Beq = 0
branch_key Bne = 1
branch_key Blt = 4
branch_key Bge = 5
branch_key Bltu = 6
branch_key Bgeu = 7

-- 2.6 and 5.3
abbrev pub load_key : LoadOp → ℕ
load_key Lb = 0
load_key Lh = 1
load_key Lw = 2
load_key Ld = 3
load_key Lbu = 4
load_key Lhu = 5
load_key Lwu = 6

-- 2.6 and 5.3
abbrev pub store_key : StoreOp → ℕ
store_key Sb = 0
store_key Sh = 1
store_key Sw = 2
store_key Sd = 3

-- 2.4, Integer Register-Immediate Instructions; 5.2 for the shifts by up to 63
abbrev pub imm_key : ImmOp → ℕ
imm_key Addi = key 0 0
imm_key Slti = key 2 0
imm_key Sltiu = key 3 0
imm_key Xori = key 4 0
imm_key Ori = key 6 0
imm_key Andi = key 7 0
imm_key Slli = key 1 0x00
imm_key Srli = key 5 0x00
imm_key Srai = key 5 0x10

-- 2.4, Integer Register-Register Operations; 5.2; 7.1 and 7.2 for MUL to REMU
abbrev pub reg_key : RegOp → ℕ
reg_key Add = key 0 0x00
reg_key Sub = key 0 0x20
reg_key Sll = key 1 0x00
reg_key Slt = key 2 0x00
reg_key Sltu = key 3 0x00
reg_key Xor = key 4 0x00
reg_key Srl = key 5 0x00
reg_key Sra = key 5 0x20
reg_key Or = key 6 0x00
reg_key And = key 7 0x00
reg_key Mul = key 0 0x01
reg_key Mulh = key 1 0x01
reg_key Mulhsu = key 2 0x01
reg_key Mulhu = key 3 0x01
reg_key Div = key 4 0x01
reg_key Divu = key 5 0x01
reg_key Rem = key 6 0x01
reg_key Remu = key 7 0x01

-- 5.2
abbrev pub imm_word_key : ImmWordOp → ℕ
imm_word_key Addiw = key 0 0
imm_word_key Slliw = key 1 0x00
imm_word_key Srliw = key 5 0x00
imm_word_key Sraiw = key 5 0x20

-- 5.2; 7.1 and 7.2 for MULW to REMUW
abbrev pub reg_word_key : RegWordOp → ℕ
reg_word_key Addw = key 0 0x00
reg_word_key Subw = key 0 0x20
reg_word_key Sllw = key 1 0x00
reg_word_key Srlw = key 5 0x00
reg_word_key Sraw = key 5 0x20
reg_word_key Mulw = key 0 0x01
reg_word_key Divw = key 4 0x01
reg_word_key Divuw = key 5 0x01
reg_word_key Remw = key 6 0x01
reg_word_key Remuw = key 7 0x01

-- funct3 of the shifts
abbrev pub is_shift : ℕ → Bool
is_shift funct3 = nat_eq funct3 1 || nat_eq funct3 5

-- the twelve bits of format I: an immediate, or a shift's amount below the rest of its key
abbrev pub key_bits : (amounts key : ℕ) → ℤ → ℕ
key_bits amounts k imm = cond (is_shift (k % 8)) (unsigned 2048 imm + amounts * (k / 8)) (unsigned 2048 imm)

-- ---- the word of an instruction

abbrev pub encode_fields : Inst → Fields
encode_fields (Lui rd imm) = u_fields (opcode_of Luis) rd (unsigned (2 ^ 19) imm)
encode_fields (Auipc rd imm) = u_fields (opcode_of Auipcs) rd (unsigned (2 ^ 19) imm)
encode_fields (Jal rd imm) = j_fields (opcode_of Jals) rd (unsigned (2 ^ 20) imm)
encode_fields (Jalr rd rs1 imm) = i_fields (opcode_of Jalrs) 0 rd rs1 (unsigned 2048 imm)
encode_fields (Branch op rs1 rs2 imm) = b_fields (opcode_of Branches) (branch_key op) rs1 rs2 (unsigned 4096 imm)
encode_fields (Load op rd rs1 imm) = i_fields (opcode_of Loads) (load_key op) rd rs1 (unsigned 2048 imm)
encode_fields (Store op rs1 rs2 imm) = s_fields (opcode_of Stores) (store_key op) rs1 rs2 (unsigned 2048 imm)
encode_fields (Imm op rd rs1 imm) = i_fields (opcode_of Imms) (imm_key op % 8) rd rs1 (key_bits 64 (imm_key op) imm)
encode_fields (Reg op rd rs1 rs2) = r_fields (opcode_of Regs) (reg_key op % 8) (reg_key op / 8) rd rs1 rs2
encode_fields (ImmWord op rd rs1 imm) = i_fields (opcode_of ImmWords) (imm_word_key op % 8) rd rs1 (key_bits 32 (imm_word_key op) imm)
encode_fields (RegWord op rd rs1 rs2) = r_fields (opcode_of RegWords) (reg_word_key op % 8) (reg_word_key op / 8) rd rs1 rs2
encode_fields (Fence rd rs1 imm) = i_fields (opcode_of Fences) 0 rd rs1 (unsigned 2048 imm)
encode_fields Ecall = i_fields (opcode_of Calls) 0 0 0 0
encode_fields Ebreak = i_fields (opcode_of Calls) 0 0 0 1

unfoldable pub encode_word : Inst → ℕ
encode_word i = word (encode_fields i)

-- ---- the range of an instruction: registers 0 to 31, and an immediate that its format has

-- a shift's amount, from 0 to amounts - 1
abbrev pub IsAmount : ℕ → ℤ → Type 0
IsAmount amounts (pos n) = n < amounts
IsAmount amounts (negsuc n) = ⊥

abbrev pub IsEven : ℤ → Type 0
IsEven (pos n) = n % 2 ≡ 0
IsEven (negsuc n) = n % 2 ≡ 1

abbrev pub InImmediate : (shifts : Bool) (amounts : ℕ) → ℤ → Type 0
InImmediate true amounts imm = IsAmount amounts imm
InImmediate false amounts imm = InSigned 2048 imm

abbrev pub InRange : Inst → Type 0
InRange (Lui rd imm) = (rd < 32) × InSigned (2 ^ 19) imm
InRange (Auipc rd imm) = (rd < 32) × InSigned (2 ^ 19) imm
InRange (Jal rd imm) = (rd < 32) × InSigned (2 ^ 20) imm × IsEven imm
InRange (Jalr rd rs1 imm) = (rd < 32) × (rs1 < 32) × InSigned 2048 imm
InRange (Branch op rs1 rs2 imm) = (rs1 < 32) × (rs2 < 32) × InSigned 4096 imm × IsEven imm
InRange (Load op rd rs1 imm) = (rd < 32) × (rs1 < 32) × InSigned 2048 imm
InRange (Store op rs1 rs2 imm) = (rs1 < 32) × (rs2 < 32) × InSigned 2048 imm
InRange (Imm op rd rs1 imm) = (rd < 32) × (rs1 < 32) × InImmediate (is_shift (imm_key op % 8)) 64 imm
InRange (Reg op rd rs1 rs2) = (rd < 32) × (rs1 < 32) × (rs2 < 32)
InRange (ImmWord op rd rs1 imm) = (rd < 32) × (rs1 < 32) × InImmediate (is_shift (imm_word_key op % 8)) 32 imm
InRange (RegWord op rd rs1 rs2) = (rd < 32) × (rs1 < 32) × (rs2 < 32)
InRange (Fence rd rs1 imm) = (rd < 32) × (rs1 < 32) × InSigned 2048 imm
InRange Ecall = Unit {0}
InRange Ebreak = Unit {0}

-- ---- the instruction of a word

-- the first of a list that has the key
abbrev pub find_key : {A : Type 0} → (A → ℕ) → List A → ℕ → Option A
find_key f [] k = None
find_key f (x ∷ xs) k = cond (nat_eq (f x) k) (Some x) (find_key f xs k)

abbrev pub groups : List Group
groups = Luis ∷ Auipcs ∷ Jals ∷ Jalrs ∷ Branches ∷ Loads ∷ Stores ∷ Imms ∷ Regs ∷ ImmWords ∷ RegWords ∷ Fences ∷ Calls ∷ []

abbrev pub branch_ops : List BranchOp
branch_ops = Beq ∷ Bne ∷ Blt ∷ Bge ∷ Bltu ∷ Bgeu ∷ []

abbrev pub load_ops : List LoadOp
load_ops = Lb ∷ Lh ∷ Lw ∷ Ld ∷ Lbu ∷ Lhu ∷ Lwu ∷ []

abbrev pub store_ops : List StoreOp
store_ops = Sb ∷ Sh ∷ Sw ∷ Sd ∷ []

abbrev pub imm_ops : List ImmOp
imm_ops = Addi ∷ Slti ∷ Sltiu ∷ Xori ∷ Ori ∷ Andi ∷ Slli ∷ Srli ∷ Srai ∷ []

abbrev pub reg_ops : List RegOp
reg_ops = Add ∷ Sub ∷ Sll ∷ Slt ∷ Sltu ∷ Xor ∷ Srl ∷ Sra ∷ Or ∷ And ∷ Mul ∷ Mulh ∷ Mulhsu ∷ Mulhu ∷ Div ∷ Divu ∷ Rem ∷ Remu ∷ []

abbrev pub imm_word_ops : List ImmWordOp
imm_word_ops = Addiw ∷ Slliw ∷ Srliw ∷ Sraiw ∷ []

abbrev pub reg_word_ops : List RegWordOp
reg_word_ops = Addw ∷ Subw ∷ Sllw ∷ Srlw ∷ Sraw ∷ Mulw ∷ Divw ∷ Divuw ∷ Remw ∷ Remuw ∷ []

-- the key of an immediate operation, and the immediate
abbrev pub bits_key : (amounts : ℕ) → Fields → ℕ
bits_key amounts f = cond (is_shift f.funct3) (key f.funct3 (i_bits f / amounts)) f.funct3

abbrev pub bits_value : (amounts : ℕ) → Fields → ℤ
bits_value amounts f = cond (is_shift f.funct3) (pos (i_bits f % amounts)) (signed 2048 (i_bits f))

-- ECALL and EBREAK are single words (2.8), by the twenty-five bits above the opcode
abbrev pub call_of : ℕ → Option Inst
call_of upper = cond (nat_eq upper 0) (Some Ecall) (cond (nat_eq upper (2 ^ 13)) (Some Ebreak) None)

abbrev pub decode_group : Fields → Group → Option Inst
decode_group f Luis = Some (Lui f.rd (signed (2 ^ 19) (u_bits f)))
decode_group f Auipcs = Some (Auipc f.rd (signed (2 ^ 19) (u_bits f)))
decode_group f Jals = Some (Jal f.rd (signed (2 ^ 20) (j_bits f)))
decode_group f Jalrs = cond (nat_eq f.funct3 0) (Some (Jalr f.rd f.rs1 (signed 2048 (i_bits f)))) None
decode_group f Branches = option_map (λ op. Branch op f.rs1 f.rs2 (signed 4096 (b_bits f))) (find_key branch_key branch_ops f.funct3)
decode_group f Loads = option_map (λ op. Load op f.rd f.rs1 (signed 2048 (i_bits f))) (find_key load_key load_ops f.funct3)
decode_group f Stores = option_map (λ op. Store op f.rs1 f.rs2 (signed 2048 (s_bits f))) (find_key store_key store_ops f.funct3)
decode_group f Imms = option_map (λ op. Imm op f.rd f.rs1 (bits_value 64 f)) (find_key imm_key imm_ops (bits_key 64 f))
decode_group f Regs = option_map (λ op. Reg op f.rd f.rs1 f.rs2) (find_key reg_key reg_ops (key f.funct3 f.funct7))
decode_group f ImmWords = option_map (λ op. ImmWord op f.rd f.rs1 (bits_value 32 f)) (find_key imm_word_key imm_word_ops (bits_key 32 f))
decode_group f RegWords = option_map (λ op. RegWord op f.rd f.rs1 f.rs2) (find_key reg_word_key reg_word_ops (key f.funct3 f.funct7))
decode_group f Fences = cond (nat_eq f.funct3 0) (Some (Fence f.rd f.rs1 (signed 2048 (i_bits f)))) None
decode_group f Calls = call_of (f.rd + 32 * u_bits f)

abbrev pub decode_in : Fields → Option Group → Option Inst
decode_in f None = None
decode_in f (Some g) = decode_group f g

abbrev pub decode_fields : Fields → Option Inst
decode_fields f = decode_in f (find_key opcode_of groups f.opcode)

unfoldable pub decode_word : ℕ → Option Inst
decode_word w = decode_fields (fields w)

-- an instruction that has this word and is in its range
pub record IsDecoded (w : ℕ) (i : Inst) : Type 0 where
  pub range : InRange i
  pub word_is : encode_word i ≡ w
