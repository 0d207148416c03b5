-- The fields of a word and the formats of the instructions, in numbers: a field of k bits from bit j on is `w / 2 ^ j % 2 ^ k`.
-- Sections are those of the RISC-V Instruction Set Manual, Volume I: Unprivileged ISA, document version 20191213.
use Rattle.std.specs.Prelude.{ℕ, suc, ◌+◌, ◌-◌, ◌*◌, ◌/◌, ◌%◌, ◌^◌, ◌<◌, ℤ, pos, negsuc, cond, nat_lt}
use Rattle.rv_isa.specs.declared.inst.Fields.{Fields}

-- ---- the six fields of a word (2.2, Base Instruction Formats: the fields of format R)

abbrev pub word : Fields → ℕ
word f = f.opcode + 2 ^ 7 * f.rd + 2 ^ 12 * f.funct3 + 2 ^ 15 * f.rs1 + 2 ^ 20 * f.rs2 + 2 ^ 25 * f.funct7

-- the fields of a word below 2 ^ 32
abbrev pub fields : ℕ → Fields
fields w = record {
  opcode = w % 2 ^ 7;
  rd = w / 2 ^ 7 % 2 ^ 5;
  funct3 = w / 2 ^ 12 % 2 ^ 3;
  rs1 = w / 2 ^ 15 % 2 ^ 5;
  rs2 = w / 2 ^ 20 % 2 ^ 5;
  funct7 = w / 2 ^ 25;
}

-- each field has its bits
pub record IsInWidth (f : Fields) : Type 0 where
  pub opcode : f.opcode < 2 ^ 7
  pub rd : f.rd < 2 ^ 5
  pub funct3 : f.funct3 < 2 ^ 3
  pub rs1 : f.rs1 < 2 ^ 5
  pub rs2 : f.rs2 < 2 ^ 5
  pub funct7 : f.funct7 < 2 ^ 7

-- ---- immediates (2.3, Immediate Encoding Variants: the highest bit of each is a sign)

-- two's complement, by half of the number of values
abbrev pub unsigned : ℕ → ℤ → ℕ
unsigned half (pos n) = n
unsigned half (negsuc n) = 2 * half - suc n

abbrev pub signed : ℕ → ℕ → ℤ
signed half n = cond (nat_lt n half) (pos n) (negsuc (2 * half - suc n))

-- from -half to half - 1
abbrev pub InSigned : ℕ → ℤ → Type 0
InSigned half (pos n) = n < half
InSigned half (negsuc n) = n < half

-- ---- the formats (2.2 for R, I, S and U; 2.3 for B and J): to the fields, and the immediate's bits back from them

-- Format R: three registers.
abbrev pub r_fields : (opcode funct3 funct7 rd rs1 rs2 : ℕ) → Fields
r_fields opcode funct3 funct7 rd rs1 rs2 = record { opcode = opcode; rd = rd; funct3 = funct3; rs1 = rs1; rs2 = rs2; funct7 = funct7 }

-- Format I: twelve bits n, where format R has rs2 and funct7.
abbrev pub i_fields : (opcode funct3 rd rs1 n : ℕ) → Fields
i_fields opcode funct3 rd rs1 n = record { opcode = opcode; rd = rd; funct3 = funct3; rs1 = rs1; rs2 = n % 32; funct7 = n / 32 }

abbrev pub i_bits : Fields → ℕ
i_bits f = f.rs2 + 32 * f.funct7

-- Format S: twelve bits n, the lower five where format R has rd, the upper seven in funct7.
abbrev pub s_fields : (opcode funct3 rs1 rs2 n : ℕ) → Fields
s_fields opcode funct3 rs1 rs2 n = record { opcode = opcode; rd = n % 32; funct3 = funct3; rs1 = rs1; rs2 = rs2; funct7 = n / 32 }

abbrev pub s_bits : Fields → ℕ
s_bits f = f.rd + 32 * f.funct7

-- Format B: thirteen bits n, the lowest 0. From the lowest bit on, rd has bit 11 and bits 1 to 4; funct7 has bits 5 to 10 and bit 12.
abbrev pub b_fields : (opcode funct3 rs1 rs2 n : ℕ) → Fields
b_fields opcode funct3 rs1 rs2 n = record {
  opcode = opcode;
  rd = n / 2 ^ 11 % 2 + 2 * (n / 2 % 2 ^ 4);
  funct3 = funct3;
  rs1 = rs1;
  rs2 = rs2;
  funct7 = n / 2 ^ 5 % 2 ^ 6 + 2 ^ 6 * (n / 2 ^ 12);
}

abbrev pub b_bits : Fields → ℕ
b_bits f = 2 * (f.rd / 2) + 2 ^ 5 * (f.funct7 % 2 ^ 6) + 2 ^ 11 * (f.rd % 2) + 2 ^ 12 * (f.funct7 / 2 ^ 6)

-- Format U: twenty bits n, the word's upper twenty.
abbrev pub u_fields : (opcode rd n : ℕ) → Fields
u_fields opcode rd n = record { opcode = opcode; rd = rd; funct3 = n % 8; rs1 = n / 8 % 32; rs2 = n / 256 % 32; funct7 = n / 8192 }

abbrev pub u_bits : Fields → ℕ
u_bits f = f.funct3 + 8 * f.rs1 + 256 * f.rs2 + 8192 * f.funct7

-- Format J: twenty-one bits n, the lowest 0, in the word's upper twenty: from the lowest on bits 12 to 19, bit 11, bits 1 to 10 and bit 20.
abbrev pub j_order : ℕ → ℕ
j_order n = n / 2 ^ 12 % 2 ^ 8 + 2 ^ 8 * (n / 2 ^ 11 % 2) + 2 ^ 9 * (n / 2 % 2 ^ 10) + 2 ^ 19 * (n / 2 ^ 20)

abbrev pub j_fields : (opcode rd n : ℕ) → Fields
j_fields opcode rd n = u_fields opcode rd (j_order n)

abbrev pub j_back : ℕ → ℕ
j_back upper = 2 * (upper / 2 ^ 9 % 2 ^ 10) + 2 ^ 11 * (upper / 2 ^ 8 % 2) + 2 ^ 12 * (upper % 2 ^ 8) + 2 ^ 20 * (upper / 2 ^ 19)

abbrev pub j_bits : Fields → ℕ
j_bits f = j_back (u_bits f)
