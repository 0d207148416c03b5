-- The shape of an executable file: ELF-64 Object File Format, version 1.5, "File Header" and "Program Header Table".
-- The machine's number is that of RISC-V (RISC-V ELF psABI, "File Header").
use Rattle.std.specs.Prelude.{◌≡◌, ℕ, ◌+◌, ◌-◌, ◌%◌, ◌^◌, ◌≤◌, ◌<◌, List, [], ◌∷◌, ◌++◌, length, replicate}
use Rattle.elf_file.specs.declared.writing.Segment.{Segment}
use Rattle.elf_file.specs.Numbers.{le}

unfoldable pub zeros : ℕ → List ℕ
zeros n = replicate n 0

-- a row of numbers, each with the number of its bytes
abbrev pub fields : List (ℕ × ℕ) → List ℕ
fields [] = []
fields (f ∷ fs) = le f.0 f.1 ++ fields fs

-- e_ident: the magic number, 64-bit objects (2), little-endian (1), version 1; the other bytes are 0
abbrev pub identification : List ℕ
identification = 0x7F ∷ 0x45 ∷ 0x4C ∷ 0x46 ∷ 2 ∷ 1 ∷ 1 ∷ 0 ∷ 0 ∷ 0 ∷ 0 ∷ 0 ∷ 0 ∷ 0 ∷ 0 ∷ 0 ∷ []

-- "File Header": 64 bytes
abbrev pub file_header : List ℕ
file_header =
    identification
    ++ fields (
    (2, 2)  -- e_type: an executable file
    ∷ (2, 243)  -- e_machine: RISC-V
    ∷ (4, 1)  -- e_version
    ∷ (8, 65536)  -- e_entry
    ∷ (8, 64)  -- e_phoff: the program headers stand behind this header
    ∷ (8, 0)  -- e_shoff: no section headers
    ∷ (4, 0)  -- e_flags
    ∷ (2, 64)  -- e_ehsize
    ∷ (2, 56)  -- e_phentsize
    ∷ (2, 2)  -- e_phnum
    ∷ (2, 0)  -- e_shentsize
    ∷ (2, 0)  -- e_shnum
    ∷ (2, 0)  -- e_shstrndx
    ∷ [])

-- "Program Header Table": 56 bytes for each segment
unfoldable pub program_header : Segment → List ℕ
program_header s = fields (
    (4, 1)  -- p_type: to be loaded
    ∷ (4, s.flags)  -- p_flags: 1 to be executed, 2 to be written, 4 to be read
    ∷ (8, s.offset)  -- p_offset
    ∷ (8, s.address)  -- p_vaddr
    ∷ (8, s.address)  -- p_paddr
    ∷ (8, s.file)  -- p_filesz
    ∷ (8, s.memory)  -- p_memsz
    ∷ (8, 4096)  -- p_align
    ∷ [])

-- from the code's end to the next multiple of 4096
abbrev pub gap : ℕ → ℕ
gap code = (4096 - code % 4096) % 4096

-- where the data begin in the file: the first multiple of 4096 not below the code's end
abbrev pub data_offset : ℕ → ℕ
data_offset code = 4096 + code + gap code

-- where the data begin in memory
abbrev pub data_at : ℕ → ℕ
data_at code = data_offset code + 61440

-- the first 176 bytes of a file
unfoldable pub header : (code file memory : ℕ) → List ℕ
header code file memory =
    file_header
    ++ (program_header (record { flags = 5; offset = 4096; address = 65536; file = code; memory = code })
    ++ program_header (record { flags = 6; offset = data_offset code; address = data_at code; file = file; memory = memory }))

-- the bytes of a file: the header, the code from 4096 on, and the data
abbrev pub file_bytes : (code file : List ℕ) (memory : ℕ) → List ℕ
file_bytes code file memory =
    header (length code) (length file) memory ++ (zeros 3920 ++ (code ++ (zeros (gap (length code)) ++ file)))

-- sizes of code and of data, in the file and in memory, that a file may have
pub record SizesFit (code file memory : ℕ) : Type 0 where
  pub words : code % 4 ≡ 0
  pub units : file % 8 ≡ 0
  pub memory_units : memory % 8 ≡ 0
  pub within : file ≤ memory
  pub below : data_at code + memory < 2 ^ 63

pub record Shape (bytes code file : List ℕ) (memory : ℕ) : Type 0 where
  pub sizes : SizesFit (length code) (length file) memory
  pub bytes_are : bytes ≡ file_bytes code file memory

abbrev pub NoShape : List ℕ → Type 0
NoShape bytes = (code file : List ℕ) (memory : ℕ) → Shape bytes code file memory → ⊥
