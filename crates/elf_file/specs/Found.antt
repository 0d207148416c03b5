-- The parts that were found in a file.
use Rattle.std.specs.Prelude.{◌≡◌, ℕ, ◌+◌, ◌≤◌, ◌<◌, ◌^◌, List, take, drop, length}
use Rattle.elf_file.specs.declared.finding.Parts.{Parts}
use Rattle.elf_file.specs.Shape.{Shape, data_offset, data_at}

abbrev pub code_part : List ℕ → Parts → List ℕ
code_part bytes p = take p.code (drop 4096 bytes)

abbrev pub file_part : List ℕ → Parts → List ℕ
file_part bytes p = drop (data_offset p.code) bytes

abbrev pub Found : List ℕ → Parts → Type 0
Found bytes p = Shape bytes (code_part bytes p) (file_part bytes p) p.memory

-- the same sizes as numbers
pub record Placed (bytes : List ℕ) (p : Parts) : Type 0 where
  pub total : length bytes ≡ data_offset p.code + p.file
  pub within : p.file ≤ p.memory
  pub below : data_at p.code + p.memory < 2 ^ 63
