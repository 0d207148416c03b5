-- Bytes are the file of one code, one list of data bytes and one memory size.
use Rattle.std.proofs.Common.{◌≡◌, ℕ, ◌+◌, List, ◌++◌, length, take, drop, refl, sym, ap, ◌∙◌}
use Rattle.std.proofs.lemmas.List.{drop-drop}
use Rattle.elf_file.specs.Shape.{zeros, gap, data_offset, header, Shape}
use Rattle.elf_file.proofs.Shapes.{forced, before, behind, length-header, length-zeros}

-- the parts of a file by their places
pub record Parted (bytes code file : List ℕ) : Type 0 where
  pub code_is : code ≡ take (length code) (drop 4096 bytes)
  pub file_is : file ≡ drop (data_offset (length code)) bytes

pub parted : (bytes code file : List ℕ) (memory : ℕ) → Shape bytes code file memory → Parted bytes code file
parted bytes code file memory h =
    let c = length code in
    let g = gap c in
    let text = code ++ (zeros g ++ file) in
    let d1 : drop 176 bytes ≡ zeros 3920 ++ text = behind 176 (header c (length file) memory) (zeros 3920 ++ text) bytes (length-header c (length file) memory) h.bytes_are in
    let d2 : drop 4096 bytes ≡ text = sym (drop-drop 3920 176 bytes) ∙ behind 3920 (zeros 3920) text (drop 176 bytes) (length-zeros 3920) d1 in
    let d3 : drop (4096 + c) bytes ≡ zeros g ++ file = sym (drop-drop c 4096 bytes) ∙ behind c code (zeros g ++ file) (drop 4096 bytes) refl d2 in
    record {
      code_is = sym (before c code (zeros g ++ file) (drop 4096 bytes) refl d2);
      file_is = sym (sym (drop-drop g (4096 + c) bytes) ∙ behind g (zeros g) file (drop (4096 + c) bytes) (length-zeros g) d3);
    }

pub record SameParts (code file : List ℕ) (memory : ℕ) (code' file' : List ℕ) (memory' : ℕ) : Type 0 where
  pub same_code : code ≡ code'
  pub same_file : file ≡ file'
  pub same_memory : memory ≡ memory'

pub shape_unique : (bytes code file : List ℕ) (memory : ℕ) (code' file' : List ℕ) (memory' : ℕ) → Shape bytes code file memory → Shape bytes code' file' memory' → SameParts code file memory code' file' memory'
shape_unique bytes code file memory code' file' memory' h h' =
    let w = forced bytes code file memory h in
    let w' = forced bytes code' file' memory' h' in
    let p = parted bytes code file memory h in
    let p' = parted bytes code' file' memory' h' in
    let c : length code ≡ length code' = sym w.code_read ∙ w'.code_read in
    record {
      same_code = p.code_is ∙ ap (λ n. take n (drop 4096 bytes)) c ∙ sym p'.code_is;
      same_file = p.file_is ∙ ap (λ n. drop (data_offset n) bytes) c ∙ sym p'.file_is;
      same_memory = sym w.memory_read ∙ w'.memory_read;
    }
