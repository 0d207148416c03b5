use Rattle.std.proofs.Common.{◌≡◌, ℕ, ◌+◌, ◌-◌, ◌++◌, List, length, take, drop, vec_len, replicate, arith, ap, ◌∙◌, sym}
use Rattle.std.proofs.lemmas.List.{length-take-le, length-drop, take_all}
use Rattle.std.proofs.Math.Seq.{take-length}
use Rattle.elf_file.specs.Shape.{data_at, data_offset, zeros}
use Rattle.elf_file.specs.Found.{code_part, file_part}
use Rattle.rv_machine.specs.declared.outcome.Outcome.TheVariants.{Running}
use Rattle.rv_machine.specs.Kept.{whole}
use Rattle.rv_machine.proofs.Starts.{no_registers}
use Rattle.rv_machine.proofs.loading.build.Goals as goal

pub returns : goal.returns
unfolding zeros
returns c =
    let e = c.args.elf.now in
    let p = c.args.parts in
    let total = c.requires.placed.total in
    let within = c.requires.placed.within in
    let o = data_offset p.code in
    let first : length e - p.file ≡ o = omega arith in
    let lc : length (code_part e p) ≡ p.code = length-take-le p.code (drop 4096 e) (omega (arith, length-drop 4096 e)) in
    let n : 4096 + p.code - 4096 ≡ p.code = omega arith in
    let ci : c.in_ok-code.code.items ≡ code_part e p = c.in_ok-code.ensures.items ∙ ap (λ k. take k (drop 4096 e)) n in
    let cv : vec_len c.in_ok-code.code ≡ length (code_part e p) = c.in_ok-code.ensures.len ∙ ap (λ k. length (take k (drop 4096 e))) n in
    let lf : length (file_part e p) ≡ p.file = length-drop o e ∙ omega arith in
    let left : length e - (length e - p.file) ≡ length (drop (length e - p.file) e) = sym (length-drop (length e - p.file) e) in
    let fi : c.in_ok-memory.memory.items ≡ file_part e p =
    c.in_ok-memory.ensures.items ∙ ap (λ k. take k (drop (length e - p.file) e)) left ∙ take-length (drop (length e - p.file) e) ∙ ap (λ k. drop k e) first in
    let fv : vec_len c.in_ok-memory.memory ≡ length (file_part e p) =
    c.in_ok-memory.ensures.len ∙ ap (λ k. length (take k (drop (length e - p.file) e))) left ∙ ap length (take-length (drop (length e - p.file) e) ∙ ap (λ k. drop k e) first) in
    let lm : length c.in_ok-memory.memory.items ≡ length (file_part e p) = ap length fi in
    let rest : p.memory - vec_len c.in_ok-memory.memory ≡ p.memory - length (file_part e p) = ap (λ k. p.memory - k) fv in
    let mi : c.resize.new.self.items ≡ file_part e p ++ zeros (p.memory - length (file_part e p)) =
    c.in_ok-resize.ensures.items
    ∙ (λ i. take_all p.memory c.in_ok-memory.memory.items (omega (arith, lm, lf, within)) i ++ replicate (rest i) 0)
    ∙ ap (λ (xs : List ℕ). xs ++ replicate (p.memory - length (file_part e p)) 0) fi in
    let at : c.data_address.result ≡ data_at (length (code_part e p)) = c.data_address.ensures.address ∙ ap data_at (sym lc) in
    record {
      code = code_part e p;
      file = file_part e p;
      memory = p.memory;
      shape = c.requires.found;
      stands = λ i. record {
        pc = 65536;
        regs = no_registers c.blank_registers.result c.blank_registers.ensures i;
        mem = whole (ci i) (mi i) (at i);
        code_end = 65536 + cv i;
        data_at = at i;
        data_end = at i + c.in_ok-resize.ensures.len i;
        input = c.args.input.items;
        outcome = Running;
      };
    }
