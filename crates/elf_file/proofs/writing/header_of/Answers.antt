use Rattle.std.proofs.Common.{ℕ, ◌+◌, List, ◌++◌, ap, ◌∙◌, append_assoc}
use Rattle.elf_file.specs.Shape.{file_header, program_header, header}
use Rattle.elf_file.proofs.writing.header_of.Goals as goal

pub returns : goal.returns
unfolding header
returns c =
    let code = c.args.code in
    let text = program_header (record { flags = 5; offset = 4096; address = 65536; file = code; memory = code }) in
    let rows : ℕ → ℕ → List ℕ = λ g a. program_header (record { flags = 6; offset = 4096 + code + g; address = a; file = c.args.file; memory = c.args.memory }) in
    let g = c.gap_of.result in
    let a = c.data_address.result in
    let e1 = c.in_ok-push_program_header.ensures {u = tt} ∙ ap (λ (xs : List ℕ). xs ++ text) c.in_ok-bytes.ensures.items in
    c.in_ok-push_program_header-2.ensures {u = tt} ∙ ap (λ (xs : List ℕ). xs ++ rows g a) e1
    ∙ append_assoc file_header text (rows g a)
    ∙ (λ i. file_header ++ (text ++ rows (c.gap_of.ensures i) (c.data_address.ensures.address i)))
