use Rattle.std.proofs.Common.{ℕ, List, ◌++◌, ap, ◌∙◌, append_assoc}
use Rattle.elf_file.specs.Numbers.{le}
use Rattle.elf_file.specs.Shape.{program_header}
use Rattle.elf_file.proofs.writing.push_program_header.Goals as goal

pub returns : goal.returns
unfolding program_header
returns c =
    let s = c.args.segment in
    let e1 = c.in_ok-push_le.ensures {u = tt} in
    let e2 = c.in_ok-push_le-2.ensures {u = tt} ∙ ap (λ (xs : List ℕ). xs ++ le 4 s.flags) e1 in
    let e3 = c.in_ok-push_le-3.ensures {u = tt} ∙ ap (λ (xs : List ℕ). xs ++ le 8 s.offset) e2 in
    let e4 = c.in_ok-push_le-4.ensures {u = tt} ∙ ap (λ (xs : List ℕ). xs ++ le 8 s.address) e3 in
    let e5 = c.in_ok-push_le-5.ensures {u = tt} ∙ ap (λ (xs : List ℕ). xs ++ le 8 s.address) e4 in
    let e6 = c.in_ok-push_le-6.ensures {u = tt} ∙ ap (λ (xs : List ℕ). xs ++ le 8 s.file) e5 in
    let e7 = c.in_ok-push_le-7.ensures {u = tt} ∙ ap (λ (xs : List ℕ). xs ++ le 8 s.memory) e6 in
    c.in_ok-push_le-8.ensures {u = tt} ∙ ap (λ (xs : List ℕ). xs ++ le 8 4096) e7 ∙ simp append_assoc
