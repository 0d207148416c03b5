use Rattle.std.proofs.Common.{◌≡◌, ◌+◌, ◌-◌, length, take, drop, true, false, arith, ap, ◌∙◌, sym}
use Rattle.std.specs.Prelude.{nat_eq}
use Rattle.std.specs.List.{list_all}
use Rattle.std.proofs.lemmas.List.{length-take-le, length-drop}
use Rattle.elf_file.specs.Shape.{header, gap, zeros, data_offset, SizesFit}
use Rattle.elf_file.proofs.Shapes.{forced, found, zeros-all, all-zeros}
use Rattle.elf_file.proofs.finding.find_parts.Goals as goal

pub slice_bounds-is_same-end : goal.slice_bounds-is_same-end
slice_bounds-is_same-end c =
    let l : length (take 176 c.args.elf.now) ≡ 176 = length-take-le 176 c.args.elf.now (omega arith) in
    omega arith

pub returns-then-elf-lt-PAGE-clause-none : goal.returns-then-elf-lt-PAGE-clause-none
returns-then-elf-lt-PAGE-clause-none c = λ code file memory h.
    let w = forced c.args.elf.now code file memory h in
    let t = w.total in
    absurd (omega arith)

pub returns-then-not-are_sound-clause-none : goal.returns-then-not-are_sound-clause-none
returns-then-not-are_sound-clause-none c = λ code file memory h.
    let w = forced c.args.elf.now code file memory h in
    let ec = c.read_le-code.ensures.value ∙ w.code_read in
    let ef = c.read_le-file.ensures.value ∙ w.file_read in
    let em = c.read_le-memory.ensures.value ∙ w.memory_read in
    let s : SizesFit c.read_le-code.result c.read_le-file.result c.read_le-memory.result = rw (ec, ef, em) w.sizes in
    let x : false ≡ true = sym c.if-not-are_sound.true ∙ c.are_sound.ensures.1 s in
    absurd (cc)

pub returns-then-elf-second-clause-none : goal.returns-then-elf-second-clause-none
returns-then-elf-second-clause-none c = λ code file memory h.
    let w = forced c.args.elf.now code file memory h in
    let ec = c.read_le-code.ensures.value ∙ w.code_read in
    let ef = c.read_le-file.ensures.value ∙ w.file_read in
    absurd (c.if-elf-second.true (w.total ∙ omega (arith, ec, ef, c.gap_of.ensures)))

pub returns-then-not-is_same-clause-none : goal.returns-then-not-is_same-clause-none
returns-then-not-is_same-clause-none c = λ code file memory h.
    let w = forced c.args.elf.now code file memory h in
    let ec = c.read_le-code.ensures.value ∙ w.code_read in
    let ef = c.read_le-file.ensures.value ∙ w.file_read in
    let em = c.read_le-memory.ensures.value ∙ w.memory_read in
    let same : take 176 c.args.elf.now ≡ c.as_slice.result.now = w.head ∙ (λ i. header (sym ec i) (sym ef i) (sym em i)) ∙ sym c.in_ok-expected.ensures ∙ sym c.as_slice.ensures.value in
    absurd (c.is_same.ensures.no c.if-not-is_same.true same)

pub returns-then-not-is_zero-clause-none : goal.returns-then-not-is_zero-clause-none
returns-then-not-is_zero-clause-none c = λ code file memory h.
    let w = forced c.args.elf.now code file memory h in
    let z = ap (list_all (λ b. nat_eq b 0)) w.start ∙ zeros-all 3920 in
    let x : false ≡ true = sym c.if-not-is_zero.true ∙ c.is_zero.ensures ∙ z in
    absurd (cc)

pub returns-then-not-is_zero-2-clause-none : goal.returns-then-not-is_zero-2-clause-none
returns-then-not-is_zero-2-clause-none c = λ code file memory h.
    let w = forced c.args.elf.now code file memory h in
    let ec = c.read_le-code.ensures.value ∙ w.code_read in
    let n : 4096 + c.read_le-code.result + c.gap_of.result - (4096 + c.read_le-code.result) ≡ gap c.read_le-code.result = omega (arith, c.gap_of.ensures) in
    let z = ap (λ k. list_all (λ b. nat_eq b 0) (take k (drop (4096 + c.read_le-code.result) c.args.elf.now))) n
    ∙ (λ i. list_all (λ b. nat_eq b 0) (take (gap (ec i)) (drop (4096 + ec i) c.args.elf.now)))
    ∙ ap (list_all (λ b. nat_eq b 0)) w.between ∙ zeros-all (gap (length code)) in
    let x : false ≡ true = sym c.if-not-is_zero-2.true ∙ c.is_zero-2.ensures ∙ z in
    absurd (cc)

pub returns-clause-some : goal.returns-clause-some
returns-clause-some c =
    let e = c.args.elf.now in
    let n = c.read_le-code.result in
    let s : SizesFit n c.read_le-file.result c.read_le-memory.result = c.are_sound.ensures.0 c.if-not-are_sound.false in
    let t : length e ≡ data_offset n + c.read_le-file.result = c.if-elf-second.false ∙ omega (arith, c.gap_of.ensures) in
    let head : take 176 e ≡ header n c.read_le-file.result c.read_le-memory.result = c.is_same.ensures.yes c.if-not-is_same.false ∙ c.as_slice.ensures.value ∙ c.in_ok-expected.ensures in
    let z0 : list_all (λ b. nat_eq b 0) (take 3920 (drop 176 e)) ≡ true = sym c.is_zero.ensures ∙ c.if-not-is_zero.false in
    let l0 : length (take 3920 (drop 176 e)) ≡ 3920 = length-take-le 3920 (drop 176 e) (omega (arith, length-drop 176 e)) in
    let k : 4096 + n + c.gap_of.result - (4096 + n) ≡ gap n = omega (arith, c.gap_of.ensures) in
    let z : list_all (λ b. nat_eq b 0) (take (gap n) (drop (4096 + n) e)) ≡ true = ap (λ k. list_all (λ b. nat_eq b 0) (take k (drop (4096 + n) e))) (sym k) ∙ sym c.is_zero-2.ensures ∙ c.if-not-is_zero-2.false in
    let l : length (take (gap n) (drop (4096 + n) e)) ≡ gap n = length-take-le (gap n) (drop (4096 + n) e) (omega (arith, length-drop (4096 + n) e)) in
    found e n c.read_le-file.result c.read_le-memory.result s t head (all-zeros (take 3920 (drop 176 e)) z0 ∙ ap zeros l0) (all-zeros (take (gap n) (drop (4096 + n) e)) z ∙ ap zeros l)
