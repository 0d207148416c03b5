use Rattle.std.proofs.Common.{◌≡◌, ◌+◌, ◌-◌, arith, get_or}
use Rattle.elf_file.specs.Numbers.{read}
use Rattle.elf_file.proofs.Reading.{read-below, read_below_56}
use Rattle.elf_file.proofs.numbers.read_le.Goals as goal

pub overflow_mul-value : goal.overflow_mul-value
overflow_mul-value c =
    let r = read_below_56 (c.args.count - c.loop-k.k) (λ x. get_or c.args.bytes.now x 0) (c.args.at + c.loop-k.k) (omega arith) (λ x. omega (arith, c.type_inv.bytes x)) in
    omega (arith, r, c.loop-k.invariant)

pub overflow_add-value-in-loop-k : goal.overflow_add-value-in-loop-k
overflow_add-value-in-loop-k c =
    let r = read_below_56 (c.args.count - c.loop-k.k) (λ x. get_or c.args.bytes.now x 0) (c.args.at + c.loop-k.k) (omega arith) (λ x. omega (arith, c.type_inv.bytes x)) in
    omega (arith, r, c.loop-k.invariant, c.type_inv.bytes (c.args.at + (c.loop-k.k - 1)))

pub returns-clause-below : goal.returns-clause-below
returns-clause-below c =
    let r = read-below c.args.count (λ x. get_or c.args.bytes.now x 0) c.args.at (λ x. omega (arith, c.type_inv.bytes x)) in
    let k : c.loop-k.k ≡ 0 = omega arith in
    let v : c.loop-k.value ≡ read (c.args.count - 0) (λ x. get_or c.args.bytes.now x 0) (c.args.at + 0) = rw k at c.loop-k.invariant in
    let n : c.args.count - 0 ≡ c.args.count = omega arith in
    let a : c.args.at + 0 ≡ c.args.at = omega arith in
    let w = rw (n, a) at v in
    omega (arith, r, w)
