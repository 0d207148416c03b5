use Rattle.std.proofs.Common.{◌≡◌, ◌-◌, ◌++◌}
use Rattle.elf_file.specs.Numbers.{le}
use Rattle.elf_file.proofs.numbers.push_le.Given as goal

abbrev pub invariant-loop-k : goal.invariant-loop-k
invariant-loop-k l = l.bytes.items ++ le (l.count - l._k) l.rest ≡ l.initial.bytes.items ++ le l.count l.value
