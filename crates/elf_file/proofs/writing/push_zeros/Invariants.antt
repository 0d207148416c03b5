use Rattle.std.proofs.Common.{◌≡◌, ◌-◌, ◌++◌}
use Rattle.elf_file.specs.Shape.{zeros}
use Rattle.elf_file.proofs.writing.push_zeros.Given as goal

abbrev pub invariant-loop-k : goal.invariant-loop-k
invariant-loop-k l = l.bytes.items ++ zeros (l.count - l._k) ≡ l.initial.bytes.items ++ zeros l.count
