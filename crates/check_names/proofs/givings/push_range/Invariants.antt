use Rattle.std.proofs.Common.{◌≡◌, ◌++◌, ◌-◌, map}
use Rattle.std.specs.List.{range_with_len}
use Rattle.check_names.specs.Givings.{gives_letter, in_range}
use Rattle.check_names.proofs.givings.push_range.Given as goal

-- the letters that are still to come
abbrev pub invariant-loop-letter : goal.invariant-loop-letter
invariant-loop-letter l = l.found ++ map gives_letter (range_with_len l.letter (l.end - l.letter)) ≡ l.initial.found ++ in_range l.range
