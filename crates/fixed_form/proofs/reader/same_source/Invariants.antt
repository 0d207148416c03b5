use Rattle.std.proofs.Common.{◌≡◌, map, take}
use Rattle.fixed_form.specs.Reading.{label_and_text}
use Rattle.fixed_form.proofs.reader.same_source.Given as goal

abbrev pub invariant-loop-i : goal.invariant-loop-i
invariant-loop-i l = map label_and_text (take l.i l.xs) ≡ map label_and_text (take l.i l.ys)
