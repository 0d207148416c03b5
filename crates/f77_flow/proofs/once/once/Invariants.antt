use Rattle.std.proofs.Common.{◌≡◌, [], length, take}
use Rattle.std.specs.List.{fold}
use Rattle.f77_flow.specs.Next.{add_once}
use Rattle.f77_flow.specs.Adding.{AreMarks}
use Rattle.f77_flow.proofs.once.once.Given as goal

abbrev pub invariant-loop-number : goal.invariant-loop-number
invariant-loop-number l = record {
  long : length l.marks ≡ length l.fn.marks;
  marks : AreMarks l.marks l.stamp l.list;
  list : l.list ≡ fold add_once [] (take l.number-index l.numbers);
}
