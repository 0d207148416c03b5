use Rattle.std.proofs.Common.{◌≡◌, ◌++◌, List, take, drop, ◌||◌}
use Rattle.check_data.specs.DataTwice as t
use Rattle.check_data.specs.Seen as s
use Rattle.check_data.proofs.given.meet_all.Given as goal

-- whatever was given before, the tables tell of it and of those so far
abbrev pub invariant-loop-g : goal.invariant-loop-g
invariant-loop-g l = record {
  twice : (before : List t.Item) → s.Tells l.initial.seen before → (l.twice || t.given_twice (before ++ take l.g-index l.g-items) (drop l.g-index l.g-items)) ≡ t.given_twice before l.g-items;
  tells : (before : List t.Item) → s.Tells l.initial.seen before → s.Tells l.seen (before ++ take l.g-index l.g-items);
}
