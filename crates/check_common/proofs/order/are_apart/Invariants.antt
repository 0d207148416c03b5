use Rattle.std.proofs.Common.{◌≡◌, ◌-◌, drop}
use Rattle.check_common.specs.Searching.{all_apart}
use Rattle.check_common.proofs.order.are_apart.Given as goal

-- Up to the run before this one each stands before the next.
abbrev pub invariant-loop-k : goal.invariant-loop-k
invariant-loop-k l = all_apart (drop (l.k - 1) l.all) ≡ all_apart l.all
