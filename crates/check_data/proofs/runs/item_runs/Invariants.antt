use Rattle.std.proofs.Common.{◌≡◌, ◌++◌, drop}
use Rattle.check_data.specs.Counting as t
use Rattle.check_data.proofs.runs.item_runs.Given as goal

-- the runs so far, with those still to come
abbrev pub invariant-loop-item : goal.invariant-loop-item
invariant-loop-item l = record {
  runs : l.runs ++ (t.counted_items l.facts l.measures (drop l.item-index l.item-items)).runs ≡ (t.counted_items l.facts l.measures l.item-items).runs;
  all : (t.counted_items l.facts l.measures (drop l.item-index l.item-items)).all ≡ (t.counted_items l.facts l.measures l.item-items).all;
}
