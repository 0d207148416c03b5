use Rattle.std.proofs.Common.{◌≡◌, ◌||◌, drop, fold}
use Rattle.check_names.specs.Tables.{noted, conflict_with}
use Rattle.check_names.proofs.conflicts.note_all.Given as goal

-- what is still to be given makes of the table, and of the answer so far, what is wanted
abbrev pub invariant-loop-giving : goal.invariant-loop-giving
invariant-loop-giving l = record {
  table : fold noted l.table (drop l.giving-index l.giving-items) ≡ fold noted l.initial.table l.giving-items;
  conflict : (l.conflict || conflict_with l.table (drop l.giving-index l.giving-items)) ≡ conflict_with l.initial.table l.giving-items;
}
