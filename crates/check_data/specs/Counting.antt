-- Counts that stand still at a number which the constants of no list reach: what is more differs from them as it does.
use Rattle.std.specs.Prelude.{ℕ, min, option_map, List, [], ◌∷◌, map}
use Rattle.f77_tree.specs.declared.expr.Expr.{Expr, out-Expr}
use Rattle.f77_names.specs.declared.facts.Facts.{Facts}
use Rattle.f77_values.specs.Tables.{Told}
use Rattle.check_data.specs.declared.measures.Measured.{Measured}
use Rattle.check_data.specs.declared.runs.Run.{Run}
use Rattle.check_data.specs.declared.runs.Runs.{Runs}
use Rattle.check_data.specs.DataRuns.{none, added, item_count, item_type}

-- the greatest number of 128 bits
abbrev pub most_counted : ℕ
most_counted = 340282366920938463463374607431768211455

abbrev pub counted : ℕ → ℕ
counted n = min n most_counted

abbrev pub counted_run : Run → Run
counted_run run = record { count = counted run.count; ty = run.ty }

abbrev pub counted_runs : Runs → Runs
counted_runs all = record { runs = map counted_run all.runs; all = all.all }

-- the runs of items with such counts
abbrev pub counted_items : Facts → Told Measured → List Expr → Runs
counted_items f measures [] = none
counted_items f measures (e ∷ es) = added (option_map counted (item_count measures (out-Expr e))) (item_type f (out-Expr e)) (counted_items f measures es)
