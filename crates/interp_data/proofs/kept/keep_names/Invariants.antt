use Rattle.std.proofs.Common.{◌≡◌, drop, fold}
use Rattle.f77_values.specs.Tables.{with_name}
use Rattle.interp_data.proofs.kept.keep_names.Given as goal

abbrev pub invariant-loop-name : goal.invariant-loop-name
invariant-loop-name l = fold with_name l.found (drop l.name-index l.name-items) ≡ fold with_name l.initial.found l.name-items
