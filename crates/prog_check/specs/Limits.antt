-- The limits of a program. Its storage is each COMMON block at its largest, and the local area of each unit (ANSI X3.9-1978, sections 8.3 and 17.1).
use Rattle.std.specs.Prelude.{◌≡◌, ℕ, ◌+◌, ◌<◌, ◌≤◌, suc, max, List, [], Some, None, take, map, flat_map, fold, sum_by, length, if◌then◌else◌}
use Rattle.f77_tree.specs.declared.unit.Unit.{Unit}
use Rattle.f77_tree.specs.Weight.{unit_weight}
use Rattle.f77_values.specs.Tables.{Name, name_eq, distinct}
use Rattle.f77_store.specs.Layouts.{blocks, local_size}
use Rattle.call_cycles.specs.declared.marks.ProgramMark.{ProgramMark}
use Rattle.prog_check.specs.declared.limits.Measure.{Measure}
use Rattle.prog_check.specs.declared.limits.Measure.TheVariants.{Tokens, Weight}
use Rattle.call_cycles.specs.Marks.{mark_at}

abbrev pub most_units : ℕ
most_units = 2000

abbrev pub most_tokens : ℕ
most_tokens = 500000

abbrev pub most_weight : ℕ
most_weight = 1048576

abbrev pub most_storage : ℕ
most_storage = 16777216

-- a sum in 64 bits, which stands still at the greatest
abbrev pub most : ℕ
most = 18446744073709551615

-- at the first unit that is too many
pub record HasManyUnits (units : List Unit) (mark : ProgramMark) : Type 0 where
  pub many : most_units < length units
  pub mark_is : mark ≡ mark_at 37 most_units (Some most_units) 1

-- at the unit with which the sum over the units passes its limit
pub record Passes (count : Unit → ℕ) (limit : ℕ) (units : List Unit) (mark : ProgramMark) : Type 0 where
  pub place : ℕ
  pub before : sum_by count (take place units) ≤ limit
  pub behind : limit < sum_by count (take (suc place) units)
  pub mark_is : mark ≡ mark_at 37 limit (Some place) 1

abbrev pub measured : Measure → Unit → ℕ
measured Tokens u = u.tokens
measured Weight u = unit_weight u

abbrev pub limit_of : Measure → ℕ
limit_of Tokens = most_tokens
limit_of Weight = most_weight

-- the blocks of all units, with the sizes that these declare
abbrev pub all_blocks : List Unit → List (Name × ℕ)
all_blocks units = flat_map blocks units

abbrev pub larger : Name → ℕ → Name × ℕ → ℕ
larger name size block = if name_eq block.0 name then max size block.1 else size

abbrev pub largest : List (Name × ℕ) → Name → ℕ
largest all name = fold (larger name) 0 all

abbrev pub common_storage : List (Name × ℕ) → ℕ
common_storage all = sum_by (largest all) (distinct (map (λ b. b.0) all))

abbrev pub storage : List Unit → ℕ
storage units = sum_by local_size units + common_storage (all_blocks units)

pub record HasMuchStorage (units : List Unit) (mark : ProgramMark) : Type 0 where
  pub much : most_storage < storage units
  pub mark_is : mark ≡ mark_at 37 most_storage None 0
