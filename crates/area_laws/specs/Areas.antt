-- The areas of a program and their sizes (ANSI X3.9-1978, sections 8.3 and 17.1): the local area of each unit, each COMMON block at its
-- largest, and a storage unit for each actual that a site may pass.
use Rattle.std.specs.Prelude.{◌≡◌, ℕ, zero, suc, ◌+◌, ◌<◌, ◌≤◌, Option, Some, None, List, ◌++◌, map, flat_map, length, slice_get, if◌then◌else◌, nat_lt}
use Rattle.std.specs.List.{find, range_with_len}
use Rattle.run_model.specs.Storage.{Area, Block, Local, Fresh, Loc, Interval}
use Rattle.f77_tree.specs.declared.unit.Unit.{Unit as SourceUnit}
use Rattle.f77_values.specs.Tables.{Name, name_eq, distinct}
use Rattle.f77_store.specs.Layouts.{local_size}
use Rattle.f77_semantics.specs.Program.{Terms, End, ◌and◌}
use Rattle.prog_check.specs.Limits.{all_blocks, largest}
use Rattle.sound_units.specs.Sites.{site_at}
use Rattle.sound_units.specs.Units.{passed, actuals_at}

abbrev pub unit_named : List SourceUnit → Name → Option SourceUnit
unit_named units name = find (λ u. name_eq u.name name) units

abbrev pub count : Terms → ℕ
count End = 0
count (e and es) = suc (count es)

-- How many actuals a site passes. Site 0, which is none, has the cell of a dummy without an actual.
abbrev pub passes : SourceUnit → ℕ → ℕ
passes u zero = 1
passes u (suc s) = count (actuals_at (site_at (passed u) (suc s)))

abbrev pub local_units : Option SourceUnit → ℕ
local_units None = 0
local_units (Some u) = local_size u

abbrev pub fresh_units : Option SourceUnit → (site position : ℕ) → ℕ
fresh_units None s j = 0
fresh_units (Some u) s j = if nat_lt j (passes u s) then 1 else 0

-- the number of storage units of an area
abbrev pub area_size : List SourceUnit → Area → ℕ
area_size units (Block b) = largest (all_blocks units) b
area_size units (Local v) = local_units (unit_named units v)
area_size units (Fresh v s j) = fresh_units (unit_named units v) s j

-- a location before the end of its area
abbrev pub InArea : List SourceUnit → Loc → Type 0
InArea units l = l.offset < area_size units l.area

-- an interval that ends by the end of its area, and has a location
pub record Inside (units : List SourceUnit) (i : Interval) : Type 0 where
  pub some : 1 ≤ i.length
  pub ends : i.from + i.length ≤ area_size units i.area

-- ---- all locations

-- so many locations of an area
abbrev pub stretch : Area → ℕ → List Loc
stretch area n = map (λ o. record { area = area; offset = o }) (range_with_len 0 n)

abbrev pub fresh_locations : SourceUnit → (site position : ℕ) → List Loc
fresh_locations u s j = stretch (Fresh u.name s j) 1

-- those of the actuals that a site passes
abbrev pub site_locations : SourceUnit → ℕ → List Loc
site_locations u s = flat_map (fresh_locations u s) (range_with_len 0 (passes u s))

abbrev pub unit_locations : SourceUnit → List Loc
unit_locations u = stretch (Local u.name) (local_size u) ++ flat_map (site_locations u) (range_with_len 0 (suc (length (passed u))))

abbrev pub block_locations : List SourceUnit → Name → List Loc
block_locations units b = stretch (Block b) (largest (all_blocks units) b)

-- the locations of a program
abbrev pub locations : List SourceUnit → List Loc
locations units = flat_map unit_locations units ++ flat_map (block_locations units) (distinct (map (λ b. b.0) (all_blocks units)))

-- one of a list
pub record OneOf {A : Type 0} (all : List A) (x : A) : Type 0 where
  pub at : ℕ
  pub is : slice_get all at ≡ Some x
