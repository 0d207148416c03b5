-- Where the members of COMMON blocks begin (ANSI X3.9-1978, section 8.3). The units of a block are counted from 0, in the order of its
-- members, and each place is an exact number, however large the block is. That an array of 4,294,967,295 units or more counts as one of
-- so many is seen in no program: such an array is a fault of its own unit.
use Rattle.std.specs.Prelude.{◌≡◌, ℕ, List, [], ◌∷◌, ◌++◌}
use Rattle.f77_store.specs.declared.areas.Member.{Member}
use Rattle.f77_store.specs.Areas.{total, so_far}
use Rattle.f77_values.specs.Tables.{Name, Told, told}
use Rattle.check_common.specs.declared.places.Start.{Start}

abbrev pub start_at : Member → ℕ → Name × Start
start_at m from = (m.name, record { block = m.block; from = from })

-- Each member begins behind those of its block that stand before it.
abbrev pub started : (Name → ℕ) → List Member → List Member → List (Name × Start)
started size before [] = []
started size before (m ∷ others) = start_at m (total size m.block before) ∷ started size (before ++ m ∷ []) others

abbrev pub starts : (Name → ℕ) → List Member → Told Start
starts size members = told (started size [] members)

-- The table has the total of each block.
abbrev pub AreExact : (Name → ℕ) → List Member → Told ℕ → Type 0
AreExact size members totals = (block : Name) → so_far totals block ≡ total size block members
