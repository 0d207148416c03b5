-- Areas of storage (ANSI X3.9-1978, sections 8.3 and 17.1): the units of each area follow each other in the order of its members.
use Rattle.std.specs.Prelude.{◌≡◌, ℕ, List, [], ◌∷◌, ◌++◌, Option, Some, None, if◌then◌else◌, map, flat_map, sum_by, unwrap_or}
use Rattle.f77_names.specs.declared.declarations.Declaration.{Declaration}
use Rattle.f77_names.specs.declared.declarations.Shape.{Shape}
use Rattle.f77_store.specs.declared.areas.Member.{Member}
use Rattle.f77_store.specs.declared.areas.Place.{Place}
use Rattle.f77_values.specs.Tables.{Name, name_eq, what, Told, told, distinct, saturated}

-- A scalar takes one storage unit, an array one for each element. Bounds that aren't constant give none.
abbrev pub units_of : Option Shape → ℕ
units_of None = 1
units_of (Some shape) = unwrap_or shape.size 0

abbrev pub size_of : Told Shape → Name → ℕ
size_of shapes name = units_of (what shapes name)

abbrev pub units_in : (Name → ℕ) → Name → Member → ℕ
units_in size block m = if name_eq m.block block then size m.name else 0

-- the storage units of a block's members
abbrev pub total : (Name → ℕ) → Name → List Member → ℕ
total size block members = sum_by (units_in size block) members

abbrev pub place_at : Member → ℕ → Name × Place
place_at m from = (m.name, record { block = m.block; from = from })

-- Each member begins behind those of its block that stand before it.
abbrev pub placed : (Name → ℕ) → List Member → List Member → List (Name × Place)
placed size before [] = []
placed size before (m ∷ others) = place_at m (saturated (total size m.block before)) ∷ placed size (before ++ m ∷ []) others

abbrev pub places : (Name → ℕ) → List Member → Told Place
places size members = told (placed size [] members)

-- what a table of totals has for a block
abbrev pub so_far : Told ℕ → Name → ℕ
so_far totals block = unwrap_or (what totals block) 0

-- The table has the total of each block.
abbrev pub AreTotals : (Name → ℕ) → List Member → Told ℕ → Type 0
AreTotals size members totals = (block : Name) → so_far totals block ≡ saturated (total size block members)

abbrev pub counted : Told ℕ → Name → Name × ℕ
counted totals block = (block, so_far totals block)

-- the members of COMMON blocks, in the order of the unit's COMMON statements
abbrev pub member_in : Option Name → Name → List Member
member_in None name = []
member_in (Some block) name = record { block = block; name = name } ∷ []

abbrev pub member : Declaration → List Member
member d = member_in d.block d.name

abbrev pub commons : List Declaration → List Member
commons all = flat_map member all

abbrev pub sized : (Name → ℕ) → List Member → Name → Name × ℕ
sized size members block = (block, saturated (total size block members))

-- the blocks in the order of first appearance, with their sizes
abbrev pub blocks : (Name → ℕ) → List Member → List (Name × ℕ)
blocks size members = map (sized size members) (distinct (map (λ m. m.block) members))
