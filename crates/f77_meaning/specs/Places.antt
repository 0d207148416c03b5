-- Where the units of a program stand in their list.
use Rattle.std.specs.Prelude.{ℕ, suc, List, [], ◌∷◌, Option, Some, None, if◌then◌else◌, unwrap_or}
use Rattle.f77_tree.specs.declared.unit.Unit.{Unit as SourceUnit}
use Rattle.f77_values.specs.Tables.{Name, name_eq}

-- the first unit of this name, counted on from k
abbrev pub place_from : ℕ → List SourceUnit → Name → Option ℕ
place_from k [] q = None
place_from k (u ∷ us) q = if name_eq u.name q then Some k else place_from (suc k) us q

-- the first unit of this name, or else the main program
abbrev pub find_of : List SourceUnit → (main : ℕ) → Name → ℕ
find_of units main q = unwrap_or (place_from 0 units q) main

-- the first of two that there is
abbrev pub or_else : Option ℕ → Option ℕ → Option ℕ
or_else None other = other
or_else (Some k) other = Some k
