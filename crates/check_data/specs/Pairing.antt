-- Two lists of runs that are gone through together: what is left of one run of each, and what stands behind it.
use Rattle.std.specs.Prelude.{ℕ, suc, ◌≤◌, length, Bool, ◌&&◌, nat_lt, Option, Some, None, List, ◌++◌, drop, replicate, slice_get}
use Rattle.f77_tree.specs.declared.unit.Ty.{Ty}
use Rattle.check_data.specs.declared.runs.Run.{Run}
use Rattle.check_data.specs.declared.runs.Pairing.{Pairing}
use Rattle.check_data.specs.DataRuns.{types, clash, unlike}

abbrev pub count_in : Option Run → ℕ
count_in None = 0
count_in (Some run) = run.count

abbrev pub type_in : Option Run → Option Ty
type_in None = None
type_in (Some run) = run.ty

abbrev pub count_at : List Run → ℕ → ℕ
count_at runs k = count_in (slice_get runs k)

abbrev pub type_at : List Run → ℕ → Option Ty
type_at runs k = type_in (slice_get runs k)

-- the types from run k on, of which so many are left
abbrev pub left_from : List Run → ℕ → ℕ → List (Option Ty)
left_from runs k left = replicate left (type_at runs k) ++ types (drop (suc k) runs)

abbrev pub unlike_from : Bool → List Run → List Run → Pairing → Bool
unlike_from all items constants p = unlike all (left_from items p.item p.items_left) (left_from constants p.constant p.constants_left)

-- the first two that are left have different types
abbrev pub clashes : List Run → List Run → Pairing → Bool
clashes items constants p = nat_lt 0 p.items_left && (nat_lt 0 p.constants_left && clash (type_at items p.item) (type_at constants p.constant))

-- No more is left than the runs have, and the places are not beyond the ends.
pub record IsWithin (items constants : List Run) (p : Pairing) : Type 0 where
  pub item : p.item ≤ length items
  pub constant : p.constant ≤ length constants
  pub items_left : p.items_left ≤ count_at items p.item
  pub constants_left : p.constants_left ≤ count_at constants p.constant
