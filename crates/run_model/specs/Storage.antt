-- Storage (ANSI X3.9-1978, section 17): cells at locations. A cell without a value is undefined.
use Rattle.std.specs.Prelude.{ℕ, List, Option, Some, Bool, false, cond, ◌&&◌, nat_eq, ℤ}
use Rattle.std.specs.Cmp.Lexicographic.{pointwise}

-- a name by its bytes
abbrev pub Name : Type 0
Name = List ℕ

abbrev pub name_eq : Name → Name → Bool
name_eq = pointwise nat_eq

pub data Value : Type 0 where
  Integer : ℤ → Value
  Logical : Bool → Value

-- A COMMON block, the local area of a unit, or the cell that an actual argument without a location gets at a site.
pub data Area : Type 0 where
  Block : Name → Area
  Local : (unit : Name) → Area
  Fresh : (unit : Name) (site position : ℕ) → Area

-- an area, and how many storage units lie before the location there
pub record Loc : Type 0 where
  pub area : Area
  pub offset : ℕ

-- consecutive locations of an area
pub record Interval : Type 0 where
  pub area : Area
  pub from : ℕ
  pub length : ℕ

abbrev pub area_eq : Area → Area → Bool
area_eq (Block a) (Block b) = name_eq a b
area_eq (Local a) (Local b) = name_eq a b
area_eq (Fresh a i j) (Fresh b m n) = name_eq a b && (nat_eq i m && nat_eq j n)
area_eq _ _ = false

abbrev pub loc_eq : Loc → Loc → Bool
loc_eq l m = area_eq l.area m.area && nat_eq l.offset m.offset

abbrev pub Cells : Type 0
Cells = Loc → Option Value

-- the cells with this value at a location
abbrev pub put_cell : Loc → Value → Cells → Cells
put_cell l v cells m = cond (loc_eq l m) (Some v) (cells m)
