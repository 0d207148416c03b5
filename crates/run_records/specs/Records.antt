-- Where a unit's own items stand in an activation, what a record tells of it, when a world stands in for another at a call, and what an
-- entry is.
use Rattle.std.specs.Prelude.{◌≡◌, ℕ, Option, Some, Bool, true, ◌⊎◌}
use Rattle.run_model.specs.Storage.{Value, Loc, Interval}
use Rattle.run_model.specs.Acts.{World}
use Rattle.f77_tree.specs.declared.unit.Item.{Item}
use Rattle.f77_semantics.specs.Effects.{Covers}

-- The own items of a unit, and the intervals that they cover in an activation. A dummy without an actual covers none.
pub record Association : Type 0 where
  pub own : Item → Bool
  pub interval : Item → Option Interval

-- For each site, the items that its call may change, and those that it may read; the pairs of items that may share a location; the items
-- that have a value at each entry.
pub record Record : Type 0 where
  pub may_mod : (site : ℕ) → Item → Bool
  pub may_ref : (site : ℕ) → Item → Bool
  pub paired : Item → Item → Bool
  pub constant : Item → Option Value

-- An own item covers the location.
pub record IsOwn (place : Association) (x : Item) (l : Loc) : Type 0 where
  pub own : place.own x ≡ true
  pub interval : Interval
  pub stands : place.interval x ≡ Some interval
  pub covers : Covers interval l

-- Each own item that covers the location is in the set. So it is of a location that no own item covers.
abbrev pub IsWithin : Association → (Item → Bool) → Loc → Type 0
IsWithin place set l = (x : Item) → IsOwn place x l → set x ≡ true

-- what a call at a site may change, and what is read through there
abbrev pub IsChanged : Record → Association → ℕ → Loc → Type 0
IsChanged r place s = IsWithin place (r.may_mod s)

abbrev pub IsReadThrough : Record → Association → ℕ → Loc → Type 0
IsReadThrough r place s = IsWithin place (r.may_ref s)

-- The second world can stand in for the first at a call: the two differ at most in what isn't read through.
pub record StandsIn (r : Record) (place : Association) (s : ℕ) (w v : World) : Type 0 where
  pub out : w.out ≡ v.out
  pub input : w.input ≡ v.input
  pub left : w.left ≡ v.left
  pub cells : (l : Loc) → IsReadThrough r place s l → w.cells l ≡ v.cells l

pub record Stands (place : Association) (x : Item) : Type 0 where
  pub interval : Interval
  pub is : place.interval x ≡ Some interval

-- Each own item stands somewhere, two of them share a location only where they are paired, and where an item has a value no other stands in
-- its cell.
pub record IsEntry (r : Record) (place : Association) (w : World) : Type 0 where
  pub associated : (x : Item) → place.own x ≡ true → Stands place x
  pub apart : (x y : Item) (l : Loc) → IsOwn place x l → IsOwn place y l → (x ≡ y) ⊎ (r.paired x y ≡ true)
  pub constants : (x : Item) (c : Value) → r.constant x ≡ Some c → (l : Loc) → IsOwn place x l → (d : Value) → w.cells l ≡ Some d → d ≡ c
