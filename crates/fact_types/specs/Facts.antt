-- Facts of a program cut to a unit's own items, and when a record still holds of new facts.
use Rattle.std.specs.Prelude.{◌≡◌, ℕ, IsTrue, List, map, Some, None, if◌then◌else◌, ◌⊎◌}
use Rattle.std.specs.List.{AllZip}
use Rattle.f77_tree.specs.declared.unit.Item.{Item}
use Rattle.f77_tree.specs.declared.unit.Value.{Value}
use Rattle.iv_set.specs.declared.bound.Bound.{Bound}
use Rattle.iv_set.specs.Toggles.{both}
use Rattle.iv_set.specs.Sets.{has_item}
use Rattle.item_maps.specs.Steps.{get}
use Rattle.item_maps.specs.Relation.{paired}
use Rattle.fact_types.specs.declared.facts.SiteFacts.{SiteFacts}
use Rattle.fact_types.specs.declared.facts.Facts.{Facts}

-- ---- cutting

-- a set cut to own items: those own items that are members, or that a pair joins to a member; pairing comes before
-- cutting, and is done once
pub record IsCut (aliases : List (ℕ × List Bound)) (own set cut : List Bound) : Type 0 where
  pub own_alone : (i : Item) → IsTrue (has_item cut i) → IsTrue (has_item own i)
  pub kept : (i : Item) → IsTrue (has_item own i) → IsTrue (has_item set i) → IsTrue (has_item cut i)
  pub joined : (i j : Item) → IsTrue (has_item own i) → IsTrue (has_item set j) → IsTrue (paired aliases j i) → IsTrue (has_item cut i)
  pub only : (i : Item) → IsTrue (has_item cut i) → IsTrue (has_item set i) ⊎ ((j : Item) × IsTrue (has_item set j) × IsTrue (paired aliases j i))

pub record IsSiteCut (aliases : List (ℕ × List Bound)) (own : List Bound) (whole cut : SiteFacts) : Type 0 where
  pub callee : cut.callee ≡ whole.callee
  pub may_mod : IsCut aliases own whole.may_mod cut.may_mod
  pub may_ref : IsCut aliases own whole.may_ref cut.may_ref

-- the facts of a unit: its sites cut, the pairs of own items, whether it is entered, and the constants of the own items
-- that it uses
pub record IsFactsOf (whole : Facts) (own used : List Bound) (facts : Facts) : Type 0 where
  pub entered : facts.entered ≡ whole.entered
  pub sites : AllZip (IsSiteCut whole.aliases own) whole.sites facts.sites
  pub aliases : (x y : Item) → paired facts.aliases x y ≡ both (paired whole.aliases x y) (both (has_item own x) (has_item own y))
  pub constants : (i : Item) → get facts.constants i ≡ (if both (has_item own i) (has_item used i) then get whole.constants i else None)

-- ---- a record and new facts

abbrev pub Inside : List Bound → List Bound → Type 0
Inside set other = (i : Item) → IsTrue (has_item set i) → IsTrue (has_item other i)

pub record IsSiteInside (now kept : SiteFacts) : Type 0 where
  pub may_mod : Inside now.may_mod kept.may_mod
  pub may_ref : Inside now.may_ref kept.may_ref

-- the record still holds: the sets and pairs of the new facts lie in those of the record, and each constant of the
-- record is the same in the new facts, or the unit isn't entered any more
pub record IsSatisfied (kept now : Facts) : Type 0 where
  pub sites : AllZip IsSiteInside now.sites kept.sites
  pub aliases : (x y : Item) → IsTrue (paired now.aliases x y) → IsTrue (paired kept.aliases x y)
  pub constants : IsTrue now.entered → (i : Item) (v : Value) → get kept.constants i ≡ Some v → get now.constants i ≡ Some v

abbrev pub callees : List SiteFacts → List (List ℕ)
callees sites = map (λ s. s.callee) sites

-- both have the same callees in the same order
abbrev pub SameCallees : Facts → Facts → Type 0
SameCallees kept now = callees kept.sites ≡ callees now.sites
