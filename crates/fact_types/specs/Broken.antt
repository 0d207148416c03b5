-- The first reason why a record doesn't hold of new facts.
use Rattle.std.specs.Prelude.{◌≡◌, ℕ, zero, suc, ◌-◌, ◌^◌, min, IsTrue, List, [], ◌∷◌, Option, Some, None, ◌⊎◌}
use Rattle.std.specs.List.{AllZip}
use Rattle.f77_tree.specs.declared.unit.Item.{Item}
use Rattle.f77_tree.specs.declared.unit.Item.TheVariants.{Dummy, Local, Common}
use Rattle.f77_tree.specs.declared.unit.Value.{Value}
use Rattle.iv_set.specs.declared.bound.Bound.{Bound}
use Rattle.iv_set.specs.Toggles.{first_alone}
use Rattle.iv_set.specs.Sets.{has_item}
use Rattle.iv_set.specs.Least.{IsLeast}
use Rattle.item_maps.specs.Steps.{get, unlike}
use Rattle.item_maps.specs.Walks.{has_value}
use Rattle.item_maps.specs.Relation.{paired, IsLeastPair}
use Rattle.fact_types.specs.declared.facts.SiteFacts.{SiteFacts}
use Rattle.fact_types.specs.declared.facts.Facts.{Facts}
use Rattle.fact_types.specs.declared.broken.Part.{Part}
use Rattle.fact_types.specs.declared.broken.Part.TheVariants as part
use Rattle.fact_types.specs.declared.broken.Reason.{Reason}
use Rattle.fact_types.specs.declared.broken.Reason.TheVariants as reason
use Rattle.fact_types.specs.Facts.{Inside, IsSiteInside, IsSatisfied}

-- the number of the site that stands at a place, from 1
abbrev pub number : ℕ → ℕ
number k = min (suc k) (2 ^ 32 - 1)

abbrev pub part_of : Part → SiteFacts → List Bound
part_of part.Mod s = s.may_mod
part_of part.Ref s = s.may_ref

abbrev pub PartInside : Part → SiteFacts → SiteFacts → Type 0
PartInside p now kept = Inside (part_of p now) (part_of p kept)

-- the first site, from the one at place k on, whose new set has a member that the record lacks, and the least such item
abbrev pub IsFirstSite : Part → ℕ → List SiteFacts → List SiteFacts → ℕ → Item → Type 0
IsFirstSite p k [] kept n i = ⊥
IsFirstSite p k (x ∷ xs) [] n i = ⊥
IsFirstSite p k (x ∷ xs) (y ∷ ys) n i = ((n ≡ number k) × IsLeast (λ j. first_alone (has_item (part_of p x) j) (has_item (part_of p y) j)) i) ⊎ (PartInside p x y × IsFirstSite p (suc k) xs ys n i)

abbrev pub AliasesInside : List (ℕ × List Bound) → List (ℕ × List Bound) → Type 0
AliasesInside now kept = (x y : Item) → IsTrue (paired now x y) → IsTrue (paired kept x y)

abbrev pub ConstantsHold : Facts → Facts → Type 0
ConstantsHold kept now = IsTrue now.entered → (i : Item) (v : Value) → get kept.constants i ≡ Some v → get now.constants i ≡ Some v

-- the least item whose value in the record isn't the same in the new facts of an entered unit, with both values
pub record IsFirstConstant (kept now : Facts) (i : Item) (old : Value) (new : Option Value) : Type 0 where
  pub entered : IsTrue now.entered
  pub least : IsLeast (λ j. has_value (unlike (get kept.constants j) (get now.constants j))) i
  pub was : get kept.constants i ≡ Some old
  pub is : new ≡ get now.constants i

abbrev pub IsFirstAlias : List (ℕ × List Bound) → List (ℕ × List Bound) → Item → Item → Type 0
IsFirstAlias now kept (Dummy d) y = IsLeastPair now kept d y
IsFirstAlias now kept (Local k) y = ⊥
IsFirstAlias now kept (Common block k) y = ⊥

-- none where the record holds; else by kind: the sets of changed items at all sites, then those of read items, then the
-- pairs, then the constants
abbrev pub IsFirstBroken : Facts → Facts → Option Reason → Type 0
IsFirstBroken kept now None = IsSatisfied kept now
IsFirstBroken kept now (Some (reason.Mod n i)) = IsFirstSite part.Mod zero now.sites kept.sites n i
IsFirstBroken kept now (Some (reason.Ref n i)) = AllZip (PartInside part.Mod) now.sites kept.sites × IsFirstSite part.Ref zero now.sites kept.sites n i
IsFirstBroken kept now (Some (reason.Alias x y)) = AllZip IsSiteInside now.sites kept.sites × IsFirstAlias now.aliases kept.aliases x y
IsFirstBroken kept now (Some (reason.Constant i old new)) = AllZip IsSiteInside now.sites kept.sites × AliasesInside now.aliases kept.aliases × IsFirstConstant kept now i old new
IsFirstBroken kept now (Some reason.New) = ⊥
IsFirstBroken kept now (Some reason.Changed) = ⊥
