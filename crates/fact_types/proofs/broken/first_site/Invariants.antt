use Rattle.std.proofs.Common.{ℕ, zero, drop}
use Rattle.std.specs.List.{AllZip}
use Rattle.f77_tree.specs.declared.unit.Item.{Item}
use Rattle.fact_types.specs.Broken.{PartInside, IsFirstSite}
use Rattle.fact_types.proofs.broken.first_site.Given as goal

-- what is first from here on is first
abbrev pub invariant-loop-at : goal.invariant-loop-at
invariant-loop-at l = record {
  first : (n : ℕ) (i : Item) → IsFirstSite l.part l.at (drop l.at l.now) (drop l.at l.kept) n i → IsFirstSite l.part zero l.now l.kept n i;
  inside : AllZip (PartInside l.part) (drop l.at l.now) (drop l.at l.kept) → AllZip (PartInside l.part) l.now l.kept;
}
