use Rattle.std.proofs.Common.{drop}
use Rattle.std.specs.List.{AllZip}
use Rattle.fact_types.specs.Facts.{IsSiteInside}
use Rattle.fact_types.proofs.records.sites_inside.Given as goal

-- the sites that are left decide
abbrev pub invariant-loop-at : goal.invariant-loop-at
invariant-loop-at l = record {
  inside : AllZip IsSiteInside (drop l.at l.now) (drop l.at l.kept) → AllZip IsSiteInside l.now l.kept;
  only : AllZip IsSiteInside l.now l.kept → AllZip IsSiteInside (drop l.at l.now) (drop l.at l.kept);
}
