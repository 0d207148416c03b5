use Rattle.std.proofs.Common.{◌++◌, drop, List}
use Rattle.std.specs.List.{AllZip}
use Rattle.fact_types.specs.declared.facts.SiteFacts.{SiteFacts}
use Rattle.fact_types.specs.Facts.{IsSiteCut}
use Rattle.fact_types.proofs.cut.cut_sites.Given as goal

-- whatever cuts the sites that are left cuts all, behind those so far
abbrev pub invariant-loop-site : goal.invariant-loop-site
invariant-loop-site l = (rest : List SiteFacts) → AllZip (IsSiteCut l.aliases l.own) (drop l.site-index l.sites) rest → AllZip (IsSiteCut l.aliases l.own) l.sites (l.cut ++ rest)
