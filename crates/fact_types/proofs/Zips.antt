-- Sites of which both sets lie in those of a record.
use Rattle.std.proofs.Common.{List, [], ◌∷◌}
use Rattle.std.specs.List.{AllZip}
use Rattle.fact_types.specs.declared.facts.SiteFacts.{SiteFacts}
use Rattle.fact_types.specs.declared.broken.Part.TheVariants as part
use Rattle.fact_types.specs.Facts.{IsSiteInside}
use Rattle.fact_types.specs.Broken.{PartInside}

pub both_inside : (now kept : List SiteFacts) → AllZip (PartInside part.Mod) now kept → AllZip (PartInside part.Ref) now kept → AllZip IsSiteInside now kept
both_inside [] [] m r = tt
both_inside [] (y ∷ ys) m r = m
both_inside (x ∷ xs) [] m r = m
both_inside (x ∷ xs) (y ∷ ys) m r = (record { may_mod = m.0; may_ref = r.0 }, both_inside xs ys m.1 r.1)
