use Rattle.std.proofs.Common.{rules}
use Rattle.std.specs.List.{AllZip}
use Rattle.item_maps.specs.Relation.{IsLeastPair}
use Rattle.fact_types.specs.declared.broken.Part.TheVariants as part
use Rattle.fact_types.specs.Broken.{PartInside, AliasesInside, ConstantsHold, IsFirstConstant}
use Rattle.fact_types.proofs.Zips.{both_inside}
use Rattle.fact_types.proofs.broken.first_broken.Goals as goal

pub returns-in-Some-3 : goal.returns-in-Some-3
returns-in-Some-3 c =
    let now = c.args.now.now in
    let kept = c.args.kept.now in
    let mods : AllZip (PartInside part.Mod) now.sites kept.sites = search rules in
    let refs : AllZip (PartInside part.Ref) now.sites kept.sites = search rules in
    let pair : IsLeastPair now.aliases kept.aliases c.in-Some-3.dummy c.in-Some-3.item = search rules in
    (both_inside now.sites kept.sites mods refs, pair)

pub returns-in-Some-4 : goal.returns-in-Some-4
returns-in-Some-4 c =
    let now = c.args.now.now in
    let kept = c.args.kept.now in
    let mods : AllZip (PartInside part.Mod) now.sites kept.sites = search rules in
    let refs : AllZip (PartInside part.Ref) now.sites kept.sites = search rules in
    let aliases : AliasesInside now.aliases kept.aliases = search rules in
    let constant : IsFirstConstant kept now c.in-Some-4.item c.in-Some-4.old c.in-Some-4.new = search rules in
    (both_inside now.sites kept.sites mods refs, aliases, constant)

pub returns-in-None-4 : goal.returns-in-None-4
returns-in-None-4 c =
    let now = c.args.now.now in
    let kept = c.args.kept.now in
    let mods : AllZip (PartInside part.Mod) now.sites kept.sites = search rules in
    let refs : AllZip (PartInside part.Ref) now.sites kept.sites = search rules in
    let aliases : AliasesInside now.aliases kept.aliases = search rules in
    let constants : ConstantsHold kept now = search rules in
    record { sites = both_inside now.sites kept.sites mods refs; aliases = aliases; constants = constants }
