use Rattle.std.proofs.Common.{◌≡◌, [], drop, sym, subst}
use Rattle.std.specs.List.{AllZip}
use Rattle.std.proofs.lemmas.List.{drop_all, append-nil}
use Rattle.fact_types.specs.Facts.{IsSiteCut}
use Rattle.fact_types.proofs.cut.cut_sites.Goals as goal

pub returns : goal.returns
returns c =
    let R = IsSiteCut c.args.aliases.now c.args.own.now in
    let gone : drop c.loop-site.site-index c.args.sites.now ≡ [] = drop_all c.loop-site.site-index c.args.sites.now c.loop-site-test.false in
    subst (λ l. AllZip R c.args.sites.now l) (append-nil c.loop-site.cut) (c.loop-site.invariant [] (subst (λ l. AllZip R l []) (sym gone) tt))
