use Rattle.std.proofs.Common.{◌≡◌, sym, ap, subst, ◌∙◌}
use Rattle.fault_marks.specs.Earliest.{first_of, Earliest}
use Rattle.check_names.specs.NameFaults.{FaultsUnder}
use Rattle.check_names.proofs.Gathered.{gathered}
use Rattle.check_names.proofs.faults.name_fault.Goals as goal

pub returns : goal.returns
returns c =
    let f = c.args.facts.now in
    let u = c.args.unit.now in
    let x = c.in_ok-conflict.conflict in
    let y = c.in_ok-untyped.untyped in
    let z = c.in_ok-displaced.displaced in
    let w = c.in_ok-large.large in
    let all : c.first_of-3.result ≡ first_of (first_of x y) (first_of z w) =
    c.first_of-3.ensures.first ∙ (ap (λ m. first_of m c.first_of-2.result) c.first_of.ensures.first ∙ ap (first_of (first_of x y)) c.first_of-2.ensures.first) in
    record {
      earliest = subst (λ g. Earliest (FaultsUnder g u) c.first_of-3.result) c.requires
          (subst (Earliest (FaultsUnder f u)) (sym all) (gathered f u x y z w c.in_ok-conflict.ensures c.in_ok-untyped.ensures c.in_ok-displaced.ensures c.in_ok-large.ensures));
    }
