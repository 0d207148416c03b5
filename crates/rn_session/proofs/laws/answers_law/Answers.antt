use Rattle.rn_session.proofs.OneFault.{one_fault, no_fault}
use Rattle.rn_session.proofs.laws.answers_law.Goals as goal

pub returns : goal.returns
returns c =
    let r = c.reading_law.ensures in
    let d = c.draft_law.ensures in
    record {
      fault = one_fault r.units r.fault r.never_both d.trees d.fault d.never_both;
      never_both = no_fault r.units r.fault r.never_both d.trees d.fault d.never_both;
    }
