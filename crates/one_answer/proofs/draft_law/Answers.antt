use Rattle.one_answer.proofs.Drafts.{one_trees, one_draft_fault, accepted_or_faulty}
use Rattle.one_answer.proofs.draft_law.Goals as goal

pub returns : goal.returns
returns c =
    let u = c.unit_law.ensures in
    let k = c.checks_law.ensures in
    let p = c.program_law.ensures in
    record {
      trees = one_trees u.tree u.fault u.never_both k.fault k.never_both p.fault p.never_both;
      fault = one_draft_fault u.tree u.fault u.never_both k.fault k.never_both p.fault p.never_both;
      never_both = accepted_or_faulty u.tree u.fault u.never_both k.fault k.never_both p.fault p.never_both;
    }
