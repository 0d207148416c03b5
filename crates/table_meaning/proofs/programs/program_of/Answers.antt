use Rattle.fixed_form.specs.Lines.{lines_of}
use Rattle.table_meaning.proofs.Accepting.{good_of, differ_of, whole_of}
use Rattle.table_meaning.proofs.programs.program_of.Goals as goal

pub returns-clause-good : goal.returns-clause-good
returns-clause-good c = good_of c.accept.result (lines_of c.args.text.now) c.in_ok-units.units c.in_ok-draft.draft c.as_slice.result.now c.accepted_law.ensures.sound (c.in_ok-units.ensures {u = tt}).units (c.in_ok-draft.ensures {u = tt}).draft c.as_slice.ensures c.accept.ensures.accepted

pub returns-clause-names : goal.returns-clause-names
returns-clause-names c = differ_of c.accept.result (lines_of c.args.text.now) c.in_ok-units.units c.in_ok-draft.draft c.as_slice.result.now c.accepted_law.ensures.sound (c.in_ok-units.ensures {u = tt}).units (c.in_ok-draft.ensures {u = tt}).draft c.as_slice.ensures c.accept.ensures.accepted

pub returns-clause-accepted : goal.returns-clause-accepted
returns-clause-accepted c = whole_of c.accept.result (lines_of c.args.text.now) c.in_ok-units.units c.in_ok-draft.draft c.as_slice.result.now c.accepted_law.ensures.sound (c.in_ok-units.ensures {u = tt}).units (c.in_ok-draft.ensures {u = tt}).draft c.as_slice.ensures c.accept.ensures.accepted
