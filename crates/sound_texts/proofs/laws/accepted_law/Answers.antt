use Rattle.sound_texts.proofs.Drafts.{accepted_sound}
use Rattle.sound_texts.proofs.laws.accepted_law.Goals as goal

pub returns-clause-sound : goal.returns-clause-sound
returns-clause-sound c lines units trees reads a = accepted_sound c.trees_law.ensures.text units trees (c.read_law.ensures.ends lines units reads) a

pub returns-clause-never_stuck : goal.returns-clause-never_stuck
returns-clause-never_stuck c lines units trees reads a =
    let s = accepted_sound c.trees_law.ensures.text units trees (c.read_law.ensures.ends lines units reads) a in
    c.programs_law.ensures.never_wrong trees s.good s.differ s.whole
