use Rattle.thin_text.proofs.Standings.{Gone}
use Rattle.thin_text.proofs.thin.thin_unit.Given as goal

abbrev pub invariant-loop-k : goal.invariant-loop-k
invariant-loop-k l = Gone l.lines l.k l.body
