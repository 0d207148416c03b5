use Rattle.std.proofs.Common.{◌≡◌, drop}
use Rattle.f77_expr.specs.Spelling.{Text, doubled}
use Rattle.f77_expr.proofs.Contents.{Half}
use Rattle.f77_expr.proofs.building.undoubled.Given as goal

abbrev pub invariant-loop-b : goal.invariant-loop-b
invariant-loop-b l = (content : Text) → l.bytes ≡ doubled content → Half l.half l.all (drop l.b-index l.bytes) content
