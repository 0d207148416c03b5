use Rattle.f77_expr.proofs.Unique.{pieces_same, lexes_same}
use Rattle.f77_expr.proofs.laws.lexes_law.Goals as goal

pub returns : goal.returns
returns c = record { pieces = λ text a b. pieces_same; unique = lexes_same }
