-- The record that PRINT writes: its items, each behind a blank, and the end of the line. Without items it is one blank.
use Rattle.std.specs.Prelude.{ℕ, List, [], ◌∷◌, ◌++◌, Bool, true, false, ◌||◌}
use Rattle.f77_semantics.specs.Statements.{written}
use Rattle.interp_code.specs.Steps.{Operand, Operands, Item, Bytes}

abbrev pub text : Operand → List ℕ
text (Item v) = 32 ∷ written v
text (Bytes bytes) = 32 ∷ bytes
text _ = []

abbrev pub is_shown : Operand → Bool
is_shown (Item v) = true
is_shown (Bytes bytes) = true
is_shown _ = false

-- what is left of a record of which something was written or not
abbrev pub record_from : Bool → Operands → List ℕ
record_from true [] = 10 ∷ []
record_from false [] = 32 ∷ 10 ∷ []
record_from any (o ∷ os) = text o ++ record_from (any || is_shown o) os
