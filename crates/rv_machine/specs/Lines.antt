-- Lines of an output that is written piece by piece.
use Rattle.std.specs.Prelude.{ℕ, Bool, not, nat_eq, List, [], ◌∷◌}

-- whether the place behind these bytes is within a line, where the place before them is or isn't
abbrev pub within_line : Bool → List ℕ → Bool
within_line before [] = before
within_line before (b ∷ bytes) = within_line (not (nat_eq b 10)) bytes
