-- Runs of bytes of a class.
use Rattle.std.specs.Prelude.{◌≡◌, ℕ, ◌<◌, ◌≤◌, Bool, true, false, take, length, slice_index}
use Rattle.std.specs.List.{list_all}
use Rattle.f77_expr.specs.Spelling.{Text}

-- the first n bytes are of the class, and the next isn't
pub record IsRun (class : ℕ → Bool) (text : Text) (n : ℕ) : Type 0 where
  pub within : n ≤ length text
  pub each : list_all class (take n text) ≡ true
  pub stops : n < length text → class (slice_index text n) ≡ false
