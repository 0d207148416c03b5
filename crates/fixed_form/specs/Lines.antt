-- The lines of a text.
use Rattle.std.specs.Prelude.{◌≡◌, ℕ, List, [], ◌∷◌, if◌then◌else◌, ◌==◌, ◌&&◌, Bool, false, ◌<◌, ◌≤◌, length, take, slice_index}

abbrev pub Text : Type 0
Text = List ℕ

-- a byte in front of the first line
abbrev pub in_front : ℕ → List Text → List Text
in_front b [] = (b ∷ []) ∷ []
in_front b (line ∷ lines) = (b ∷ line) ∷ lines

abbrev pub begins_end : Text → Bool
begins_end [] = false
begins_end (b ∷ text) = b == 10

-- A byte 10 ends a line, and a byte 13 directly before it is dropped. Nothing behind the last end is a line.
unfoldable pub lines_of : Text → List Text
lines_of [] = []
lines_of (b ∷ text) = if b == 10 then [] ∷ lines_of text else (if b == 13 && begins_end text then lines_of text else in_front b (lines_of text))

-- a line without a byte 13 at its end
unfoldable pub stripped : Text → Text
stripped [] = []
stripped (b ∷ []) = if b == 13 then [] else b ∷ []
stripped (b ∷ c ∷ bs) = b ∷ stripped (c ∷ bs)

-- no byte ends a line
abbrev pub NoEnd : Text → Type 0
NoEnd [] = Unit {0}
NoEnd (b ∷ bs) = ((b == 10) ≡ false) × NoEnd bs

pub record IsEndOf (text : Text) (n : ℕ) : Type 0 where
  pub within : n ≤ length text
  pub none : NoEnd (take n text)
  pub stops : n < length text → slice_index text n ≡ 10
