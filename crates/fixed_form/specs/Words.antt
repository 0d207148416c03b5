-- Where the word at the front of a text ends.
use Rattle.std.specs.Prelude.{◌≡◌, ℕ, ◌<◌, ◌≤◌, true, false, [], ◌∷◌, length, take, slice_index}
use Rattle.std.specs.List.{list_all}
use Rattle.f77_tree.specs.Names.{is_word}
use Rattle.fixed_form.specs.Lines.{Text}

-- no word goes on here
abbrev pub Stops : Text → Type 0
Stops [] = Unit {0}
Stops (b ∷ rest) = is_word b ≡ false

-- the first n bytes are of a word, and no more
pub record IsRun (text : Text) (n : ℕ) : Type 0 where
  pub within : n ≤ length text
  pub word : list_all is_word (take n text) ≡ true
  pub stops : n < length text → is_word (slice_index text n) ≡ false
