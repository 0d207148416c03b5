-- Which words are names.
use Rattle.std.specs.Prelude.{ℕ, ◌-◌, Bool, false, ◌||◌, ◌&&◌, ◌==◌, nat_le, if◌then◌else◌, List, [], ◌∷◌, Option, Some, None, length, map}
use Rattle.std.specs.List.{list_all}

-- small letters as capitals
abbrev pub capital : ℕ → ℕ
capital b = if nat_le 97 b && nat_le b 122 then b - 32 else b

abbrev pub is_letter : ℕ → Bool
is_letter b = nat_le 65 b && nat_le b 90

abbrev pub is_word : ℕ → Bool
is_word b = is_letter b || (nat_le 48 b && nat_le b 57) || b == 95

-- a letter with at most 30 letters, digits or `_` behind it
abbrev pub is_name : List ℕ → Bool
is_name [] = false
is_name (first ∷ others) = is_letter first && nat_le (length (first ∷ others)) 31 && list_all is_word others

-- the name that a word is in capitals
abbrev pub name_of : List ℕ → Option (List ℕ)
name_of word = if is_name (map capital word) then Some (map capital word) else None
