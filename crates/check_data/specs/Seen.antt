-- What DATA has given so far, by tables: of each name whether all of it was given, and the elements.
use Rattle.std.specs.Prelude.{◌≡◌, Bool, false, ◌&&◌, ◌||◌, Option, Some, None, List, ℤ, is_some}
use Rattle.std.specs.List.{list_any}
use Rattle.std.specs.Ordering.{int_eq}
use Rattle.std.specs.Cmp.Lexicographic.{pointwise}
use Rattle.f77_values.specs.Tables.{Name, name_eq, what}
use Rattle.check_data.specs.declared.given.Given.{Given}
use Rattle.check_data.specs.declared.given.Seen.{Seen}
use Rattle.check_data.specs.DataTwice.{meets}

abbrev pub same_element : Name × List ℤ → Name × List ℤ → Bool
same_element a b = name_eq a.0 b.0 && pointwise int_eq a.1 b.1

abbrev pub has : List (Name × List ℤ) → Name × List ℤ → Bool
has elements element = list_any (same_element element) elements

abbrev pub is_whole : Option Bool → Bool
is_whole None = false
is_whole (Some all) = all

abbrev pub found_as : Seen → Name → Option (List ℤ) → Bool
found_as seen name None = is_some (what seen.names name)
found_as seen name (Some list) = is_whole (what seen.names name) || has seen.elements (name, list)

-- one that has a unit of this was seen
abbrev pub found : Seen → Given → Bool
found seen g = found_as seen g.name g.subscripts

-- the tables tell of these
abbrev pub Tells : Seen → List Given → Type 0
Tells seen before = (g : Given) → found seen g ≡ list_any (meets g) before

-- one more
abbrev pub Adds : Seen → Given → Seen → Type 0
Adds old new seen = (g : Given) → found seen g ≡ (found old g || meets g new)
