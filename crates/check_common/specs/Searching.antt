-- How the first statement is found that initialises something again.
use Rattle.std.specs.Prelude.{Bool, true, false, ◌&&◌, ◌==◌, nat_lt, nat_le, List, [], ◌∷◌, Option, Some, None, fold, if◌then◌else◌}
use Rattle.std.specs.List.{list_any}
use Rattle.std.specs.Ordering.{nat_cmp}
use Rattle.std.specs.Cmp.Lexicographic.{slice_cmp}
use Rattle.std.specs.declared.cmp.Ordering.{Ordering}
use Rattle.std.specs.declared.cmp.Ordering.TheVariants.{Less, Equal, Greater}
use Rattle.check_common.specs.declared.runs.Run.{Run}
use Rattle.check_common.specs.declared.initials.Initial.{Initial}
use Rattle.check_common.specs.declared.again.Again.{Again}
use Rattle.check_common.specs.Again.{end_of, overlap, mark_of}

-- ---- runs that stand behind each other

abbrev pub apart_by : Ordering → Run → Run → Bool
apart_by Less a b = true
apart_by Equal a b = nat_le (end_of a) b.from
apart_by Greater a b = false

-- The one run stands before the other, by block and then by place, and has none of its units.
abbrev pub is_apart : Run → Run → Bool
is_apart a b = apart_by (slice_cmp nat_cmp a.block b.block) a b

abbrev pub apart_from : Initial → List Initial → Bool
apart_from x [] = true
apart_from x (y ∷ others) = is_apart x.run y.run && apart_from y others

-- each before the next one
abbrev pub all_apart : List Initial → Bool
all_apart [] = true
all_apart (x ∷ others) = apart_from x others

-- ---- one by one

abbrev pub meets_later : Initial → Initial → Bool
meets_later later earlier = nat_lt earlier.unit later.unit && overlap earlier.run later.run

abbrev pub meets : List Initial → Initial → Bool
meets all later = list_any (meets_later later) all

abbrev pub comes_first : Again → Again → Bool
comes_first a b = if a.place == b.place then nat_le a.line b.line else nat_lt a.place b.place

abbrev pub is_found : Option Again → Again → Bool
is_found None mark = false
is_found (Some found) mark = comes_first found mark

abbrev pub with_later : List Initial → Option Again → Initial → Option Again
with_later all found later = if is_found found (mark_of later) then found else (if meets all later then Some (mark_of later) else found)

abbrev pub search : List Initial → Option Again
search all = fold (with_later all) None all
