-- The first fault of a kind, unit by unit.
use Rattle.std.specs.Prelude.{ℕ, suc, ◌+◌, min, nat_lt, List, [], ◌∷◌, Option, Some, None, Bool, true, false, fold, if◌then◌else◌}
use Rattle.f77_tree.specs.declared.unit.Unit.{Unit}
use Rattle.call_cycles.specs.declared.marks.ProgramMark.{ProgramMark}
use Rattle.prog_texts.specs.declared.mentions.Mention.{Mention}
use Rattle.prog_check.specs.declared.checks.Check.{Check}
use Rattle.prog_check.specs.declared.checks.Check.TheVariants.{BlockName, Callee, Count, Actual, Kind, Procedure}
use Rattle.prog_check.specs.Checks.{shows, line_of, number_of}
use Rattle.prog_check.specs.Mains.{is_main}
use Rattle.call_cycles.specs.Marks.{first_of}
use Rattle.call_cycles.specs.Marks.{mark_at}
use Rattle.prog_texts.specs.Signatures.{Signatures}

-- ---- texts

abbrev pub sooner : Option ℕ → ℕ → Option ℕ
sooner None line = Some line
sooner (Some best) line = Some (min best line)

abbrev pub with_mention : Check → Signatures → Option ℕ → Mention → Option ℕ
with_mention c all best m = if shows c all m then sooner best (line_of m) else best

-- the least line of a text at which the fault shows
abbrev pub earliest_line : Check → Signatures → List Mention → Option ℕ
earliest_line c all text = fold (with_mention c all) None text

abbrev pub mark_or : Check → ℕ → Option ℕ → Option ProgramMark → Option ProgramMark
mark_or c place None later = later
mark_or c place (Some line) later = Some (mark_at (number_of c) 0 (Some place) line)

abbrev pub first_text : Check → Signatures → ℕ → List (List Mention) → Option ProgramMark
first_text c all place [] = None
first_text c all place (text ∷ texts) = mark_or c place (earliest_line c all text) (first_text c all (suc place) texts)

abbrev pub any_text : Signatures → List (List Mention) → Option ProgramMark
any_text all texts =
    first_of (first_text BlockName all 0 texts) (first_of (first_text Callee all 0 texts) (first_of (first_text Count all 0 texts)
    (first_of (first_text Actual all 0 texts) (first_of (first_text Kind all 0 texts) (first_text Procedure all 0 texts)))))

-- ---- main programs

abbrev pub later_main : Bool → ℕ → List Unit → Option ProgramMark
later_main seen place [] = None
later_main seen place (u ∷ units) =
    if is_main u then (if seen then Some (mark_at 28 0 (Some place) 1) else later_main true (suc place) units)
    else later_main seen (suc place) units

-- ---- sums

abbrev pub passing : (Unit → ℕ) → ℕ → ℕ → ℕ → List Unit → Option ProgramMark
passing count limit sum place [] = None
passing count limit sum place (u ∷ units) =
    if nat_lt limit (sum + count u) then Some (mark_at 37 limit (Some place) 1)
    else passing count limit (sum + count u) (suc place) units
