-- A fault that the text of a unit shows against the other units.
use Rattle.std.specs.Prelude.{◌≡◌, ℕ, true, List, Some}
use Rattle.std.specs.List.{slice_get}
use Rattle.f77_tree.specs.declared.unit.Unit.{Unit}
use Rattle.call_cycles.specs.declared.marks.ProgramMark.{ProgramMark}
use Rattle.call_cycles.specs.Marks.{mark_at}
use Rattle.prog_texts.specs.declared.mentions.Mention.{Mention}
use Rattle.prog_check.specs.declared.checks.Check.{Check}
use Rattle.prog_texts.specs.Mentions.{mentions}
use Rattle.prog_texts.specs.Signatures.{signatures}
use Rattle.prog_check.specs.Checks.{shows, line_of, number_of}

-- Something that a unit's text says shows the fault, at the line of its statement.
pub record TextShows (units : List Unit) (c : Check) (mark : ProgramMark) : Type 0 where
  pub place : ℕ
  pub unit : Unit
  pub stands : slice_get units place ≡ Some unit
  pub at : ℕ
  pub mention : Mention
  pub says : slice_get (mentions unit) at ≡ Some mention
  pub holds : shows c (signatures units) mention ≡ true
  pub mark_is : mark ≡ mark_at (number_of c) 0 (Some place) (line_of mention)
