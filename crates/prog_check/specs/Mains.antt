-- A program has exactly one main program (ANSI X3.9-1978, section 2.4.2).
use Rattle.std.specs.Prelude.{◌≡◌, ℕ, Bool, true, false, List, Some, None, take}
use Rattle.std.specs.List.{slice_get, list_any}
use Rattle.f77_tree.specs.declared.unit.Unit.{Unit}
use Rattle.f77_tree.specs.declared.unit.UnitKind.{UnitKind}
use Rattle.f77_tree.specs.declared.unit.UnitKind.TheVariants.{Main}
use Rattle.call_cycles.specs.declared.marks.ProgramMark.{ProgramMark}
use Rattle.call_cycles.specs.Marks.{mark_at}

abbrev pub is_main_kind : UnitKind → Bool
is_main_kind Main = true
is_main_kind _ = false

abbrev pub is_main : Unit → Bool
is_main u = is_main_kind u.kind

abbrev pub has_main : List Unit → Bool
has_main units = list_any is_main units

pub record LacksMain (units : List Unit) (mark : ProgramMark) : Type 0 where
  pub lacks : has_main units ≡ false
  pub mark_is : mark ≡ mark_at 27 0 None 0

-- a main program with another before it
pub record IsLaterMain (units : List Unit) (mark : ProgramMark) : Type 0 where
  pub place : ℕ
  pub unit : Unit
  pub stands : slice_get units place ≡ Some unit
  pub main : is_main unit ≡ true
  pub earlier : has_main (take place units) ≡ true
  pub mark_is : mark ≡ mark_at 28 0 (Some place) 1
