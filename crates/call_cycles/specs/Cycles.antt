-- No unit may call itself, directly or through others (ANSI X3.9-1978, sections 15.5.2 and 15.6.2).
use Rattle.std.specs.Prelude.{◌≡◌, ℕ, ◌<◌, List, Option, Some, map, option_map}
use Rattle.std.specs.List.{slice_get}
use Rattle.f77_tree.specs.declared.unit.Unit.{Unit}
use Rattle.call_cycles.specs.declared.marks.ProgramMark.{ProgramMark}
use Rattle.call_cycles.specs.declared.cycles.Edge.{Edge}
use Rattle.prog_texts.specs.declared.mentions.Site.{Site}
use Rattle.prog_texts.specs.Mentions.{sites}
use Rattle.prog_texts.specs.Signatures.{Signatures, signatures, unit_of}
use Rattle.call_cycles.specs.Marks.{mark_at}

-- the place of the unit that a site calls, if there is one
abbrev pub target : Signatures → Site → Option ℕ
target all s = option_map (λ u. u.place) (unit_of all s.callee)

abbrev pub edge : Signatures → Site → Edge
edge all s = record { line = s.line; target = target all s }

-- for each unit, the lines of its sites and where they lead, in their order
abbrev pub Rows : Type 0
Rows = List (List Edge)

abbrev pub rows : List Unit → Rows
rows units = map (λ u. map (edge (signatures units)) (sites u)) units

-- One of the sites leads to this unit.
pub record Targets (row : List Edge) (to : ℕ) : Type 0 where
  pub at : ℕ
  pub edge : Edge
  pub stands : slice_get row at ≡ Some edge
  pub leads : edge.target ≡ Some to

-- A site of the one unit, in its place, calls the other.
pub record Calls (all : Rows) (from to : ℕ) : Type 0 where
  pub row : List Edge
  pub stands : slice_get all from ≡ Some row
  pub targets : Targets row to

-- A chain of sites, which may be empty, leads from the one unit to the other.
pub data Leads (all : Rows) (to : ℕ) : ℕ → Type 0 where
  here : Leads all to to
  by : (from next : ℕ) → Calls all from next → Leads all to next → Leads all to from

-- The site at this place among those of a unit calls a unit that leads back to it.
pub record LeadsBack (all : Rows) (unit site : ℕ) : Type 0 where
  pub row : List Edge
  pub stands : slice_get all unit ≡ Some row
  pub edge : Edge
  pub calls : slice_get row site ≡ Some edge
  pub next : ℕ
  pub leads : edge.target ≡ Some next
  pub back : Leads all unit next

-- the first unit from which a chain of sites leads back to it, at the first of its sites on one
pub record IsFirstCycle (all : Rows) (unit site : ℕ) : Type 0 where
  pub back : LeadsBack all unit site
  pub first_site : (other : ℕ) → other < site → LeadsBack all unit other → ⊥
  pub first_unit : (before : ℕ) → before < unit → (other : ℕ) → LeadsBack all before other → ⊥

pub record HasCycle (units : List Unit) (mark : ProgramMark) : Type 0 where
  pub place : ℕ
  pub unit : Unit
  pub stands : slice_get units place ≡ Some unit
  pub at : ℕ
  pub site : Site
  pub calls : slice_get (sites unit) at ≡ Some site
  pub first : IsFirstCycle (rows units) place at
  pub mark_is : mark ≡ mark_at 34 0 (Some place) site.line
