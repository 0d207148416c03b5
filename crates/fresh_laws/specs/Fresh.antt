-- What a run can depend on: all cells but fresh ones that weren't passed to it.
use Rattle.std.specs.Prelude.{◌≡◌, ℕ, List, Bool, true, false, not, ◌&&◌, ◌||◌, nat_eq, nat_lt}
use Rattle.std.specs.List.{list_any}
use Rattle.run_model.specs.Storage.{Area, Fresh, Loc, Interval, area_eq}
use Rattle.run_model.specs.Acts.{World, Outcome, Fine, Stop}
use Rattle.run_model.specs.Turns.{run_from}
use Rattle.f77_values.specs.Tables.{Name}
use Rattle.f77_semantics.specs.Expressions.{Frame}
use Rattle.f77_semantics.specs.Statements.{Here, turn}
use Rattle.f77_semantics.specs.Units.{Program, at_sites, meaning}

-- the area of an actual at a site. Sites are numbered from 1.
abbrev pub is_of_site : Area → Bool
is_of_site (Fresh u s j) = nat_lt 0 s
is_of_site _ = false

-- the one cell of such an area
abbrev pub is_fresh : Loc → Bool
is_fresh l = is_of_site l.area && nat_eq 0 l.offset

-- in the area of one of these actuals
abbrev pub is_passed : List Interval → Loc → Bool
is_passed ds l = list_any (λ i. area_eq i.area l.area) ds

-- what an activation with these actuals can depend on
abbrev pub matters : List Interval → Loc → Bool
matters ds l = not (is_fresh l) || is_passed ds l

-- a set of locations, and one within another
abbrev pub Locations : Type 0
Locations = Loc → Bool

abbrev pub Within : Locations → Locations → Type 0
Within P Q = (l : Loc) → P l ≡ true → Q l ≡ true

-- worlds that differ at most in the cells of other locations
pub record Agree (P : Locations) (v w : World) : Type 0 where
  pub cells : (l : Loc) → P l ≡ true → v.cells l ≡ w.cells l
  pub out : v.out ≡ w.out
  pub input : v.input ≡ w.input
  pub left : v.left ≡ w.left

-- the same answer or the same reason to stop, and worlds that agree
abbrev pub Alike : {A : Type 0} → Locations → Outcome A → Outcome A → Type 0
Alike P (Fine x v) (Fine y w) = (x ≡ y) × Agree P v w
Alike P (Stop r v) (Stop s w) = (r ≡ s) × Agree P v w
Alike P _ _ = ⊥

-- From worlds that agree where it matters, and maybe elsewhere too, a unit runs alike, and leaves worlds that agree there again.
abbrev pub FreshCellsAreFresh : Type 0
FreshCellsAreFresh = (units : Program) (depth : ℕ) (unit : Name) (actuals : List Interval) (P : Locations) → Within (matters actuals) P → (v w : World) → Agree P v w → Alike P (meaning units depth unit actuals v) (meaning units depth unit actuals w)

-- So does what is left of an activation, in whatever frame and at whatever place a turn begins. Its own fresh cells, too, matter only once
-- they are evaluated at their site.
abbrev pub FreshWithin : Type 0
FreshWithin = (units : Program) (depth : ℕ) (unit : Name) (f : Frame) (s : Here) (P : Locations) → Within (matters f.actuals) P → (v w : World) → Agree P v w
    → Alike P (run_from (at_sites (units unit) (meaning units depth)) (turn (units unit) f) s v) (run_from (at_sites (units unit) (meaning units depth)) (turn (units unit) f) s w)
