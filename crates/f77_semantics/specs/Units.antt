-- Entries, units and programs (ANSI X3.9-1978, sections 5.5, 8.9, 9 and 15).
use Rattle.std.specs.Prelude.{ℕ, zero, suc, ◌+◌, ◌*◌, ◌/◌, List, [], ◌∷◌, Option, Some, None, Bool, false, not, cond, ◌&&◌, ◌||◌, ℤ, pos, ◌+ℤ◌, ◌-ℤ◌, get_or, nat_eq, nat_le, nat_lt, if◌then◌else◌, length}
use Rattle.run_model.specs.Storage.{Area, Block, Local, Fresh, Interval, Loc, loc_eq, Cells}
use Rattle.run_model.specs.Acts.{World, Undefined, Stuck, Outcome, Stop, then_do, Act, Done, Fail, ◌>>=◌, Answer, Handler, play}
use Rattle.run_model.specs.Turns.{run_from}
use Rattle.run_model.specs.Runs.{Run, answer}
use Rattle.f77_tree.specs.declared.unit.Value.{Value}
use Rattle.f77_values.specs.Tables.{Name, name_eq}
use Rattle.f77_flow.specs.Graph.{At}
use Rattle.f77_semantics.specs.Values.{stored}
use Rattle.f77_semantics.specs.Program.{Base, Extent, Dummy, Term, Bound, DummyArray, Routine, Kept}
use Rattle.f77_semantics.specs.Expressions.{Frame, interval, only_first, scalar}
use Rattle.f77_semantics.specs.Statements.{Here, number, turn}

-- The bounds of dummy arrays are evaluated at the entry.
abbrev pub lower_of : Frame → Option Term → Act ℤ
lower_of f None = Done (pos 1)
lower_of f (Some e) = number f e

abbrev pub upper_of : Frame → Option Term → Act (Option ℤ)
upper_of f None = Done None
upper_of f (Some e) = do
  x ← number f e
  Done (Some x)

abbrev pub bounds_of : Frame → List Bound → Act (List (ℤ × Option ℤ))
bounds_of f [] = Done []
bounds_of f (b ∷ bs) = do
  x ← lower_of f b.lower
  y ← upper_of f b.upper
  rest ← bounds_of f bs
  Done ((x, y) ∷ rest)

-- an extent of at least 1
abbrev pub positive : ℤ → Option ℕ
positive (pos (suc n)) = Some (suc n)
positive _ = None

abbrev pub extents : List (ℤ × Option ℤ) → Act (List (ℤ × Option ℕ))
extents [] = Done []
extents ((x, None) ∷ bs) = do
  rest ← extents bs
  Done ((x, None) ∷ rest)
extents ((x, Some y) ∷ bs) = elim (positive ((y -ℤ x) +ℤ pos 1)) [
  | None ↦ Fail (Undefined 4)
  | Some n ↦ (do
    rest ← extents bs
    Done ((x, Some n) ∷ rest))
]

-- the product of the known extents
abbrev pub product : List (ℤ × Option ℕ) → ℕ
product [] = 1
product ((x, None) ∷ es) = product es
product ((x, Some n) ∷ es) = n * product es

-- with `*` for an extent, that is what is left of the actual's sequence
abbrev pub filled : ℕ → List (ℤ × Option ℕ) → Act (List Extent)
filled star [] = Done []
filled star ((x, Some n) ∷ es) = do
  rest ← filled star es
  Done (record { lower = x; size = n } ∷ rest)
filled star ((x, None) ∷ es) =
    if nat_lt star 1 then Fail (Undefined 4) else do
      rest ← filled star es
      Done (record { lower = x; size = star } ∷ rest)

abbrev pub total : List Extent → ℕ
total [] = 1
total (e ∷ es) = e.size * total es

abbrev pub divide : ℕ → ℕ → ℕ
divide n d = n / d

abbrev pub dimensions : Frame → ℕ → List Bound → Act (List Extent)
dimensions f long bs = do
  pairs ← bounds_of f bs
  es ← extents pairs
  shape ← filled (divide long (product es)) es
  if nat_lt long (total shape) then Fail (Undefined 3) else Done shape

abbrev pub with_shape : ℕ → List Extent → Frame → Frame
with_shape k es f = record f { shapes = λ j. cond (nat_eq k j) es (f.shapes j) }

-- array by array, in the order of the dummies
abbrev pub entry : Frame → List DummyArray → Act Frame
entry f [] = Done f
entry f (a ∷ as_) = do
  es ← dimensions f (interval f (Dummy a.dummy) 0).length a.bounds
  entry (with_shape a.dummy es f) as_

-- the local cells without SAVE or DATA, and the fresh cells, are undefined at an entry
abbrev pub is_kept : List Kept → ℕ → Bool
is_kept [] o = false
is_kept (k ∷ ks) o = (nat_le k.from o && nat_lt o (k.from + k.length)) || is_kept ks o

abbrev pub is_cleared : Routine → Area → ℕ → Bool
is_cleared u (Local v) o = name_eq u.name v && not (is_kept u.kept o)
is_cleared u (Fresh v s j) o = name_eq u.name v
is_cleared u (Block b) o = false

abbrev pub cleared : Routine → World → World
cleared u w = record w { cells = λ l. cond (is_cleared u l.area l.offset) None (w.cells l) }

-- a dummy that is no array is one location
abbrev pub is_array : List DummyArray → ℕ → Bool
is_array [] j = false
is_array (a ∷ as_) j = nat_eq a.dummy j || is_array as_ j

abbrev pub associated : List DummyArray → ℕ → List Interval → List Interval
associated as_ j [] = []
associated as_ j (i ∷ is) = (if is_array as_ j then i else only_first i) ∷ associated as_ (suc j) is

abbrev pub entered : Routine → List Interval → Frame
entered u ds = record { unit = u.name; actuals = associated u.dummy_arrays 0 ds; shapes = λ k. record { lower = pos 1; size = 0 } ∷ [] }

abbrev pub beginning : Routine → Here
beginning u = record { point = At u.first; loops = λ k. record { count = 0; step = pos 1 } }

-- An activation: what it does at the entry is no step of its own.
abbrev pub run_unit : Handler → Routine → List Interval → World → Outcome Answer
run_unit h u ds w = then_do (play h (entry (entered u ds) u.dummy_arrays) (cleared u w)) (λ f w1. run_from h (turn u f) (beginning u) w1)

-- what units mean, called by name
abbrev pub Meanings : Type 0
Meanings = Name → List Interval → World → Outcome Answer

-- sites are numbered from 1
abbrev pub callee : Routine → ℕ → Name
callee u zero = u.name
callee u (suc k) = get_or u.callees k u.name

abbrev pub at_sites : Routine → Meanings → Handler
at_sites u m s ds w = m (callee u s) ds w

abbrev pub Program : Type 0
Program = Name → Routine

abbrev pub meaning : Program → (depth : ℕ) → Meanings
meaning units zero q ds w = Stop Stuck w
meaning units (suc d) q ds w = run_unit (at_sites (units q) (meaning units d)) (units q) ds w

-- Storage at the start: what DATA gives, also in units that are never entered.
abbrev pub given_in : Routine → Loc → List (Base × Value) → Option Value
given_in u l [] = None
given_in u l (c ∷ cs) = cond (loc_eq (scalar (entered u []) c.0) l) (Some c.1) (given_in u l cs)

abbrev pub given : List Routine → Cells
given [] l = None
given (u ∷ us) l = elim (given_in u l u.initial) [ None ↦ given us l | Some v ↦ Some (stored v) ]

-- the unit of a name, among these
abbrev pub named : List Routine → Routine → Program
named [] other q = other
named (u ∷ us) other q = cond (name_eq u.name q) u (named us other q)

abbrev pub fresh_world : List Routine → List ℤ → ℕ → World
fresh_world us input n = record { cells = given us; out = []; input = input; left = n }

-- What a program's run is before step n + 1 would begin. A chain of calls is no longer than the list of units.
abbrev pub running : List Routine → (main : Routine) → List ℤ → ℕ → Run
running us main input n = answer n (meaning (named us main) (length us) main.name [] (fresh_world us input n))
