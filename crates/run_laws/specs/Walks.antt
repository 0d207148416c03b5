-- The way of a unit's run: the points at which its turns begin, one after another.
use Rattle.std.specs.Prelude.{◌≡◌, ℕ, zero, suc, List, [], ◌∷◌, Some, slice_get}
use Rattle.run_model.specs.Storage.{Interval}
use Rattle.run_model.specs.Acts.{World, Outcome, Fine, Stop, Act, Handler, play}
use Rattle.run_model.specs.Turns.{After, Again, Result}
use Rattle.f77_tree.specs.declared.unit.Stmt.{Stmt}
use Rattle.f77_tree.specs.declared.unit.Unit.{Unit as SourceUnit}
use Rattle.f77_flow.specs.Blocks.{first}
use Rattle.f77_flow.specs.Graph.{Point, At, follow}
use Rattle.f77_flow.specs.Next.{MayFollow}
use Rattle.f77_flow.specs.Checks.{PassedChecks}
use Rattle.f77_semantics.specs.Program.{Routine}
use Rattle.f77_semantics.specs.Expressions.{Frame}
use Rattle.f77_semantics.specs.Statements.{Here, turn}
use Rattle.f77_semantics.specs.Units.{entry, entered, cleared, beginning}
use Rattle.f77_semantics.specs.Goes.{IsOne}
use Rattle.f77_semantics.specs.Source.{routine}

-- no turn begins where no step is left
abbrev pub way_ticked : ℕ → World → (World → List Point) → List Point
way_ticked zero w go = []
way_ticked (suc n) w go = go (record w { left = n })

-- behind a turn that goes on
abbrev pub way_behind : Outcome (After Here) → (Here → World → List Point) → List Point
way_behind (Fine (Again s) w) go = go s w
way_behind (Fine (Result r) w) go = []
way_behind (Stop reason w) go = []

-- of so many turns at most
abbrev pub way_from : Handler → (Here → Act (After Here)) → ℕ → Here → World → List Point
way_from h t zero s w = []
way_from h t (suc n) s w = way_ticked w.left w (λ w1. s.point ∷ way_behind (play h (t s) w1) (way_from h t n))

abbrev pub way_entered : Handler → Routine → Outcome Frame → List Point
way_entered h u (Fine f w) = way_from h (turn u f) (suc w.left) (beginning u) w
way_entered h u (Stop reason w) = []

-- of an activation with these actuals, from a world
abbrev pub way_of : Handler → Routine → List Interval → World → List Point
way_of h u ds w = way_entered h u (play h (entry (entered u ds) u.dummy_arrays) (cleared u w))

-- the statements that begin along a way
abbrev pub begun : List Point → List ℕ
begun [] = []
begun (At k ∷ ps) = k ∷ begun ps
begun (p ∷ ps) = begun ps

-- The way begins at the first statement, and each point is one that may follow the one before. So of the statements that begin each is
-- one that may follow the one before: the tests and advances of DOs and the statement of a logical IF are passed through.
pub record IsAlongTheGraph (u : List Stmt) (ps : List Point) : Type 0 where
  pub begins : (p : Point) → slice_get ps 0 ≡ Some p → p ≡ At (first u)
  pub goes : (k : ℕ) (p q : Point) → slice_get ps k ≡ Some p → slice_get ps (suc k) ≡ Some q → IsOne (follow u p) q
  pub statements : (k i j : ℕ) → slice_get (begun ps) k ≡ Some i → slice_get (begun ps) (suc k) ≡ Some j → MayFollow u i j

-- So it is with whatever the unit calls, so in every program.
abbrev pub RunsFollowTheGraph : Type 0
RunsFollowTheGraph = (u : SourceUnit) → PassedChecks u.statements → (h : Handler) (ds : List Interval) (w : World) → IsAlongTheGraph u.statements (way_of h (routine u) ds w)
