-- Which numbers come to a node along edges: the flat order upside down, and a system over a graph.
use Rattle.std.specs.Prelude.{◌≡◌, ◌≢◌, ℕ, IsTrue, List, Option, Some, None, nat_eq, slice_get, if◌then◌else◌, ⊤}
use Rattle.rn_lattice.specs.Flats.{flat_leq}
use Rattle.rn_lattice.specs.Duals.{dual_of}
use Rattle.rn_lattice.specs.declared.dual.Dual.{Dual}
use Rattle.rn_lattice.specs.declared.flat.Flat.{Flat}
use Rattle.rn_lattice.specs.declared.flat.Flat.TheVariants.{Bottom, Is, Top}
use Rattle.fix_solver.specs.Graphs.{Leads}

-- the number that is given at a place, if one is
abbrev pub number_of : Option (Option ℕ) → Flat ℕ
number_of (Some (Some c)) = Is c
number_of (Some None) = Top
number_of None = Top

-- what is given at a node
abbrev pub given_at : List (Option ℕ) → ℕ → Dual (Flat ℕ)
given_at given n = dual_of (number_of (slice_get given n))

-- a chain of edges leads to the node from one at which the number is given
abbrev pub Comes : (ℕ → List ℕ) → List (Option ℕ) → ℕ → ℕ → Type 0
Comes sources given n c = (m : ℕ) × Leads sources m n × (slice_get given m ≡ Some (Some c))

-- a number is told of the node only where it comes, and that there are several only where two that differ come
abbrev pub IsTold : (ℕ → List ℕ) → List (Option ℕ) → ℕ → Flat ℕ → Type 0
IsTold sources given n Top = ⊤
IsTold sources given n (Is c) = Comes sources given n c
IsTold sources given n Bottom = (c d : ℕ) × Comes sources given n c × Comes sources given n d × (c ≢ d)

-- the greatest lower bound of the numbers that come: no number, the only number, or several
pub record IsMeeting (sources : ℕ → List ℕ) (given : List (Option ℕ)) (n : ℕ) (v : Flat ℕ) : Type 0 where
  pub told : IsTold sources given n v
  pub below : (c : ℕ) → Comes sources given n c → IsTrue (flat_leq nat_eq v (Is c))

abbrev pub flat_meet : Flat ℕ → Flat ℕ → Flat ℕ
flat_meet Top y = y
flat_meet Bottom y = Bottom
flat_meet (Is v) Top = Is v
flat_meet (Is v) Bottom = Bottom
flat_meet (Is v) (Is w) = if nat_eq v w then Is v else Bottom

abbrev pub meet : Dual (Flat ℕ) → Dual (Flat ℕ) → Dual (Flat ℕ)
meet x y = dual_of (flat_meet x.inner y.inner)

-- how often a value may still fall
abbrev pub falls_left : Flat ℕ → ℕ
falls_left Top = 2
falls_left (Is c) = 1
falls_left Bottom = 0
