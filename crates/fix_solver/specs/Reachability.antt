-- Which nodes a start leads to: truth values in their order, and a system over a graph.
use Rattle.std.specs.Prelude.{ℕ, Bool, ◌||◌, not, IsTrue, List, if◌then◌else◌}
use Rattle.fix_solver.specs.Graphs.{Leads}

-- false is below true
abbrev pub flag_leq : Bool → Bool → Bool
flag_leq x y = not x || y

-- a flag that is on tells that the start leads to the node
abbrev pub IsTold : (ℕ → List ℕ) → ℕ → ℕ → Bool → Type 0
IsTold sources start n v = IsTrue v → Leads sources start n

-- how often a flag may still rise
abbrev pub rises_left : Bool → ℕ
rises_left v = if v then 0 else 1
