-- For each letter the shortest name that comes to a node along edges: maps upside down, and a system over a graph.
use Rattle.std.specs.Prelude.{◌≡◌, ℕ, ◌+◌, ◌%◌, ◌≤◌, ◌⊎◌, Bool, List, [], ◌∷◌, length, min, nat_eq, nat_le, slice_index_or, if◌then◌else◌}
use Rattle.std.specs.Ordering.{nat_cmp}
use Rattle.std.proofs.Common.{zero, suc}
use Rattle.rn_lattice.specs.Duals.{dual_leq, dual_of}
use Rattle.rn_lattice.specs.Maps.{value_at, map_leq, IsMap}
use Rattle.rn_lattice.specs.declared.dual.Dual.{Dual}
use Rattle.fix_solver.specs.Graphs.{name_of, sources_of, Leads}

-- the number of a name's first letter in the alphabet, from 1 on, or 0 for the empty name
abbrev pub letter_of : List ℕ → ℕ
letter_of name = slice_index_or name 0 0 % 32

-- the name's length, or 255 where that is longer
abbrev pub length_of : List ℕ → ℕ
length_of name = min (length name) 255

-- lengths in their order, up to 255
abbrev pub IsLength : ℕ → Type 0
IsLength n = n ≤ 255

-- for each letter a length, where 255 is that of no name
abbrev pub IsNames : List (ℕ × Dual ℕ) → Type 0
IsNames = IsMap nat_cmp (λ x. IsLength x.inner) (dual_of 255)

abbrev pub names_leq : List (ℕ × Dual ℕ) → List (ℕ × Dual ℕ) → Bool
names_leq = map_leq nat_cmp (dual_leq nat_le) (dual_of 255)

-- the length at a letter
abbrev pub at : List (ℕ × Dual ℕ) → ℕ → ℕ
at m letter = (value_at nat_cmp (dual_of 255) m letter).inner

-- a map by its length at each of so many letters, from letter k on
unfoldable pub table : (ℕ → ℕ) → ℕ → ℕ → List (ℕ × Dual ℕ)
table f k zero = []
table f k (suc n) = if nat_eq (f k) 255 then table f (k + 1) n else ((k, dual_of (f k)) ∷ table f (k + 1) n)

-- the name of a node, at its first letter
abbrev pub own_length : List ℕ → ℕ → ℕ
own_length name letter = if nat_eq letter (letter_of name) then length_of name else 255

abbrev pub own_at : List (List ℕ × List ℕ) → ℕ → List (ℕ × Dual ℕ)
own_at graph n = table (own_length (name_of graph n)) 0 32

-- at each letter the shorter length
abbrev pub shorter : List (ℕ × Dual ℕ) → List (ℕ × Dual ℕ) → List (ℕ × Dual ℕ)
shorter x y = table (λ letter. min (at x letter) (at y letter)) 0 32

-- a chain of edges leads to the node from one whose name begins with the letter and has this length
abbrev pub Comes : List (List ℕ × List ℕ) → ℕ → ℕ → ℕ → Type 0
Comes graph n letter long = (m : ℕ) × Leads (sources_of graph) m n × (letter_of (name_of graph m) ≡ letter) × (length_of (name_of graph m) ≡ long)

-- each length is one that comes
abbrev pub IsTold : List (List ℕ × List ℕ) → ℕ → List (ℕ × Dual ℕ) → Type 0
IsTold graph n v = (letter : ℕ) → (at v letter ≡ 255) ⊎ Comes graph n letter (at v letter)

-- the length is the least of those that come at the letter, or 255
pub record IsShortest (graph : List (List ℕ × List ℕ)) (n letter long : ℕ) : Type 0 where
  pub told : (long ≡ 255) ⊎ Comes graph n letter long
  pub least : (other : ℕ) → Comes graph n letter other → long ≤ other

-- over so many letters
unfoldable pub total : (ℕ → ℕ) → ℕ → ℕ
total f zero = 0
total f (suc n) = f n + total f n

-- how far the lengths may still fall
abbrev pub falls_left : List (ℕ × Dual ℕ) → ℕ
falls_left v = total (at v) 32
