-- Graphs of named nodes: for each node its name, and the nodes from which an edge leads to it.
use Rattle.std.specs.Prelude.{ℕ, ◌<◌, List, [], All, Contains, length, slice_index_or}

abbrev pub name_of : List (List ℕ × List ℕ) → ℕ → List ℕ
name_of graph n = (slice_index_or graph n ([], [])).0

abbrev pub sources_of : List (List ℕ × List ℕ) → ℕ → List ℕ
sources_of graph n = (slice_index_or graph n ([], [])).1

-- each edge comes from a node
abbrev pub IsGraph : List (List ℕ × List ℕ) → Type 0
IsGraph graph = All (λ (node : List ℕ × List ℕ). All (λ m. m < length graph) node.1) graph

-- a chain of edges leads from one node to another, or the two are the same
pub data Leads (sources : ℕ → List ℕ) (from : ℕ) : ℕ → Type 0 where
  here : Leads sources from from
  along : (m n : ℕ) → Contains (sources n) m → Leads sources from m → Leads sources from n
