-- Systems of equations over a lattice, one for each node, and their solutions.
use Rattle.std.specs.Prelude.{◌≡◌, ◌≢◌, ℕ, ◌<◌, Bool, IsTrue, List, All, length, sum_by, slice_index_or}
use Rattle.std.specs.List.{range_with_len}
use Rattle.rn_lattice.specs.Order.{IsJoin}

module _ {V : Type 0} (is_value : V → Type 0) (fits : ℕ → V → Type 0) (count : ℕ) where
  -- a value for each node, which fits it
  pub record IsFitting (values : List V) : Type 0 where
    pub whole : length values ≡ count
    pub value : (n : ℕ) (d : V) → n < count → is_value (slice_index_or values n d)
    pub fit : (n : ℕ) (d : V) → n < count → fits n (slice_index_or values n d)

  -- each value is what its node's equation gives of the values
  pub record IsSolution (evaluate : ℕ → List V → V) (values : List V) : Type 0 where
    pub fitting : IsFitting values
    pub solves : (n : ℕ) (d : V) → n < count → slice_index_or values n d ≡ evaluate n values

-- each value of the first list is below that of the second
abbrev pub IsBelow : {V : Type 0} → (V → V → Bool) → ℕ → List V → List V → Type 0
IsBelow {V} leq count low high = (n : ℕ) (d : V) → n < count → IsTrue (leq (slice_index_or low n d) (slice_index_or high n d))

-- the values of these nodes are no higher in the first list than in the second
abbrev pub IsBelowAt : {V : Type 0} → (V → V → Bool) → List ℕ → List V → List V → Type 0
IsBelowAt {V} leq nodes low high = All (λ m. (d : V) → IsTrue (leq (slice_index_or low m d) (slice_index_or high m d))) nodes

-- what a system keeps to: the sources of its nodes, the values that fit them, how far those can rise, and what the equations give
pub record IsSystem {V : Type 0} (is_value : V → Type 0) (leq : V → V → Bool) (bottom : V) (count : ℕ) (sources : ℕ → List ℕ)
    (fits : ℕ → V → Type 0) (rank : ℕ → V → ℕ) (evaluate : ℕ → List V → V) : Type 0 where
  pub sources_below : (n : ℕ) → n < count → All (λ m. m < count) (sources n)
  pub bottom_fits : (n : ℕ) → n < count → fits n bottom
  pub evaluate_value : (n : ℕ) (values : List V) → n < count → IsFitting is_value fits count values → is_value (evaluate n values)
  pub evaluate_fits : (n : ℕ) (values : List V) → n < count → IsFitting is_value fits count values → fits n (evaluate n values)
  pub join_fits : (n : ℕ) (x y z : V) → n < count → is_value x → is_value y → fits n x → fits n y → IsJoin is_value leq x y z → fits n z
  pub rank_falls : (n : ℕ) (x y : V) → n < count → is_value x → is_value y → fits n x → fits n y → IsTrue (leq x y) → x ≢ y → rank n y < rank n x
  pub monotone : (n : ℕ) (low high : List V) → n < count → IsFitting is_value fits count low → IsFitting is_value fits count high → IsBelowAt leq (sources n) low high → IsTrue (leq (evaluate n low) (evaluate n high))

-- over all edges, what f gives of the edge's source
abbrev pub edge_sum : (ℕ → ℕ) → ℕ → (ℕ → List ℕ) → ℕ
edge_sum f count sources = sum_by (λ n. sum_by f (sources n)) (range_with_len 0 count)

-- each source has a smaller number than its node
abbrev pub IsOrderly : ℕ → (ℕ → List ℕ) → Type 0
IsOrderly count sources = (n : ℕ) → n < count → All (λ m. m < n) (sources n)
