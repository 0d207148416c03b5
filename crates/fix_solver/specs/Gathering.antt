-- Systems in which a node's value is one of its own, joined with those of its sources.
use Rattle.std.specs.Prelude.{ℕ, Bool, IsTrue, List, All, fold, slice_index_or}

-- the value, joined with those at the places one after another
abbrev pub gather : {V : Type 0} → (V → V → V) → V → List ℕ → (ℕ → V) → V
gather join own places at = fold (λ all m. join all (at m)) own places

-- what a node's equation gives
abbrev pub gather_at : {V : Type 0} → (V → V → V) → (ℕ → V) → (ℕ → List ℕ) → ℕ → List V → V
gather_at join own sources n values = gather join (own n) (sources n) (λ m. slice_index_or values m (own n))

-- the least upper bound of a value and of those at the places
pub record IsGathered {V : Type 0} (is_value : V → Type 0) (leq : V → V → Bool) (own : V) (places : List ℕ) (at : ℕ → V) (all : V) : Type 0 where
  pub value : is_value all
  pub above_own : IsTrue (leq own all)
  pub above : All (λ m. IsTrue (leq (at m) all)) places
  pub least : (w : V) → is_value w → IsTrue (leq own w) → All (λ m. IsTrue (leq (at m) w)) places → IsTrue (leq all w)
