-- Finite maps in the order of their keys, where a key that has no entry has the bottom.
use Rattle.std.specs.Prelude.{◌≡◌, ◌≢◌, Bool, List, Option, Some, unwrap_or}
use Rattle.std.specs.List.{list_all}
use Rattle.std.specs.List.Sorted.{IsStrictlySortedBy}
use Rattle.std.specs.Map.{lookup, keys_of}
use Rattle.std.specs.BTreeMap.{is_at}
use Rattle.std.specs.declared.cmp.Ordering.{Ordering}

-- the value that is kept at a key
abbrev pub get : {K L : Type 0} → (K → K → Ordering) → List (K × L) → K → Option L
get cmp m key = lookup (is_at (cmp key)) m

-- the value at a key
abbrev pub value_at : {K L : Type 0} → (K → K → Ordering) → L → List (K × L) → K → L
value_at cmp bottom m key = unwrap_or (get cmp m key) bottom

-- whether each value is below that of the second map at its key
abbrev pub map_leq : {K L : Type 0} → (K → K → Ordering) → (L → L → Bool) → L → List (K × L) → List (K × L) → Bool
map_leq {K} {L} cmp leq bottom m n = list_all (λ (e : K × L). leq e.1 (value_at cmp bottom n e.0)) m

-- the keys rise, and each value that is kept is a value of its type and not the bottom
pub record IsMap {K L : Type 0} (cmp : K → K → Ordering) (is_value : L → Type 0) (bottom : L) (m : List (K × L)) : Type 0 where
  pub ordered : IsStrictlySortedBy cmp (keys_of m)
  pub kept : (key : K) (v : L) → get cmp m key ≡ Some v → is_value v × (v ≢ bottom)
