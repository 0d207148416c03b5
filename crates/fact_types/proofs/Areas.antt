-- Runs from the first unit of an area on.
use Rattle.std.proofs.Common.{◌≡◌, ℕ, ◌-◌, ◌<◌, Bool, true, false, not, ◌&&◌, List, nat_lt, refl, ap, sym, ◌∙◌, arith}
use Rattle.std.specs.declared.cmp.Ordering.{Ordering}
use Rattle.std.specs.declared.cmp.Ordering.TheVariants.{Less, Equal, Greater}
use Rattle.std.specs.Ordering.{MatchOrdering, ordering_then, ordering_reverse, is_eq, is_gt, nat_cmp}
use Rattle.std.specs.Cmp.Lexicographic.{slice_cmp}
use Rattle.std.proofs.lemmas.Cmp.{ranked, nat_list_cmp_total}
use Rattle.f77_tree.specs.declared.unit.Item.{Item}
use Rattle.f77_tree.specs.declared.unit.Item.TheVariants.{Dummy, Local, Common}
use Rattle.iv_set.specs.Toggles.{either, both}
use Rattle.iv_set.specs.Places.{between}
use Rattle.fact_types.specs.Own.{in_dummies, in_local, in_area}

-- from 0 to the last below the size
from_none : (k : ℕ) (r : Ordering) → MatchOrdering r (0 < k) (0 ≡ k) (k < 0) → is_gt r ≡ false
from_none k Less h = refl
from_none k Equal h = refl
from_none k Greater h = absurd (omega arith)

below_by : (k n : ℕ) (r : Ordering) → 0 < n → MatchOrdering r (k < n - 1) (k ≡ n - 1) (n - 1 < k) → not (is_gt r) ≡ nat_lt k n
below_by k n Less b h = grind arith
below_by k n Equal b h = grind arith
below_by k n Greater b h = grind arith

counted : (k n : ℕ) → 0 < n → not (is_gt (nat_cmp 0 k)) && not (is_gt (nat_cmp k (n - 1))) ≡ nat_lt k n
counted k n b = ap (λ s. not s && not (is_gt (nat_cmp k (n - 1)))) (from_none k (nat_cmp 0 k) (ranked 0 k _ refl)) ∙ below_by k n (nat_cmp k (n - 1)) b (ranked k (n - 1) _ refl)

pub dummies_run : (n : ℕ) → 0 < n → (i : Item) → between (Dummy 0) (Dummy (n - 1)) i ≡ in_dummies n i
dummies_run n b (Dummy d) = counted d n b
dummies_run n b (Local k) = refl
dummies_run n b (Common name k) = refl

pub local_run : (n : ℕ) → 0 < n → (i : Item) → between (Local 0) (Local (n - 1)) i ≡ in_local n i
local_run n b (Dummy d) = refl
local_run n b (Local k) = counted k n b
local_run n b (Common name k) = refl

in_block : (r x y : Ordering) (s : Bool) → not (is_gt x) && not (is_gt y) ≡ s → not (is_gt (ordering_then r x)) && not (is_gt (ordering_then (ordering_reverse r) y)) ≡ both (is_eq r) s
in_block Less x y s e = refl
in_block Equal x y s e = e
in_block Greater x y s e = refl

pub area_run : (name : List ℕ) (n : ℕ) → 0 < n → (i : Item) → between (Common name 0) (Common name (n - 1)) i ≡ in_area name n i
area_run name n b (Dummy d) = refl
area_run name n b (Local k) = refl
area_run name n b (Common block k) =
    ap (λ r. not (is_gt (ordering_then (slice_cmp nat_cmp name block) (nat_cmp 0 k))) && not (is_gt (ordering_then r (nat_cmp k (n - 1))))) (nat_list_cmp_total.antisymm block name)
    ∙ in_block (slice_cmp nat_cmp name block) (nat_cmp 0 k) (nat_cmp k (n - 1)) (nat_lt k n) (counted k n b)

-- an area without units
none_below : (k : ℕ) → nat_lt k 0 ≡ false
none_below k = grind arith

off : (s t : Bool) → t ≡ false → s ≡ either s t
off true t e = refl
off false t e = sym e

pub no_dummies : (s : Bool) (n : ℕ) → n ≡ 0 → (i : Item) → s ≡ either s (in_dummies n i)
no_dummies s n e (Dummy d) = off s (nat_lt d n) (ap (nat_lt d) e ∙ none_below d)
no_dummies s n e (Local k) = off s false refl
no_dummies s n e (Common name k) = off s false refl

pub no_local : (s : Bool) (n : ℕ) → n ≡ 0 → (i : Item) → s ≡ either s (in_local n i)
no_local s n e (Dummy d) = off s false refl
no_local s n e (Local k) = off s (nat_lt k n) (ap (nat_lt k) e ∙ none_below k)
no_local s n e (Common name k) = off s false refl

both_off : (s t : Bool) → t ≡ false → both s t ≡ false
both_off true t e = e
both_off false t e = refl

pub no_area : (s : Bool) (name : List ℕ) (n : ℕ) → n ≡ 0 → (i : Item) → s ≡ either s (in_area name n i)
no_area s name n e (Dummy d) = off s false refl
no_area s name n e (Local k) = off s false refl
no_area s name n e (Common block k) = off s (in_area name n (Common block k)) (both_off (is_eq (slice_cmp nat_cmp name block)) (nat_lt k n) (ap (nat_lt k) e ∙ none_below k))
