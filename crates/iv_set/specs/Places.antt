-- Items of storage in their order: dummies, local units, units of blocks by name, each by offset.
use Rattle.std.specs.Prelude.{◌≡◌, ◌≤◌, ℕ, Bool, not, ◌&&◌, ◌+◌, ◌^◌, List, [], ◌∷◌, nat_lt, refl}
use Rattle.std.proofs.Common.{ap}
use Rattle.std.specs.declared.cmp.Ordering.{Ordering}
use Rattle.std.specs.declared.cmp.Ordering.TheVariants.{Less, Equal, Greater}
use Rattle.std.specs.Ordering.{ordering_then, nat_cmp, is_gt, then_cmp}
use Rattle.std.specs.Cmp.{IsTotalOrder}
use Rattle.std.specs.Cmp.Lexicographic.{slice_cmp}
use Rattle.std.proofs.lemmas.Cmp.{on_total, then_total, nat_cmp_total, nat_list_cmp_total}
use Rattle.std.proofs.lemmas.Map.Lookups.{CmpEqualImpliesEq, exact_unsigned, exact_bytes}
use Rattle.f77_tree.specs.declared.unit.Item.{Item}
use Rattle.f77_tree.specs.declared.unit.Item.TheVariants.{Dummy, Local, Common}
use Rattle.iv_set.specs.declared.bound.Area.{Area}
use Rattle.iv_set.specs.declared.bound.Area.TheVariants as area
use Rattle.iv_set.specs.declared.bound.Bound.{Bound}

abbrev pub rank : Area → ℕ
rank area.Dummies = 0
rank area.Local = 1
rank (area.Block name) = 2

abbrev pub block : Area → List ℕ
block area.Dummies = []
block area.Local = []
block (area.Block name) = name

abbrev pub area_cmp : Area → Area → Ordering
area_cmp = then_cmp (λ a b. nat_cmp (rank a) (rank b)) (λ a b. slice_cmp nat_cmp (block a) (block b))

abbrev pub cmp : Bound → Bound → Ordering
cmp = then_cmp (λ p q. area_cmp p.area q.area) (λ p q. nat_cmp p.offset q.offset)

pub area_total : IsTotalOrder area_cmp
area_total = then_total (on_total rank nat_cmp_total) (on_total block nat_list_cmp_total)

pub total : IsTotalOrder cmp
total = then_total (on_total (λ (p : Bound). p.area) area_total) (on_total (λ (p : Bound). p.offset) nat_cmp_total)

split : (a b : Ordering) → ordering_then a b ≡ Equal → (a ≡ Equal) × (b ≡ Equal)
split Less b e = absurd (cc)
split Equal b e = (refl, e)
split Greater b e = absurd (cc)

area_exact : (a b : Area) → area_cmp a b ≡ Equal → a ≡ b
area_exact area.Dummies area.Dummies e = refl
area_exact area.Dummies area.Local e = absurd (cc)
area_exact area.Dummies (area.Block n) e = absurd (cc)
area_exact area.Local area.Dummies e = absurd (cc)
area_exact area.Local area.Local e = refl
area_exact area.Local (area.Block n) e = absurd (cc)
area_exact (area.Block m) area.Dummies e = absurd (cc)
area_exact (area.Block m) area.Local e = absurd (cc)
area_exact (area.Block m) (area.Block n) e = ap area.Block (exact_bytes m n e)

pub exact : CmpEqualImpliesEq cmp
exact p q e =
    let k = split _ _ e in
    λ i. record { area = area_exact p.area q.area k.0 i; offset = exact_unsigned p.offset q.offset k.1 i }

abbrev pub place_of : Item → Bound
place_of (Dummy at) = record { area = area.Dummies; offset = at }
place_of (Local at) = record { area = area.Local; offset = at }
place_of (Common name at) = record { area = area.Block name; offset = at }

abbrev pub next_place : Item → Bound
next_place i = let p = place_of i in record { area = p.area; offset = p.offset + 1 }

-- whether there is an item at the place
abbrev pub is_item : Bound → Bool
is_item p = nat_lt p.offset (2 ^ 32)

-- what holds at the place of each item holds at each place
at_area : (Q : Bound → Type 0) → ((i : Item) → Q (place_of i)) → (a : Area) (n : ℕ) → Q (record { area = a; offset = n })
at_area Q h area.Dummies n = h (Dummy n)
at_area Q h area.Local n = h (Local n)
at_area Q h (area.Block name) n = h (Common name n)

pub by_items : (Q : Bound → Type 0) → ((i : Item) → Q (place_of i)) → (p : Bound) → Q p
by_items Q h p = at_area Q h p.area p.offset

-- both ends of a run lie in one area, and in order
pub record IsRun (from to : Item) : Type 0 where
  pub area : (place_of from).area ≡ (place_of to).area
  pub order : (place_of from).offset ≤ (place_of to).offset

-- whether the item lies in the run
abbrev pub between : Item → Item → Item → Bool
between from to i = not (is_gt (cmp (place_of from) (place_of i))) && not (is_gt (cmp (place_of i) (place_of to)))

-- the ends of a run
abbrev pub run : Item → Item → List Bound
run from to = place_of from ∷ next_place to ∷ []
