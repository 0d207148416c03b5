-- The first of several faults.
use Rattle.std.proofs.Common.{◌≡◌, ℕ, suc, ◌+◌, ◌<◌, ◌≤◌, Bool, true, false, cond, Some, None, refl, sym, subst, ◌⊎◌, inl, inr, arith}
use Rattle.std.specs.declared.option.Option.{Option}
use Rattle.std.specs.Prelude.{nat_le}
use Rattle.std.proofs.lemmas.Bool.Decides.{nat_tests}
use Rattle.call_cycles.specs.declared.marks.ProgramMark.{ProgramMark}
use Rattle.call_cycles.specs.Marks.{unit_place, ordered, comes_first, IsFirst, first_of, Earliest}
use Rattle.call_cycles.specs.Marks.{mark_at}

-- ---- the order

ordered_same : (x : ℕ) (r : Bool) → r ≡ true → ordered x x r ≡ true
ordered_same x r h = grind (arith, nat_tests)

ordered_other : (x y : ℕ) (r s : Bool) → (r ≡ false → s ≡ true) → ordered x y r ≡ false → ordered y x s ≡ true
ordered_other x y true s f h = grind (arith, nat_tests)
ordered_other x y false s f h = let k : s ≡ true = f refl in grind (arith, nat_tests)

ordered_then : (x y z : ℕ) (r s t : Bool) → (r ≡ true → s ≡ true → t ≡ true) → ordered x y r ≡ true → ordered y z s ≡ true → ordered x z t ≡ true
ordered_then x y z true true t f h k = let l : t ≡ true = f refl refl in grind (arith, nat_tests)
ordered_then x y z false s t f h k = grind (arith, nat_tests)
ordered_then x y z true false t f h k = grind (arith, nat_tests)

other_line : (x y : ℕ) → nat_le x y ≡ false → nat_le y x ≡ true
other_line x y h = grind (arith, nat_tests)

then_line : (x y z : ℕ) → nat_le x y ≡ true → nat_le y z ≡ true → nat_le x z ≡ true
then_line x y z h k = grind (arith, nat_tests)

other_first : (a b : ProgramMark) → comes_first a b ≡ false → comes_first b a ≡ true
other_first a b h =
    ordered_other a.number b.number _ _ (ordered_other a.limit b.limit _ _ (ordered_other (unit_place a.unit) (unit_place b.unit) _ _ (other_line a.line b.line))) h

then_first : (a b c : ProgramMark) → comes_first a b ≡ true → comes_first b c ≡ true → comes_first a c ≡ true
then_first a b c h k =
    ordered_then a.number b.number c.number _ _ _
    (ordered_then a.limit b.limit c.limit _ _ _
    (ordered_then (unit_place a.unit) (unit_place b.unit) (unit_place c.unit) _ _ _ (then_line a.line b.line c.line))) h k

line_first : (x y : ℕ) → x ≤ y → nat_le x y ≡ true
line_first x y h = grind (arith, nat_tests)

later_unit : (p q : ℕ) (r : Bool) → p < q → ordered (unit_place (Some p)) (unit_place (Some q)) r ≡ true
later_unit p q r h = grind (arith, nat_tests)

-- of one number, at a later unit
pub earlier_unit : (n l p q x y : ℕ) → p < q → comes_first (mark_at n l (Some p) x) (mark_at n l (Some q) y) ≡ true
earlier_unit n l p q x y h = ordered_same n _ (ordered_same l _ (later_unit p q (nat_le x y) h))

-- of one number, in one unit, at a later line
pub earlier_line : (n l p x y : ℕ) → x ≤ y → comes_first (mark_at n l (Some p) x) (mark_at n l (Some p) y) ≡ true
earlier_line n l p x y h = ordered_same n _ (ordered_same l _ (ordered_same (suc p) _ (line_first x y h)))

pub nowhere_first : (n l x : ℕ) → comes_first (mark_at n l None x) (mark_at n l None x) ≡ true
nowhere_first n l x = ordered_same n _ (ordered_same l _ (ordered_same 0 _ (line_first x x (omega arith))))

-- ---- of two kinds

pub mapped : (P Q : ProgramMark → Type 0) (a : Option ProgramMark) → ((m : ProgramMark) → P m → Q m) → ((m : ProgramMark) → Q m → P m) → Earliest P a → Earliest Q a
mapped P Q None to from h = λ m q. h m (from m q)
mapped P Q (Some a) to from h = record { shows = to a h.shows; first = λ m q. h.first m (from m q) }

either_first : (P Q : ProgramMark → Type 0) (a b : ProgramMark) (test : Bool) → comes_first a b ≡ test → IsFirst P a → IsFirst Q b → Earliest (λ m. P m ⊎ Q m) (cond test (Some a) (Some b))
either_first P Q a b true e h k = record { shows = inl h.shows; first = go }
  where
    go : (m : ProgramMark) → P m ⊎ Q m → comes_first a m ≡ true
    go m (inl p) = h.first m p
    go m (inr q) = then_first a b m e (k.first m q)
either_first P Q a b false e h k = record { shows = inr k.shows; first = go }
  where
    go : (m : ProgramMark) → P m ⊎ Q m → comes_first b m ≡ true
    go m (inl p) = then_first b a m (other_first a b e) (h.first m p)
    go m (inr q) = k.first m q

pub either : (P Q : ProgramMark → Type 0) (a b : Option ProgramMark) → Earliest P a → Earliest Q b → Earliest (λ m. P m ⊎ Q m) (first_of a b)
either P Q None None h k = neither
  where
    neither : (m : ProgramMark) → P m ⊎ Q m → ⊥
    neither m (inl p) = h m p
    neither m (inr q) = k m q
either P Q None (Some b) h k = record { shows = inr k.shows; first = go }
  where
    go : (m : ProgramMark) → P m ⊎ Q m → comes_first b m ≡ true
    go m (inl p) = absurd (h m p)
    go m (inr q) = k.first m q
either P Q (Some a) None h k = record { shows = inl h.shows; first = go }
  where
    go : (m : ProgramMark) → P m ⊎ Q m → comes_first a m ≡ true
    go m (inl p) = h.first m p
    go m (inr q) = absurd (k m q)
either P Q (Some a) (Some b) h k = either_first P Q a b (comes_first a b) refl h k
