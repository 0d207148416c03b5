-- The first of several faults.
use Rattle.std.proofs.Common.{◌≡◌, ℕ, Bool, true, false, cond, Some, None, refl, sym, ◌⊎◌, inl, inr, arith}
use Rattle.std.specs.Bool.{MatchBool}
use Rattle.std.specs.declared.option.Option.{Option}
use Rattle.std.proofs.lemmas.Bool.Decides.{nat_tests}
use Rattle.fault_marks.specs.declared.marks.Mark.{Mark}
use Rattle.fault_marks.specs.Marks.{comes_first, IsFirst}
use Rattle.fault_marks.specs.Earliest.{first_of, mark_if, Earliest}
use Rattle.fault_marks.specs.Places.{Marks}

pub same_first : (a b : Mark) → a.line ≡ b.line → a.number ≡ b.number → a.limit ≡ b.limit → comes_first a b ≡ true
same_first a b l n m = grind (arith, nat_tests)

other_first : (a b : Mark) → comes_first a b ≡ false → comes_first b a ≡ true
other_first a b h = grind (arith, nat_tests)

then_first : (a b c : Mark) → comes_first a b ≡ true → comes_first b c ≡ true → comes_first a c ≡ true
then_first a b c h k = grind (arith, nat_tests)

-- ---- of two kinds

pub mapped : (P Q : Mark → Type 0) (a : Option Mark) → ((m : Mark) → P m → Q m) → ((m : Mark) → Q m → P m) → Earliest P a → Earliest Q a
mapped P Q None to from h = λ m q. h m (from m q)
mapped P Q (Some a) to from h = record { shows = to a h.shows; first = λ m q. h.first m (from m q) }

either_first : (P Q : Mark → Type 0) (a b : Mark) (test : Bool) → comes_first a b ≡ test → IsFirst P a → IsFirst Q b → Earliest (λ m. P m ⊎ Q m) (cond test (Some a) (Some b))
either_first P Q a b true e h k = record { shows = inl h.shows; first = go }
  where
    go : (m : Mark) → P m ⊎ Q m → comes_first a m ≡ true
    go m (inl p) = h.first m p
    go m (inr q) = then_first a b m e (k.first m q)
either_first P Q a b false e h k = record { shows = inr k.shows; first = go }
  where
    go : (m : Mark) → P m ⊎ Q m → comes_first b m ≡ true
    go m (inl p) = then_first b a m (other_first a b e) (h.first m p)
    go m (inr q) = k.first m q

pub either : (P Q : Mark → Type 0) (a b : Option Mark) → Earliest P a → Earliest Q b → Earliest (λ m. P m ⊎ Q m) (first_of a b)
either P Q None None h k = neither
  where
    neither : (m : Mark) → P m ⊎ Q m → ⊥
    neither m (inl p) = h m p
    neither m (inr q) = k m q
either P Q None (Some b) h k = record { shows = inr k.shows; first = go }
  where
    go : (m : Mark) → P m ⊎ Q m → comes_first b m ≡ true
    go m (inl p) = absurd (h m p)
    go m (inr q) = k.first m q
either P Q (Some a) None h k = record { shows = inl h.shows; first = go }
  where
    go : (m : Mark) → P m ⊎ Q m → comes_first a m ≡ true
    go m (inl p) = h.first m p
    go m (inr q) = absurd (k m q)
either P Q (Some a) (Some b) h k = either_first P Q a b (comes_first a b) refl h k

-- ---- of one kind

pub marked : (H : Type 0) (holds : Bool) (line number limit : ℕ) → MatchBool holds H (H → ⊥) → Earliest (Marks H line number limit) (mark_if holds line number limit)
marked H true line number limit h = record { shows = record { holds = h; line_is = refl; number_is = refl; limit_is = refl }; first = λ m k. same_first (record { line = line; number = number; limit = limit }) m (sym k.line_is) (sym k.number_is) (sym k.limit_is) }
marked H false line number limit h = λ m k. h k.holds
