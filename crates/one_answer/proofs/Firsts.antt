-- There is one first fault of those that show.
use Rattle.std.proofs.Common.{◌≡◌, ℕ, Bool, true, false, cond, ◌==◌, Some, None, sym, ap, arith}
use Rattle.std.specs.declared.option.Option.{Option}
use Rattle.std.specs.Prelude.{nat_lt, nat_le}
use Rattle.std.proofs.lemmas.Bool.Decides.{nat_tests}
use Rattle.fault_marks.specs.declared.marks.Mark.{Mark}
use Rattle.fault_marks.specs.Marks as m
use Rattle.call_cycles.specs.declared.marks.ProgramMark.{ProgramMark}
use Rattle.call_cycles.specs.Marks as c

-- ---- one number in two orders

same_number : (x y : ℕ) (r s : Bool) → cond (x == y) r (nat_lt x y) ≡ true → cond (y == x) s (nat_lt y x) ≡ true → x ≡ y
same_number x y true true h k = grind (arith, nat_tests)
same_number x y true false h k = grind (arith, nat_tests)
same_number x y false true h k = grind (arith, nat_tests)
same_number x y false false h k = grind (arith, nat_tests)

others : (x y : ℕ) (r : Bool) → x ≡ y → cond (x == y) r (nat_lt x y) ≡ true → r ≡ true
others x y r e h = grind (arith, nat_tests)

same_last : (x y : ℕ) → nat_le x y ≡ true → nat_le y x ≡ true → x ≡ y
same_last x y h k = grind (arith, nat_tests)

-- ---- faults of a unit

same_mark : (a b : Mark) → m.comes_first a b ≡ true → m.comes_first b a ≡ true → a ≡ b
same_mark a b h k =
    let line = same_number a.line b.line _ _ h k in
    let h1 = others a.line b.line _ line h in
    let k1 = others b.line a.line _ (sym line) k in
    let number = same_number a.number b.number _ _ h1 k1 in
    let limit = same_last a.limit b.limit (others b.number a.number _ (sym number) k1) (others a.number b.number _ number h1) in
    λ i. record { line = line i; number = number i; limit = limit i }

pub one_mark : (Shows : Mark → Type 0) (a b : Mark) → m.IsFirst Shows a → m.IsFirst Shows b → a ≡ b
one_mark Shows a b h k = same_mark a b (h.first b k.shows) (k.first a h.shows)

-- ---- faults of a program

same_place : (p q : Option ℕ) → c.unit_place p ≡ c.unit_place q → p ≡ q
same_place None None e = cc
same_place None (Some y) e = absurd (omega (arith, e))
same_place (Some x) None e = absurd (omega (arith, e))
same_place (Some x) (Some y) e = let z : x ≡ y = omega (arith, e) in ap Some z

same_program_mark : (a b : ProgramMark) → c.comes_first a b ≡ true → c.comes_first b a ≡ true → a ≡ b
same_program_mark a b h k =
    let number = same_number a.number b.number _ _ h k in
    let h1 = others a.number b.number _ number h in
    let k1 = others b.number a.number _ (sym number) k in
    let limit = same_number a.limit b.limit _ _ h1 k1 in
    let h2 = others a.limit b.limit _ limit h1 in
    let k2 = others b.limit a.limit _ (sym limit) k1 in
    let place = same_number (c.unit_place a.unit) (c.unit_place b.unit) _ _ h2 k2 in
    let unit = same_place a.unit b.unit place in
    let line = same_last a.line b.line (others (c.unit_place a.unit) (c.unit_place b.unit) _ place h2) (others (c.unit_place b.unit) (c.unit_place a.unit) _ (sym place) k2) in
    λ i. record { number = number i; limit = limit i; unit = unit i; line = line i }

pub one_program_mark : (Shows : ProgramMark → Type 0) (a b : ProgramMark) → c.IsFirst Shows a → c.IsFirst Shows b → a ≡ b
one_program_mark Shows a b h k = same_program_mark a b (h.first b k.shows) (k.first a h.shows)
