-- Runs that are gone through together.
use Rattle.std.proofs.Common.{◌≡◌, ℕ, zero, suc, ◌+◌, ◌-◌, ◌<◌, ◌≤◌, ◌⊎◌, inl, inr, Bool, true, false, not, ◌&&◌, ◌||◌, List, [], ◌∷◌, ◌++◌, length, drop, replicate, get_or, refl, ap, ap₂, sym, ◌∙◌, arith, add-one}
use Rattle.std.proofs.Math.Dec.{eqb-suc-suc, eqb-suc-zero, eqb-zero-suc}
use Rattle.std.proofs.lemmas.Bool.{false≢true, ltb-false}
use Rattle.std.proofs.lemmas.List.{drop_more, drop_all}
use Rattle.std.proofs.lemmas.Bool.Decides.{nat_tests}
use Rattle.std.specs.Prelude.{Option, nat_lt, ◌==◌}
use Rattle.std.specs.List.{list_any, zip}
use Rattle.f77_tree.specs.declared.unit.Ty.{Ty}
use Rattle.check_data.specs.declared.runs.Run.{Run}
use Rattle.check_data.specs.declared.runs.Pairing.{Pairing}
use Rattle.check_data.specs.DataRuns.{types, clash, unlike}
use Rattle.check_data.specs.Pairing.{count_at, type_at, left_from, unlike_from, clashes, IsWithin}

unlike_more : (all : Bool) (x y : Option Ty) (xs ys : List (Option Ty)) → clash x y ≡ false → unlike all (x ∷ xs) (y ∷ ys) ≡ unlike all xs ys
unlike_more all x y xs ys h =
    ap (λ b. (b || list_any (λ pair. clash pair.0 pair.1) (zip xs ys)) || (all && not (suc (length xs) == suc (length ys)))) h
    ∙ ap (λ b. list_any (λ pair. clash pair.0 pair.1) (zip xs ys) || (all && not b)) (eqb-suc-suc (length xs) (length ys))

consume : (all : Bool) (x y : Option Ty) (xs ys : List (Option Ty)) (p q d : ℕ) → q ≡ p + d → (p ≡ 0) ⊎ (clash x y ≡ false) → unlike all (replicate p x ++ xs) (replicate q y ++ ys) ≡ unlike all xs (replicate d y ++ ys)
consume all x y xs ys zero q d e h = ap (λ n. unlike all xs (replicate n y ++ ys)) (let f : q ≡ d = omega arith in f)
consume all x y xs ys (suc p) zero d e h = absurd (omega arith)
consume all x y xs ys (suc p) (suc q) d e (inl z) = absurd (omega arith)
consume all x y xs ys (suc p) (suc q) d e (inr c) = unlike_more all x y (replicate p x ++ xs) (replicate q y ++ ys) c ∙ consume all x y xs ys p q d (omega arith) (inr c)

consume_constants : (all : Bool) (x y : Option Ty) (xs ys : List (Option Ty)) (p q d : ℕ) → p ≡ q + d → (q ≡ 0) ⊎ (clash x y ≡ false) → unlike all (replicate p x ++ xs) (replicate q y ++ ys) ≡ unlike all (replicate d x ++ xs) ys
consume_constants all x y xs ys p zero d e h = ap (λ n. unlike all (replicate n x ++ xs) ys) (let f : p ≡ d = omega arith in f)
consume_constants all x y xs ys zero (suc q) d e h = absurd (omega arith)
consume_constants all x y xs ys (suc p) (suc q) d e (inl z) = absurd (omega arith)
consume_constants all x y xs ys (suc p) (suc q) d e (inr c) = unlike_more all x y (replicate p x ++ xs) (replicate q y ++ ys) c ∙ consume_constants all x y xs ys p q d (omega arith) (inr c)

-- from the beginning of a run on
pub from_run : (runs : List Run) (k : ℕ) → left_from runs k (count_at runs k) ≡ types (drop k runs)
from_run [] zero = refl
from_run [] (suc k) = refl
from_run (r ∷ rs) zero = refl
from_run (r ∷ rs) (suc k) = from_run rs k

positive : (n : ℕ) → nat_lt 0 (suc n) ≡ true
positive n = grind (arith, nat_tests)

both_positive : (p q : ℕ) (b : Bool) → (nat_lt 0 (suc p) && (nat_lt 0 (suc q) && b)) ≡ b
both_positive p q b = ap₂ (λ x y. x && (y && b)) (positive p) (positive q)

no_clash : (p q : ℕ) (b : Bool) → p ≤ q → (nat_lt 0 p && (nat_lt 0 q && b)) ≡ false → (p ≡ 0) ⊎ (b ≡ false)
no_clash zero q b l h = inl refl
no_clash (suc p) zero b l h = absurd (omega arith)
no_clash (suc p) (suc q) b l h = inr (sym (both_positive p q b) ∙ h)

no_clash_constants : (p q : ℕ) (b : Bool) → q ≤ p → (nat_lt 0 p && (nat_lt 0 q && b)) ≡ false → (q ≡ 0) ⊎ (b ≡ false)
no_clash_constants p zero b l h = inl refl
no_clash_constants zero (suc q) b l h = absurd (omega arith)
no_clash_constants (suc p) (suc q) b l h = inr (sym (both_positive p q b) ∙ h)

-- the run of the items is used up
pub item_done : (all : Bool) (items constants : List Run) (at next : Pairing) → at.items_left ≤ at.constants_left → clashes items constants at ≡ false
    → next.item ≡ at.item + 1 → next.items_left ≡ count_at items next.item → next.constant ≡ at.constant → next.constants_left ≡ at.constants_left - at.items_left
    → unlike_from all items constants next ≡ unlike_from all items constants at
item_done all items constants at next l h i p j q =
    ap (λ n. unlike all (left_from items next.item n) (left_from constants next.constant next.constants_left)) p
    ∙ (ap (λ xs. unlike all xs (left_from constants next.constant next.constants_left)) (from_run items next.item ∙ ap (λ n. types (drop n items)) (i ∙ add-one at.item))
    ∙ (ap (λ n. unlike all (types (drop (suc at.item) items)) (left_from constants n next.constants_left)) j
    ∙ sym (consume all (type_at items at.item) (type_at constants at.constant) (types (drop (suc at.item) items)) (types (drop (suc at.constant) constants)) at.items_left at.constants_left next.constants_left
    (omega (arith, q, l)) (no_clash at.items_left at.constants_left (clash (type_at items at.item) (type_at constants at.constant)) l h))))

-- the run of the constants is used up
pub constant_done : (all : Bool) (items constants : List Run) (at next : Pairing) → at.constants_left ≤ at.items_left → clashes items constants at ≡ false
    → next.constant ≡ at.constant + 1 → next.constants_left ≡ count_at constants next.constant → next.item ≡ at.item → next.items_left ≡ at.items_left - at.constants_left
    → unlike_from all items constants next ≡ unlike_from all items constants at
constant_done all items constants at next l h j q i p =
    ap (λ n. unlike all (left_from items next.item next.items_left) (left_from constants next.constant n)) q
    ∙ (ap (λ ys. unlike all (left_from items next.item next.items_left) ys) (from_run constants next.constant ∙ ap (λ n. types (drop n constants)) (j ∙ add-one at.constant))
    ∙ (ap (λ n. unlike all (left_from items n next.items_left) (types (drop (suc at.constant) constants))) i
    ∙ sym (consume_constants all (type_at items at.item) (type_at constants at.constant) (types (drop (suc at.item) items)) (types (drop (suc at.constant) constants)) at.items_left at.constants_left next.items_left
    (omega (arith, p, l)) (no_clash_constants at.items_left at.constants_left (clash (type_at items at.item) (type_at constants at.constant)) l h))))

-- the first two that are left clash
first_clash : (all : Bool) (x y : Option Ty) (xs ys : List (Option Ty)) (p q : ℕ) → (nat_lt 0 p && (nat_lt 0 q && clash x y)) ≡ true → unlike all (replicate p x ++ xs) (replicate q y ++ ys) ≡ true
first_clash all x y xs ys zero q h = absurd (false≢true h)
first_clash all x y xs ys (suc p) zero h = absurd (false≢true (sym (ap (λ b. b && false) (positive p)) ∙ h))
first_clash all x y xs ys (suc p) (suc q) h = ap (λ b. (b || list_any (λ pair. clash pair.0 pair.1) (zip (replicate p x ++ xs) (replicate q y ++ ys))) || (all && not (suc (length (replicate p x ++ xs)) == suc (length (replicate q y ++ ys))))) (sym (both_positive p q (clash x y)) ∙ h)

pub clash_differs : (all : Bool) (items constants : List Run) (at : Pairing) → clashes items constants at ≡ true → unlike_from all items constants at ≡ true
clash_differs all items constants at h =
    first_clash all (type_at items at.item) (type_at constants at.constant) (types (drop (suc at.item) items)) (types (drop (suc at.constant) constants)) at.items_left at.constants_left h

-- ---- at the end

left_nothing : (runs : List Run) (k left : ℕ) → length runs ≤ k → left ≤ count_at runs k → left_from runs k left ≡ []
left_nothing [] k zero l h = refl
left_nothing [] k (suc left) l h = absurd (omega arith)
left_nothing (r ∷ rs) zero left l h = absurd (omega arith)
left_nothing (r ∷ rs) (suc k) left l h = left_nothing rs k left (omega arith) h

over : (a m b n : ℕ) (p q : Bool) → nat_lt a m ≡ p → nat_lt b n ≡ q → (p && q) ≡ false → (m ≤ a) ⊎ (n ≤ b)
over a m b n true true e f h = absurd (false≢true (sym h))
over a m b n true false e f h = inr (ltb-false b n f)
over a m b n false q e f h = inl (ltb-false a m e)

end_left : (all : Bool) (xs ys : List (Option Ty)) → (xs ≡ []) ⊎ (ys ≡ []) → (all && (not (length xs == 0) || not (length ys == 0))) ≡ unlike all xs ys
end_left all [] [] h = refl
end_left all [] (y ∷ ys) h = ap (λ b. all && not b) (eqb-suc-zero (length ys) ∙ sym (eqb-zero-suc (length ys)))
end_left all (x ∷ xs) [] h = ap (λ b. all && (not b || false)) (eqb-suc-zero (length xs)) ∙ sym (ap (λ b. all && not b) (eqb-suc-zero (length xs)))
end_left all (x ∷ xs) (y ∷ ys) (inl e) = absurd (cc)
end_left all (x ∷ xs) (y ∷ ys) (inr e) = absurd (cc)

pub at_end : (all : Bool) (items constants : List Run) (at : Pairing) → (nat_lt at.item (length items) && nat_lt at.constant (length constants)) ≡ false → IsWithin items constants at
    → (all && (not (length (left_from items at.item at.items_left) == 0) || not (length (left_from constants at.constant at.constants_left) == 0))) ≡ unlike_from all items constants at
at_end all items constants at h w =
    end_left all (left_from items at.item at.items_left) (left_from constants at.constant at.constants_left) (go (over at.item (length items) at.constant (length constants) (nat_lt at.item (length items)) (nat_lt at.constant (length constants)) refl refl h))
  where
    go : (length items ≤ at.item) ⊎ (length constants ≤ at.constant) → (left_from items at.item at.items_left ≡ []) ⊎ (left_from constants at.constant at.constants_left ≡ [])
    go (inl l) = inl (left_nothing items at.item at.items_left l w.items_left)
    go (inr l) = inr (left_nothing constants at.constant at.constants_left l w.constants_left)

-- ---- whether anything is left

not_empty : (n : ℕ) (x : Option Ty) (xs : List (Option Ty)) → 0 < n → true ≡ not (length (replicate n x ++ xs) == 0)
not_empty zero x xs h = absurd (omega arith)
not_empty (suc n) x xs h = sym (ap not (eqb-suc-zero (length (replicate n x ++ xs))))

pub some_left : (runs : List Run) (k left : ℕ) → 0 < left → true ≡ not (length (left_from runs k left) == 0)
some_left runs k left h = not_empty left (type_at runs k) (types (drop (suc k) runs)) h

pub none_left : (runs : List Run) (k left : ℕ) → left ≤ 0 → left_from runs k left ≡ types (drop (k + 1) runs)
none_left runs k left h = ap (λ n. replicate n (type_at runs k) ++ types (drop (suc k) runs)) (let z : left ≡ 0 = omega arith in z) ∙ ap (λ n. types (drop n runs)) (sym (add-one k))

pub nothing_behind : (runs : List Run) (k : ℕ) → length runs ≤ k → false ≡ not (length (types (drop k runs)) == 0)
nothing_behind runs k h = sym (ap (λ rs. not (length (types rs) == 0)) (drop_all k runs h))

pub empty_run : (runs : List Run) (i : ℕ) (r : Run) → i < length runs → r ≡ get_or runs i r → r.count ≤ 0 → types (drop (i + 1) runs) ≡ types (drop i runs)
empty_run runs i r h e z =
    sym (ap types (drop_more runs i r h) ∙ (ap (λ x. types (x ∷ drop (i + 1) runs)) (sym e) ∙ ap (λ n. replicate n r.ty ++ types (drop (i + 1) runs)) (let f : r.count ≡ 0 = omega arith in f)))

pub full_run : (runs : List Run) (i : ℕ) (r : Run) → i < length runs → r ≡ get_or runs i r → 0 < r.count → true ≡ not (length (types (drop i runs)) == 0)
full_run runs i r h e z =
    not_empty r.count r.ty (types (drop (i + 1) runs)) z
    ∙ sym (ap (λ rs. not (length (types rs) == 0)) (drop_more runs i r h ∙ ap (λ x. x ∷ drop (i + 1) runs) (sym e)))

pub ruleset ends = (some_left, none_left, nothing_behind, empty_run, full_run, at_end, clash_differs, from_run)
