-- A pass from the last statement to the first: the list that it has seen, and the table that it fills.
use Rattle.std.proofs.Common.{◌≡◌, ℕ, suc, ◌<◌, Some, Result, Ok, Err, OnOk, List, ◌∷◌, length, drop, set, get_or, slice_get, refl, sym, ◌∙◌, ap, subst, arith, ⊎_elim, length-set, drop-cons, get_or-set_same, get_or-set_other}
use Rattle.std.proofs.lemmas.Bool.{cases_eq}
use Rattle.std.proofs.lemmas.Option.{slice_get_read}
use Rattle.f77_tree.specs.declared.unit.Stmt.{Stmt}
use Rattle.f77_flow.specs.Tables.{IsTableFrom}

pub on_ok : {T E : Type 0} (r : Result T E) (P Q : Type 0) → (P → Q) → OnOk r P → OnOk r Q
on_ok (Ok x) P Q f h = f h
on_ok (Err e) P Q f h = h

-- statement k stands before those that were seen
pub front : (u : List Stmt) (s : Stmt) (k : ℕ) → s ≡ get_or u k s → k < length u → drop k u ≡ s ∷ drop (suc k) u
front u s k is small = drop-cons u k s small ∙ ap (λ x. x ∷ drop (suc k) u) (sym is)

pub stands : (u : List Stmt) (s : Stmt) (k : ℕ) → s ≡ get_or u k s → k < length u → slice_get u k ≡ Some s
stands u s k is small = slice_get_read u (length u) k s refl small is

-- and the table is filled at k
pub table_before : (f : ℕ → ℕ) (n k x : ℕ) (table : List ℕ) → IsTableFrom f n (suc k) table → k < n → x ≡ f k → IsTableFrom f n k (set table k x)
table_before f n k x table is small here = record {
  long = simp length-set is.long;
  each = λ j above below. ⊎_elim
      (λ (e : j ≡ k). subst (λ i. get_or (set table k x) i 0 ≡ f i) (sym e) (let in_table : k < length table = omega (arith, is.long) in rw get_or-set_same here))
      (λ (ne : j ≡ k → ⊥). rw get_or-set_other (is.each j (omega arith) below))
      (cases_eq j k);
}
