-- The DOs that end at a statement, as one more DO is seen.
use Rattle.std.proofs.Common.{◌≡◌, ℕ, zero, suc, ◌<◌, ◌≤◌, ◌&&◌, ◌==◌, Bool, true, false, cond, nat_lt, List, [], ◌∷◌, ◌++◌, length, set, get_or, refl, sym, ◌∙◌, ap, subst, arith, ⊎_elim, length-set, length-append, get_or-set_same, get_or-set_other}
use Rattle.std.proofs.Math.ListN.{get_or-append}
use Rattle.std.proofs.Math.Seq.{get_or-append_seam}
use Rattle.std.proofs.lemmas.Bool.{cases_eq}
use Rattle.std.proofs.lemmas.Bool.Decides.{nat_tests}
use Rattle.f77_tree.specs.declared.unit.Stmt.{Stmt}
use Rattle.f77_flow.specs.declared.loops.Ends.{Ends}
use Rattle.f77_flow.specs.Labels.{last_of}
use Rattle.f77_flow.specs.Graph.{ends_at, ending_in, around}
use Rattle.f77_flow.specs.Tables.{IsTable, AreEnds, inner_in, outer}

not_within : (k n : ℕ) → n ≤ k → nat_lt k n ≡ false
not_within k n h = grind (arith, nat_tests)

within : (k n : ℕ) → k < n → nat_lt k n ≡ true
within k n h = grind (arith, nat_tests)

same : (j k : ℕ) → j ≡ k → (j == k) ≡ true
same j k e = grind (arith, nat_tests)

apart : (j k : ℕ) → (j ≡ k → ⊥) → (j == k) ≡ false
apart j k ne = grind (arith, nat_tests)

and_false : (b : Bool) → (b && false) ≡ false
and_false true = refl
and_false false = refl

pub ends_beyond : (u : List Stmt) (k d : ℕ) → length u ≤ k → ends_at u k d ≡ false
ends_beyond u k d h = ap (λ b. (last_of u d == k) && b) (not_within k (length u) h) ∙ and_false (last_of u d == k)

pub ends_here : (u : List Stmt) (k d : ℕ) → last_of u d ≡ k → k < length u → ends_at u k d ≡ true
ends_here u k d e h = ap (λ b. b && nat_lt k (length u)) (same (last_of u d) k e) ∙ within k (length u) h

pub ends_elsewhere : (u : List Stmt) (k d : ℕ) → (last_of u d ≡ k → ⊥) → ends_at u k d ≡ false
ends_elsewhere u k d ne = ap (λ b. b && nat_lt k (length u)) (apart (last_of u d) k ne)

pub ending_beyond : (u : List Stmt) (k m : ℕ) → length u ≤ k → ending_in u k m ≡ []
ending_beyond u k zero h = refl
ending_beyond u k (suc d) h = ap (λ b. cond b (d ∷ ending_in u k d) (ending_in u k d)) (ends_beyond u k d h) ∙ ending_beyond u k d h

pub inner_yes : (u : List Stmt) (k d : ℕ) → ends_at u k d ≡ true → inner_in u k (suc d) ≡ d
inner_yes u k d e = ap (λ b. get_or (cond b (d ∷ ending_in u k d) (ending_in u k d)) 0 (length u)) e

pub inner_no : (u : List Stmt) (k d : ℕ) → ends_at u k d ≡ false → inner_in u k (suc d) ≡ inner_in u k d
inner_no u k d e = ap (λ b. get_or (cond b (d ∷ ending_in u k d) (ending_in u k d)) 0 (length u)) e

pub table_push : (f : ℕ → ℕ) (m x : ℕ) (xs : List ℕ) → IsTable f m xs → x ≡ f m → IsTable f (suc m) (xs ++ x ∷ [])
table_push f m x xs is e = record {
  long = simp length-append (omega (arith, is.long));
  each = λ k _ below. ⊎_elim
      (λ (at : k ≡ m). subst (λ i. get_or (xs ++ x ∷ []) i 0 ≡ f i) (sym at) (subst (λ i. get_or (xs ++ x ∷ []) i 0 ≡ f m) is.long (get_or-append_seam xs x [] 0 ∙ e)))
      (λ (ne : k ≡ m → ⊥). let small : k < m = omega arith in get_or-append xs (x ∷ []) 0 k (omega (arith, is.long)) ∙ is.each k (omega arith) small)
      (cases_eq k m);
}

-- a DO that ends at `last`, and what is known of the DOs before it
pub ends_more : (u : List Stmt) (d last around : ℕ) (old new : Ends) → last ≡ last_of u d → AreEnds u d old → last < length u → around ≡ get_or old.innermost last 0 → new.outer ≡ old.outer ++ around ∷ [] → new.innermost ≡ set old.innermost last d → AreEnds u (suc d) new
ends_more u d last around old new e is small found o i = record {
  innermost = rw i record {
    long = simp length-set is.innermost.long;
    each = λ k _ below. ⊎_elim
        (λ (at : k ≡ last). subst (λ j. get_or (set old.innermost last d) j 0 ≡ inner_in u j (suc d)) (sym at)
        (let in_table : last < length old.innermost = omega (arith, is.innermost.long) in rw get_or-set_same (sym (inner_yes u last d (ends_here u last d (sym e) small)))))
        (λ (ne : k ≡ last → ⊥). rw get_or-set_other (is.innermost.each k (omega arith) below ∙ sym (inner_no u k d (ends_elsewhere u k d (λ at. ne (sym (e ∙ at)))))))
        (cases_eq k last);
  };
  outer = rw o (table_push (outer u) d around old.outer is.outer (found ∙ is.innermost.each last (omega arith) small ∙ ap (λ j. inner_in u j d) e));
}

pub ends_same : (u : List Stmt) (d last : ℕ) (old new : Ends) → last ≡ last_of u d → AreEnds u d old → length u ≤ last → new.outer ≡ old.outer ++ length u ∷ [] → new.innermost ≡ old.innermost → AreEnds u (suc d) new
ends_same u d last old new e is large o i = record {
  innermost = rw i record {
    long = is.innermost.long;
    each = λ k _ below. is.innermost.each k (omega arith) below ∙ sym (inner_no u k d (ends_elsewhere u k d (λ at. absurd (omega arith))));
  };
  outer = rw o (table_push (outer u) d (length u) old.outer is.outer (sym (ap (λ ds. get_or ds 0 (length u)) (ending_beyond u (last_of u d) d (omega arith)))));
}

-- no DO was seen
pub ends_start : (u : List Stmt) (ends : Ends) → ends.outer ≡ [] → IsTable (λ _. length u) (length u) ends.innermost → AreEnds u 0 ends
ends_start u ends o is = record {
  innermost = record { long = is.long; each = is.each };
  outer = rw o record { long = refl; each = λ k _ below. absurd (omega arith) };
}
