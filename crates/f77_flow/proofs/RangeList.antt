-- The loops of the first statements, as one more is seen.
use Rattle.std.proofs.Common.{◌≡◌, ℕ, zero, suc, ◌+◌, ◌<◌, ◌≤◌, true, false, cond, nat_lt, List, [], ◌∷◌, ◌++◌, length, map, slice_index, refl, sym, ◌∙◌, ap, arith, add-one, add-zero, zero-add, append-nil}
use Rattle.std.specs.List.{range_with_len, filter}
use Rattle.std.proofs.lemmas.List.Elements.{filter-append}
use Rattle.std.proofs.lemmas.List.{map-append}
use Rattle.std.proofs.lemmas.Bool.Decides.{nat_tests}
use Rattle.f77_tree.specs.declared.unit.Stmt.{Stmt}
use Rattle.f77_flow.specs.declared.loops.Loop.{Loop}
use Rattle.f77_flow.specs.Labels.{last_of, has_range}
use Rattle.f77_flow.specs.Next.{loop_at}
use Rattle.f77_flow.specs.Tables.{IsTable}

range_more : (a n : ℕ) → range_with_len a (suc n) ≡ range_with_len a n ++ (a + n) ∷ []
range_more a zero = rw add-zero refl
range_more a (suc n) = ap (λ xs. a ∷ xs) (range_more (a + 1) n ∙ (let e : a + 1 + n ≡ a + suc n = omega arith in ap (λ x. range_with_len (a + 1) n ++ x ∷ []) e))

range_push : (d : ℕ) → range_with_len 0 (d + 1) ≡ range_with_len 0 d ++ d ∷ []
range_push d = ap (λ n. range_with_len 0 n) (add-one d) ∙ (range_more 0 d ∙ ap (λ x. range_with_len 0 d ++ x ∷ []) (zero-add d))

abbrev pub loops_to : List Stmt → ℕ → List Loop
loops_to u m = map (loop_at u) (filter (has_range u) (range_with_len 0 m))

with_range : (m n : ℕ) → m < n → nat_lt m n ≡ true
with_range m n h = grind (arith, nat_tests)

without_range : (m n : ℕ) → n ≤ m → nat_lt m n ≡ false
without_range m n h = grind (arith, nat_tests)

loops_step : (u : List Stmt) (d : ℕ) → loops_to u (d + 1) ≡ loops_to u d ++ map (loop_at u) (cond (has_range u d) (d ∷ []) [])
loops_step u d =
    ap (λ xs. map (loop_at u) (filter (has_range u) xs)) (range_push d)
    ∙ (ap (map (loop_at u)) (filter-append (has_range u) (range_with_len 0 d) (d ∷ []))
    ∙ map-append (loop_at u) (filter (has_range u) (range_with_len 0 d)) (cond (has_range u d) (d ∷ []) []))

pub loops_more : (u : List Stmt) (d last : ℕ) (lasts : List ℕ) → IsTable (last_of u) (length u) lasts → d < length lasts → last ≡ slice_index lasts d → last < length lasts → loops_to u (d + 1) ≡ loops_to u d ++ record { head = d; last = last } ∷ []
loops_more u d last lasts is small e h =
    let is_last : last ≡ last_of u d = e ∙ is.each d (omega arith) (omega (arith, is.long)) in
    let yes : has_range u d ≡ true = with_range (last_of u d) (length u) (omega (arith, is.long)) in
    let loop : Loop = record { head = d; last = last } in
    loops_step u d ∙ ap (λ b. loops_to u d ++ map (loop_at u) (cond b (d ∷ []) [])) yes ∙ ap (λ j. loops_to u d ++ (let one : Loop = record { head = d; last = j } in one ∷ [])) (sym is_last)

pub loops_same : (u : List Stmt) (d last : ℕ) (lasts : List ℕ) → IsTable (last_of u) (length u) lasts → d < length lasts → last ≡ slice_index lasts d → length lasts ≤ last → loops_to u (d + 1) ≡ loops_to u d
loops_same u d last lasts is small e h =
    let is_last : last ≡ last_of u d = e ∙ is.each d (omega arith) (omega (arith, is.long)) in
    let not : has_range u d ≡ false = without_range (last_of u d) (length u) (omega (arith, is.long)) in
    loops_step u d ∙ ap (λ b. loops_to u d ++ map (loop_at u) (cond b (d ∷ []) [])) not ∙ append-nil (loops_to u d)
