-- What follows statements and DOs, by the innermost of the DOs that end there.
use Rattle.std.proofs.Common.{◌≡◌, ℕ, zero, suc, ◌+◌, ◌<◌, ◌≤◌, true, false, cond, List, [], ◌∷◌, length, get_or, refl, sym, ap, ◌∙◌, arith}
use Rattle.std.proofs.lemmas.List.{drop_all}
use Rattle.f77_tree.specs.declared.unit.Stmt.{Stmt}
use Rattle.f77_flow.specs.Labels.{last_of}
use Rattle.f77_flow.specs.Blocks.{coming, below}
use Rattle.f77_flow.specs.Graph.{At, Advance, ends_at, ending_in, advance_or, after, leaving}
use Rattle.f77_flow.specs.Tables.{innermost, outer}
use Rattle.f77_flow.proofs.Ending.{ending_beyond}

-- the first of these DOs
first_advances : (u : List Stmt) (ds : List ℕ) (k d : ℕ) → get_or ds 0 (length u) ≡ d → d < length u → advance_or u ds k ≡ Advance d
first_advances u [] k d e h = absurd (omega arith)
first_advances u (x ∷ ds) k d e h = ap Advance e

none_ends : (u : List Stmt) (k m : ℕ) → m ≤ length u → length u ≤ get_or (ending_in u k m) 0 (length u) → ending_in u k m ≡ []
none_ends u k zero h g = refl
none_ends u k (suc d) h g = elim (ends_at u k d) as (λ b. length u ≤ get_or (cond b (d ∷ ending_in u k d) (ending_in u k d)) 0 (length u) → cond b (d ∷ ending_in u k d) (ending_in u k d) ≡ []) [
  | true ↦ (λ (most : length u ≤ d). absurd (omega arith))
  | false ↦ (λ most. none_ends u k d (omega arith) most)
] g

behind : (u : List Stmt) (k : ℕ) → length u ≤ k → below u k ≡ k + 1
behind u k h = let next : suc k ≡ k + 1 = omega arith in ap (coming (suc k)) (drop_all (suc k) u (omega arith)) ∙ next

pub after_advances : (u : List Stmt) (k d : ℕ) → d ≡ innermost u k → d < length u → after u k ≡ Advance d
after_advances u k d e h = first_advances u (ending_in u k (length u)) k d (sym e) h

pub after_below : (u : List Stmt) (k d : ℕ) → d ≡ innermost u k → length u ≤ d → after u k ≡ At (below u k)
after_below u k d e h = ap (λ ds. advance_or u ds k) (none_ends u k (length u) (omega arith) (omega arith))

pub leaving_advances : (u : List Stmt) (d e : ℕ) → e ≡ outer u d → e < length u → leaving u d ≡ Advance e
leaving_advances u d e is h = first_advances u (ending_in u (last_of u d) d) (last_of u d) e (sym is) h

pub leaving_below : (u : List Stmt) (d e : ℕ) → d < length u → e ≡ outer u d → length u ≤ e → leaving u d ≡ At (below u (last_of u d))
leaving_below u d e small is h = ap (λ ds. advance_or u ds (last_of u d)) (none_ends u (last_of u d) d (omega arith) (omega arith))

pub leaving_behind : (u : List Stmt) (d : ℕ) → length u ≤ last_of u d → leaving u d ≡ At (last_of u d + 1)
leaving_behind u d h = ap (λ ds. advance_or u ds (last_of u d)) (ending_beyond u (last_of u d) d h) ∙ ap At (behind u (last_of u d) h)

pub ruleset advances = (after_advances, after_below, leaving_advances, leaving_below, leaving_behind)
