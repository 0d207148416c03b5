-- A unit of thin statements begins with its first statement, and goes on from each to the next.
use Rattle.std.proofs.Common.{◌≡◌, ℕ, zero, suc, Bool, true, false, ◌&&◌, ◌==◌, nat_lt, if◌then◌else◌, Some, None, List, [], ◌∷◌, length, drop, slice_get, refl, ap, ◌∙◌, arith}
use Rattle.std.specs.List.{AllZip}
use Rattle.std.proofs.lemmas.Bool.Decides.{nat_tests}
use Rattle.f77_tree.specs.declared.unit.Stmt.{Stmt}
use Rattle.f77_flow.specs.declared.kinds.Kind.{Kind}
use Rattle.f77_flow.specs.declared.kinds.Kind.TheVariants.{Declaration, ElseIf, Else, Do, Plain}
use Rattle.f77_flow.specs.Kinds.{kind_of, kind, kind_at}
use Rattle.f77_flow.specs.Labels.{has_label, first_with, last_of}
use Rattle.f77_flow.specs.Blocks.{next_end, coming, first}
use Rattle.f77_flow.specs.Graph.{At, ends_at, ending_in, advance_or, after}
use Rattle.thin_form.specs.declared.statement.Statement.{Statement}
use Rattle.thin_meaning.specs.Units.{IsThinStmt}
use Rattle.thin_meaning.proofs.Layers.{plain}

plain_kind : (s : Stmt) (t : Statement) → IsThinStmt s t → kind s ≡ Plain
plain_kind s t h = plain kind_of Plain (λ t v. refl) (λ es. refl) refl s.form t h

comes_first : (k : ℕ) (ss : List Stmt) (body : List Statement) → AllZip IsThinStmt ss body → coming k ss ≡ k
comes_first k [] [] z = refl
comes_first k [] (t ∷ body) z = absurd z
comes_first k (s ∷ ss) [] z = absurd z
comes_first k (s ∷ ss) (t ∷ body) z =
    ap (λ v. elim v [ Declaration ↦ coming (suc k) ss | ElseIf ↦ next_end 0 (suc k) ss | Else ↦ next_end 0 (suc k) ss | _ ↦ k ]) (plain_kind s t z.0)

dropped : (k : ℕ) (ss : List Stmt) (body : List Statement) → AllZip IsThinStmt ss body → AllZip IsThinStmt (drop k ss) (drop k body)
dropped zero ss body z = z
dropped (suc k) [] [] z = tt
dropped (suc k) [] (t ∷ body) z = absurd z
dropped (suc k) (s ∷ ss) [] z = absurd z
dropped (suc k) (s ∷ ss) (t ∷ body) z = dropped k ss body z.1

pub begins : (ss : List Stmt) (body : List Statement) → AllZip IsThinStmt ss body → first ss ≡ 0
begins ss body z = comes_first 0 ss body z

-- ---- no DO

-- neither a DO nor anything else with a label
pub data IsSimple (v : Kind) : Type 0 where
  nothing : v ≡ Declaration → IsSimple v
  statement : v ≡ Plain → IsSimple v

simple_at : (ss : List Stmt) (body : List Statement) → AllZip IsThinStmt ss body → (d : ℕ) → IsSimple (elim (slice_get ss d) [ None ↦ Declaration | Some s ↦ kind s ])
simple_at [] [] z d = nothing refl
simple_at [] (t ∷ body) z d = absurd z
simple_at (s ∷ ss) [] z d = absurd z
simple_at (s ∷ ss) (t ∷ body) z zero = statement (plain_kind s t z.0)
simple_at (s ∷ ss) (t ∷ body) z (suc d) = simple_at ss body z.1 d

no_last : (ss : List Stmt) (d : ℕ) → IsSimple (kind_at ss d) → last_of ss d ≡ length ss
no_last ss d (nothing e) = ap (λ v. elim v [ Do label ↦ first_with (has_label label) (suc d) (drop (suc d) ss) | _ ↦ length ss ]) e
no_last ss d (statement e) = ap (λ v. elim v [ Do label ↦ first_with (has_label label) (suc d) (drop (suc d) ss) | _ ↦ length ss ]) e

past_end : (n k : ℕ) → (n == k && nat_lt k n) ≡ false
past_end n k = go (n == k) refl (nat_lt k n) refl
  where
    go : (a : Bool) → (n == k) ≡ a → (b : Bool) → nat_lt k n ≡ b → (a && b) ≡ false
    go false e b f = refl
    go true e false f = refl
    go true e true f = absurd (grind (arith, nat_tests, e, f))

none_ends : (ss : List Stmt) (body : List Statement) → AllZip IsThinStmt ss body → (k m : ℕ) → ending_in ss k m ≡ []
none_ends ss body z k zero = refl
none_ends ss body z k (suc d) =
    let never : ends_at ss k d ≡ false = ap (λ n. n == k && nat_lt k (length ss)) (no_last ss d (simple_at ss body z d)) ∙ past_end (length ss) k in
    ap (λ b. if b then d ∷ ending_in ss k d else ending_in ss k d) never ∙ none_ends ss body z k d

pub follows : (ss : List Stmt) (body : List Statement) → AllZip IsThinStmt ss body → (k : ℕ) → after ss k ≡ At (suc k)
follows ss body z k =
    ap (λ ds. advance_or ss ds k) (none_ends ss body z k (length ss)) ∙ ap At (comes_first (suc k) (drop (suc k) ss) (drop (suc k) body) (dropped (suc k) ss body z))
