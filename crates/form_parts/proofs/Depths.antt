-- A part of the tokens is no deeper than all of them.
use Rattle.std.proofs.Common.{◌≡◌, ℕ, ◌≤◌, max, [], ◌∷◌, fold, take, drop, ap, sym, ◌∙◌, subst, arith}
use Rattle.std.proofs.lemmas.List.{take-append-drop}
use Rattle.std.proofs.lemmas.List.Sums.{fold-append}
use Rattle.f77_expr.specs.declared.token.Token.{Token}
use Rattle.f77_expr.specs.declared.token.Kind.{Kind}
use Rattle.f77_expr.specs.declared.token.Kind.TheVariants as k
use Rattle.f77_expr.specs.Kinds.{Tokens, kind_of, IsNext}
use Rattle.f77_expr.specs.Depth.{open_after, nested, deepest}

open_more : (a b : ℕ) (kind : Kind) → a ≤ b → open_after a kind ≤ open_after b kind
open_more a b k.Open h = omega (arith, h)
open_more a b k.Close h = omega (arith, h)
open_more a b _ h = h

fold_more_deep : (ts : Tokens) (a b m n : ℕ) → a ≤ b → m ≤ n → (fold nested (a, m) ts).1 ≤ (fold nested (b, n) ts).1
fold_more_deep [] a b m n h g = g
fold_more_deep (t ∷ ts) a b m n h g =
    let next = open_more a b (kind_of t) h in
    fold_more_deep ts (open_after a (kind_of t)) (open_after b (kind_of t)) (max m (open_after a (kind_of t))) (max n (open_after b (kind_of t))) next (omega (arith, next, g))

pub deepest-drop : (ts : Tokens) (n : ℕ) → deepest (drop n ts) ≤ deepest ts
unfolding deepest
deepest-drop ts n =
    let start = fold nested (0, 0) (take n ts) in
    let whole : (fold nested start (drop n ts)).1 ≡ deepest ts = ap (λ s. s.1) (sym (fold-append nested (0, 0) (take n ts) (drop n ts))) ∙ ap deepest (take-append-drop n ts) in
    subst (λ m. deepest (drop n ts) ≤ m) whole (fold_more_deep (drop n ts) 0 start.0 0 start.1 (omega arith) (omega arith))

pub deepest-next : {ts rest : Tokens} {kind : Kind} → IsNext ts kind rest → deepest ts ≤ 100 → deepest rest ≤ 100
deepest-next {ts} {rest} n h =
    let less : deepest rest ≤ deepest ts = subst (λ all. deepest rest ≤ deepest all) (sym n.front) (deepest-drop (n.token ∷ rest) 1) in
    omega (arith, less, h)

pub deepest-tail : {ts rest : Tokens} {token : Token} → ts ≡ token ∷ rest → deepest ts ≤ 100 → deepest rest ≤ 100
deepest-tail {ts} {rest} {token} is h =
    let less : deepest rest ≤ deepest ts = subst (λ all. deepest rest ≤ deepest all) (sym is) (deepest-drop (token ∷ rest) 1) in
    omega (arith, less, h)
