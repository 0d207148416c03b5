-- What an expression begins with.
use Rattle.std.proofs.Common.{◌≡◌, ℕ, ◌≤◌, List, ◌∷◌, ap, sym, ◌∙◌, subst, arith}
use Rattle.f77_tree.specs.declared.expr.Expr.{Expr}
use Rattle.f77_expr.specs.declared.token.Token.TheVariants as t
use Rattle.f77_expr.specs.declared.token.Kind.{Kind}
use Rattle.f77_expr.specs.declared.token.Kind.TheVariants as k
use Rattle.f77_expr.specs.declared.token.Rule.{Rule}
use Rattle.f77_expr.specs.Kinds.{Tokens, kind_of, IsNext}
use Rattle.f77_expr.specs.Grammar.{Reads, chain, asserted, denied, alone, compared, negated, kept, single, power, number, yes, no, name, applied, paren}
use Rattle.f77_expr.specs.Best.{level}
use Rattle.f77_expr.proofs.NextToken.{same_kind, below_level}

pub data First (above : ℕ) : Kind → Type 0 where
  at_int : First above k.Int
  at_true : First above k.True
  at_false : First above k.False
  at_word : First above k.Word
  at_open : First above k.Open
  at_minus : above ≤ 6 → First above k.Minus
  at_plus : above ≤ 6 → First above k.Plus
  at_not : above ≤ 4 → First above k.Not

looser : {m n : ℕ} {kind : Kind} → m ≤ n → First n kind → First m kind
looser h at_int = at_int
looser h at_true = at_true
looser h at_false = at_false
looser h at_word = at_word
looser h at_open = at_open
looser h (at_minus g) = at_minus (omega (arith, g, h))
looser h (at_plus g) = at_plus (omega (arith, g, h))
looser h (at_not g) = at_not (omega (arith, g, h))

pub int_kind : {n digits : _} {s rest ts : Tokens} {kind : Kind} → ts ≡ t.Int n digits ∷ s → IsNext ts kind rest → k.Int ≡ kind
int_kind {n} {digits} f m = let same : m.token ≡ t.Int n digits = cc (m.front, f) in sym (ap kind_of same) ∙ m.is

pub word_kind : {word : List ℕ} {s rest ts : Tokens} {kind : Kind} → ts ≡ t.Word word ∷ s → IsNext ts kind rest → k.Word ≡ kind
word_kind {word} f m = let same : m.token ≡ t.Word word = cc (m.front, f) in sym (ap kind_of same) ∙ m.is

as_first : {above : ℕ} {kind kind' : Kind} → kind ≡ kind' → First above kind → First above kind'
as_first {above} e f = subst (λ kind. First above kind) e f

pub first_kind : {rule : Rule} {ts s rest : Tokens} {x : Expr} {kind : Kind} → Reads rule ts x s → IsNext ts kind rest → First (level rule) kind
first_kind (chain g d j) m = looser (omega (arith, below_level g)) (first_kind d m)
first_kind (asserted d) m = looser (omega arith) (first_kind d m)
first_kind (denied n d e) m = as_first (same_kind m n) (at_not (omega arith))
first_kind (alone d) m = looser (omega arith) (first_kind d m)
first_kind (compared d n o q e) m = looser (omega arith) (first_kind d m)
first_kind (negated n d j) m = as_first (same_kind m n) (at_minus (omega arith))
first_kind (kept n d j) m = as_first (same_kind m n) (at_plus (omega arith))
first_kind (single d) m = looser (omega arith) (first_kind d m)
first_kind (power d n o q e) m = looser (omega arith) (first_kind d m)
first_kind (number n digits f e) m = as_first (int_kind f m) at_int
first_kind (yes n e) m = as_first (same_kind m n) at_true
first_kind (no n e) m = as_first (same_kind m n) at_false
first_kind (name word f named e) m = as_first (word_kind f m) at_word
first_kind (applied word f named n l e) m = as_first (word_kind f m) at_word
first_kind (paren n d q e) m = as_first (same_kind m n) at_open

close_first : {above : ℕ} → First above k.Close → ⊥
close_first f = elim f [ ]

minus_first : {above : ℕ} → 7 ≤ above → First above k.Minus → ⊥
minus_first h (at_minus g) = omega (arith, h, g)

plus_first : {above : ℕ} → 7 ≤ above → First above k.Plus → ⊥
plus_first h (at_plus g) = omega (arith, h, g)

not_first : {above : ℕ} → 5 ≤ above → First above k.Not → ⊥
not_first h (at_not g) = omega (arith, h, g)

pub no_close : {rule : Rule} {ts s rest : Tokens} {x : Expr} → Reads rule ts x s → IsNext ts k.Close rest → ⊥
no_close d n = close_first (first_kind d n)

pub no_minus : {rule : Rule} {ts s rest : Tokens} {x : Expr} → 7 ≤ level rule → Reads rule ts x s → IsNext ts k.Minus rest → ⊥
no_minus h d n = minus_first h (first_kind d n)

pub no_plus : {rule : Rule} {ts s rest : Tokens} {x : Expr} → 7 ≤ level rule → Reads rule ts x s → IsNext ts k.Plus rest → ⊥
no_plus h d n = plus_first h (first_kind d n)

pub no_not : {rule : Rule} {ts s rest : Tokens} {x : Expr} → 5 ≤ level rule → Reads rule ts x s → IsNext ts k.Not rest → ⊥
no_not h d n = not_first h (first_kind d n)
