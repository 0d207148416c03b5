-- What a reading is at each level.
use Rattle.std.proofs.Common.{◌≡◌, ℕ, ◌≤◌, true, false, List, ◌∷◌, arith, Some}
use Rattle.f77_tree.specs.declared.expr.Op.{Op}
use Rattle.f77_tree.specs.declared.expr.Expr.{Expr}
use Rattle.f77_tree.specs.declared.expr.Expr.TheVariants as e
use Rattle.f77_tree.specs.Names.{is_name}
use Rattle.f77_expr.specs.declared.token.Token.TheVariants as t
use Rattle.f77_expr.specs.declared.token.Kind.{Kind}
use Rattle.f77_expr.specs.declared.token.Kind.TheVariants as k
use Rattle.f77_expr.specs.declared.token.Rule.{Rule}
use Rattle.f77_expr.specs.declared.token.Rule.TheVariants as r
use Rattle.f77_expr.specs.Kinds.{Tokens, IsNext}
use Rattle.f77_expr.specs.Grammar.{below, operator, GroupsLeft, Reads, chain, asserted, denied, alone, compared, negated, kept, single, power, number, yes, no, name, applied, paren, Joins, Lists}
use Rattle.f77_expr.specs.Best.{level, IsPlain}

-- operands, with operators of the level between
pub record Chained (rule : Rule) (ts : Tokens) (y : Expr) (z : Tokens) : Type 0 where
  pub a : Expr
  pub rest : Tokens
  pub left : GroupsLeft rule
  pub reads : Reads (below rule) ts a rest
  pub joins : Joins rule a rest y z

pub chained : {rule : Rule} {ts z : Tokens} {y : Expr} → IsPlain rule → Reads rule ts y z → Chained rule ts y z
chained p (chain g d j) = record { a = _; rest = _; left = g; reads = d; joins = j }
chained p (asserted d) = absurd p
chained p (denied n d e) = absurd p
chained p (alone d) = absurd p
chained p (compared d n o q e) = absurd p
chained p (negated n d j) = absurd p
chained p (kept n d j) = absurd p
chained p (single d) = absurd p
chained p (power d n o q e) = absurd p
chained p (number n digits f e) = absurd p
chained p (yes n e) = absurd p
chained p (no n e) = absurd p
chained p (name word f named e) = absurd p
chained p (applied word f named n l e) = absurd p
chained p (paren n d m e) = absurd p

-- the levels that group from the left
pub data Left (rule : Rule) (ts : Tokens) (y : Expr) (z : Tokens) : Type 0 where
  plain : Chained rule ts y z → Left rule ts y z
  with_minus : {rest : Tokens} → 7 ≤ level (below rule) → IsNext ts k.Minus rest → Left rule ts y z
  with_plus : {rest : Tokens} → 7 ≤ level (below rule) → IsNext ts k.Plus rest → Left rule ts y z

pub left : {rule : Rule} {ts z : Tokens} {y : Expr} → GroupsLeft rule → Reads rule ts y z → Left rule ts y z
left g (chain h d j) = plain (record { a = _; rest = _; left = h; reads = d; joins = j })
left g (asserted d) = elim g [ ]
left g (denied n d eq) = elim g [ ]
left g (alone d) = elim g [ ]
left g (compared d n o q eq) = elim g [ ]
left g (negated n d j) = with_minus (omega arith) n
left g (kept n d j) = with_plus (omega arith) n
left g (single d) = elim g [ ]
left g (power d n o q eq) = elim g [ ]
left g (number n digits f eq) = elim g [ ]
left g (yes n eq) = elim g [ ]
left g (no n eq) = elim g [ ]
left g (name word f named eq) = elim g [ ]
left g (applied word f named n l eq) = elim g [ ]
left g (paren n d m eq) = elim g [ ]

-- a sum with a sign before it, or without
pub data Signed (ts : Tokens) (y : Expr) (z : Tokens) : Type 0 where
  bare : Chained r.Sum ts y z → Signed ts y z
  minus : {rest more : Tokens} {a : Expr} → IsNext ts k.Minus rest → Reads r.Product rest a more → Joins r.Sum (e.Neg a) more y z → Signed ts y z
  plus : {rest more : Tokens} {a : Expr} → IsNext ts k.Plus rest → Reads r.Product rest a more → Joins r.Sum (e.Plus a) more y z → Signed ts y z

pub signed : {ts z : Tokens} {y : Expr} → Reads r.Sum ts y z → Signed ts y z
signed (chain g d j) = bare (record { a = _; rest = _; left = g; reads = d; joins = j })
signed (negated n d j) = minus n d j
signed (kept n d j) = plus n d j

-- a relation, or .NOT. and one
pub data Denies (ts : Tokens) (y : Expr) (z : Tokens) : Type 0 where
  as_is : Reads r.Relation ts y z → Denies ts y z
  by_not : {rest : Tokens} {a : Expr} → IsNext ts k.Not rest → Reads r.Relation rest a z → y ≡ e.Not a → Denies ts y z

pub denies : {ts z : Tokens} {y : Expr} → Reads r.Negation ts y z → Denies ts y z
denies (chain g d j) = elim g [ ]
denies (asserted d) = as_is d
denies (denied n d eq) = by_not n d eq

-- one operand, or two with an operator between
pub data Either (rule first second : Rule) (ts : Tokens) (y : Expr) (z : Tokens) : Type 0 where
  one : Reads first ts y z → Either rule first second ts y z
  two : {rest more : Tokens} {kind : Kind} {o : Op} {a b : Expr} → Reads first ts a rest → IsNext rest kind more → operator rule kind ≡ Some o → Reads second more b z → y ≡ e.Binary o a b → Either rule first second ts y z

pub relation_either : {ts z : Tokens} {y : Expr} → Reads r.Relation ts y z → Either r.Relation r.Sum r.Sum ts y z
relation_either (chain g q j) = elim g [ ]
relation_either (alone q) = one q
relation_either (compared q n is q' eq) = two q n is q' eq

pub factor_either : {ts z : Tokens} {y : Expr} → Reads r.Factor ts y z → Either r.Factor r.Primary r.Factor ts y z
factor_either (chain g q j) = elim g [ ]
factor_either (single q) = one q
factor_either (power q n is q' eq) = two q n is q' eq

-- what begins a primary
pub data Shape (ts : Tokens) (y : Expr) (z : Tokens) : Type 0 where
  a_number : (n digits : _) → ts ≡ t.Int n digits ∷ z → y ≡ e.Int n → Shape ts y z
  a_yes : IsNext ts k.True z → y ≡ e.Truth true → Shape ts y z
  a_no : IsNext ts k.False z → y ≡ e.Truth false → Shape ts y z
  a_name : (word : List ℕ) → ts ≡ t.Word word ∷ z → is_name word ≡ true → y ≡ e.Scalar word → Shape ts y z
  an_applied : {rest more : Tokens} {all : List Expr} (word : List ℕ) → ts ≡ t.Word word ∷ rest → is_name word ≡ true → IsNext rest k.Open more → Lists more all z → y ≡ e.Apply word all → Shape ts y z
  a_paren : {rest more : Tokens} {a : Expr} → IsNext ts k.Open rest → Reads r.Equivalence rest a more → IsNext more k.Close z → y ≡ e.Paren a → Shape ts y z

pub shape : {ts z : Tokens} {y : Expr} → Reads r.Primary ts y z → Shape ts y z
shape (chain g d j) = elim g [ ]
shape (number n digits f eq) = a_number n digits f eq
shape (yes n eq) = a_yes n eq
shape (no n eq) = a_no n eq
shape (name word f named eq) = a_name word f named eq
shape (applied word f named n l eq) = an_applied word f named n l eq
shape (paren n d m eq) = a_paren n d m eq
