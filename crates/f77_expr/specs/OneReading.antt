-- What the grammar is, whatever reads it.
use Rattle.std.specs.Prelude.{◌≡◌, ℕ, ◌<◌, ◌≤◌, List, length, drop}
use Rattle.f77_tree.specs.declared.expr.Expr.{Expr}
use Rattle.f77_expr.specs.Depth.{deepest}
use Rattle.f77_expr.specs.Kinds.{Tokens}
use Rattle.f77_expr.specs.Grammar.{ReadsExpression, Lists, Items}
use Rattle.f77_expr.specs.Longest.{Settles}

-- The same tokens are read as one tree at most.
abbrev pub OneTree : Type 0
OneTree = (ts s : Tokens) (x y : Expr) → ReadsExpression ts x s → ReadsExpression ts y s → x ≡ y

-- Two expressions at one place that both end where nothing goes on are the same, and end at the same place.
abbrev pub OneSettled : Type 0
OneSettled = (ts s z : Tokens) (x y : Expr) → ReadsExpression ts x s → Settles s → ReadsExpression ts y z → Settles z → (x ≡ y) × (s ≡ z)

-- Lists have their ends in themselves.
abbrev pub OneList : Type 0
OneList = (ts s z : Tokens) (all others : List Expr) → Lists ts all s → Lists ts others z → (all ≡ others) × (s ≡ z)

abbrev pub OneItems : Type 0
OneItems = (ts s z : Tokens) (all others : List Expr) → Items ts all s → Items ts others z → (all ≡ others) × (s ≡ z)

-- An expression takes tokens.
abbrev pub TakesTokens : Type 0
TakesTokens = (ts s : Tokens) (x : Expr) → ReadsExpression ts x s → length s < length ts

-- An end of the tokens is no deeper than all of them.
abbrev pub EndsNoDeeper : Type 0
EndsNoDeeper = (ts : Tokens) (n : ℕ) → deepest (drop n ts) ≤ deepest ts
