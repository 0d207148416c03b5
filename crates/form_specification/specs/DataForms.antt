-- DATA statements behind their word (section 9 of the standard).
use Rattle.std.specs.Prelude.{◌≡◌, ◌∷◌, ℕ, ℤ, pos, neg_ℤ, ◌≤ℤ◌, ◌<ℤ◌, true, false, List, Some, None}
use Rattle.f77_tree.specs.declared.expr.Expr.{Expr}
use Rattle.f77_tree.specs.declared.expr.Expr.TheVariants as e
use Rattle.f77_tree.specs.declared.form.DataConst.{DataConst}
use Rattle.f77_expr.specs.declared.token.Token.TheVariants as t
use Rattle.f77_expr.specs.declared.token.Kind.TheVariants as k
use Rattle.f77_expr.specs.Kinds.{Tokens, IsNext}
use Rattle.form_parts.specs.Listed.{Listed, Sequence}
use Rattle.form_parts.specs.Parts.{IsName, IsVariable}

-- an integer without a sign
pub record IsInteger (ts : Tokens) (n : ℤ) (s : Tokens) : Type 0 where
  pub digits : _
  pub front : ts ≡ t.Int n digits ∷ s
  pub unsigned : pos 0 ≤ℤ n

-- an integer with an optional sign
pub data IsSigned : Tokens → ℤ → Tokens → Type 0 where
  bare : {ts s : Tokens} {n : ℤ} → IsInteger ts n s → IsSigned ts n s
  plus : {ts rest s : Tokens} {n : ℤ} → IsNext ts k.Plus rest → IsInteger rest n s → IsSigned ts n s
  minus : {ts rest s : Tokens} {n m : ℤ} → IsNext ts k.Minus rest → IsInteger rest n s → m ≡ neg_ℤ n → IsSigned ts m s

-- a constant: an integer, a truth value, or the name of one
pub data IsValue : Tokens → Expr → Tokens → Type 0 where
  number : {ts s : Tokens} {x : Expr} {n : ℤ} → IsSigned ts n s → x ≡ e.Int n → IsValue ts x s
  yes : {ts s : Tokens} {x : Expr} → IsNext ts k.True s → x ≡ e.Truth true → IsValue ts x s
  no : {ts s : Tokens} {x : Expr} → IsNext ts k.False s → x ≡ e.Truth false → IsValue ts x s
  named : {ts s : Tokens} {x : Expr} {name : List ℕ} → IsName ts name s → x ≡ e.Scalar name → IsValue ts x s

-- how often: a positive integer, or the name of a constant
pub data IsTimes : Tokens → Expr → Tokens → Type 0 where
  count : {ts s : Tokens} {x : Expr} {n : ℤ} → IsInteger ts n s → pos 0 <ℤ n → x ≡ e.Int n → IsTimes ts x s
  by_name : {ts s : Tokens} {x : Expr} {name : List ℕ} → IsName ts name s → x ≡ e.Scalar name → IsTimes ts x s

-- r*
pub record IsRepeat (ts : Tokens) (r : Expr) (s : Tokens) : Type 0 where
  pub rest : Tokens
  pub times : IsTimes ts r rest
  pub star : IsNext rest k.Star s

-- c or r*c
pub data IsConst : Tokens → DataConst → Tokens → Type 0 where
  once : {ts s : Tokens} {c : DataConst} → IsValue ts c.value s → c.repeat ≡ None → IsConst ts c s
  repeated : {ts rest s : Tokens} {r : Expr} {c : DataConst} → IsRepeat ts r rest → IsValue rest c.value s → c.repeat ≡ Some r → IsConst ts c s

-- constants between slashes
pub record AreConsts (ts : Tokens) (all : List DataConst) (s : Tokens) : Type 0 where
  pub inside : Tokens
  pub behind : Tokens
  pub opens : IsNext ts k.Slash inside
  pub listed : Listed IsConst inside all behind
  pub closes : IsNext behind k.Slash s

-- items with their constants
pub record IsGroup (ts : Tokens) (group : List Expr × List DataConst) (s : Tokens) : Type 0 where
  pub rest : Tokens
  pub items : Listed IsVariable ts group.0 rest
  pub consts : AreConsts rest group.1 s

-- DATA items/consts/ [[,] items/consts/] ..
abbrev pub IsData : Tokens → List (List Expr × List DataConst) → Type 0
IsData = Sequence IsGroup IsGroup
