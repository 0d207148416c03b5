-- The longest expression at a place, as a caller knows it.
use Rattle.std.specs.Prelude.{◌≡◌, ℕ, ◌<◌, ◌≤◌, [], length, drop}
use Rattle.f77_tree.specs.declared.expr.Expr.{Expr}
use Rattle.f77_tree.specs.declared.fault.SourceFault.{SourceFault}
use Rattle.f77_tree.specs.declared.fault.Place.{Place}
use Rattle.f77_tree.specs.declared.fault.Refused.{Refused}
use Rattle.f77_tree.specs.declared.fault.Refused.TheVariants.{Fault, OutOfMemory}
use Rattle.f77_expr.specs.declared.token.Kind.{Kind}
use Rattle.f77_expr.specs.declared.token.Kind.TheVariants as k
use Rattle.f77_expr.specs.Depth.{deepest}
use Rattle.f77_expr.specs.Kinds.{Tokens, IsNext}
use Rattle.f77_expr.specs.Grammar.{ReadsExpression}

-- how tightly a token of this kind may go on an expression: 0 where it can't
abbrev pub strength : Kind → ℕ
strength k.Eqv = 1
strength k.Neqv = 1
strength k.Or = 2
strength k.And = 3
strength k.Eq = 5
strength k.Ne = 5
strength k.Lt = 5
strength k.Le = 5
strength k.Gt = 5
strength k.Ge = 5
strength k.Plus = 6
strength k.Minus = 6
strength k.Star = 7
strength k.Slash = 7
strength k.Power = 8
strength k.Open = 9
strength _ = 0

-- Nothing here goes on an expression: there is no token, or one as a closing parenthesis.
pub record Settles (ts : Tokens) : Type 0 where
  pub free : (kind : Kind) (rest : Tokens) → IsNext ts kind rest → strength kind ≡ 0

-- an expression, and no other goes as far; and one that ends where nothing goes on is this one
pub record IsLongest (ts : Tokens) (x : Expr) (s : Tokens) : Type 0 where
  pub reads : ReadsExpression ts x s
  pub longest : (y : Expr) (z : Tokens) → ReadsExpression ts y z → length s ≤ length z
  pub only : (y : Expr) (z : Tokens) → ReadsExpression ts y z → length s ≡ length z → y ≡ x
  pub settled : (y : Expr) (z : Tokens) → ReadsExpression ts y z → Settles z → (y ≡ x) × (z ≡ s)

-- the longest at one place ends before another
pub record LongestAt (ts : Tokens) (from : ℕ) (x : Expr) (to : ℕ) : Type 0 where
  pub within : to ≤ length ts
  pub longer : from < to
  pub is : IsLongest (drop from ts) x (drop to ts)

pub record NoneBegins (ts : Tokens) : Type 0 where
  pub not : (y : Expr) (z : Tokens) → ReadsExpression ts y z → ⊥

-- a fault of this number at this place
pub record IsFaultAt (fault : SourceFault) (number : ℕ) (at : Place) : Type 0 where
  pub number_is : fault.number ≡ number
  pub place : fault.place ≡ at
  pub limit : fault.limit ≡ 0

-- more than 100 parentheses stand in each other
abbrev pub TooDeep : Tokens → Type 0
TooDeep ts = 100 < deepest ts

-- why no expression is read: 11 where it is too deep, else 6 where none begins
pub data WhyNone (fault : SourceFault) (at : Place) (ts : Tokens) : Type 0 where
  too_deep : IsFaultAt fault 11 at → TooDeep ts → WhyNone fault at ts
  no_form : IsFaultAt fault 6 at → deepest ts ≤ 100 → NoneBegins ts → WhyNone fault at ts

abbrev pub ExplainsNone : Refused → Place → Tokens → Type 0
ExplainsNone (Fault fault) at ts = WhyNone fault at ts
ExplainsNone OutOfMemory at ts = Unit {0}

-- The tokens are no expression.
pub record NotWhole (ts : Tokens) : Type 0 where
  pub not : (y : Expr) → ReadsExpression ts y [] → ⊥
