-- Declarators, of INTEGER, LOGICAL, DIMENSION and COMMON statements (sections 5.1 and 8 of the standard).
use Rattle.std.specs.Prelude.{◌≡◌, ◌<◌, ◌≤◌, List, [], Option, Some, None, length}
use Rattle.std.specs.List.{All}
use Rattle.f77_tree.specs.declared.expr.Expr.{Expr}
use Rattle.f77_tree.specs.declared.form.Declarator.{Declarator}
use Rattle.f77_expr.specs.declared.token.Kind.TheVariants as k
use Rattle.f77_expr.specs.Kinds.{Tokens, IsNext}
use Rattle.f77_expr.specs.Grammar.{ReadsExpression}
use Rattle.f77_expr.specs.Longest.{Settles}
use Rattle.form_parts.specs.Listed.{Parenthesized, Whole}
use Rattle.form_parts.specs.Parts.{IsName}

-- an upper bound: an expression, or `*` for one that isn't there
pub data IsUpper : Tokens → Option Expr → Tokens → Type 0 where
  given : {ts s : Tokens} {x : Expr} {high : Option Expr} → ReadsExpression ts x s → high ≡ Some x → IsUpper ts high s
  assumed : {ts s : Tokens} {high : Option Expr} → IsNext ts k.Star s → high ≡ None → IsUpper ts high s

-- the bounds of a dimension: an upper one, or a lower and an upper one with a colon between
pub data IsBound : Tokens → Option Expr × Option Expr → Tokens → Type 0 where
  upper : {ts s : Tokens} {high : Option Expr} {bound : Option Expr × Option Expr} → IsUpper ts high s → bound ≡ (None, high) → IsBound ts bound s
  both : {ts rest more s : Tokens} {low : Expr} {high : Option Expr} {bound : Option Expr × Option Expr} → ReadsExpression ts low rest → IsNext rest k.Colon more → IsUpper more high s → bound ≡ (Some low, high) → IsBound ts bound s

-- 1 to 7 dimensions in parentheses
pub record AreBounds (ts : Tokens) (bounds : List (Option Expr × Option Expr)) (s : Tokens) : Type 0 where
  pub listed : Parenthesized IsBound ts bounds s
  pub few : length bounds ≤ 7

-- a name, with bounds where it is an array
pub data IsDeclarator : Tokens → Declarator → Tokens → Type 0 where
  plain : {ts s : Tokens} {d : Declarator} → IsName ts d.name s → d.bounds ≡ [] → IsDeclarator ts d s
  array : {ts rest s : Tokens} {d : Declarator} → IsName ts d.name rest → AreBounds rest d.bounds s → IsDeclarator ts d s

-- INTEGER d,.. and LOGICAL d,.. behind the word
abbrev pub AreDeclarators : Tokens → List Declarator → Type 0
AreDeclarators = Whole IsDeclarator

-- DIMENSION d,.. behind the word
pub record AreArrays (ts : Tokens) (all : List Declarator) : Type 0 where
  pub declarators : AreDeclarators ts all
  pub arrays : All (λ d. 0 < length d.bounds) all

-- ---- what a reader of tokens says

pub record OnlyUpper (ts : Tokens) (high : Option Expr) (s : Tokens) : Type 0 where
  pub upper : IsUpper ts high s
  pub shorter : length s < length ts
  pub only : (other : Option Expr) (z : Tokens) → IsUpper ts other z → Settles z → (other ≡ high) × (z ≡ s)

pub record NoUpper (ts : Tokens) : Type 0 where
  pub not : (other : Option Expr) (z : Tokens) → IsUpper ts other z → ⊥
