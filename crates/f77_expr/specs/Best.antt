-- What each function of the parser finds: the reading that goes furthest.
use Rattle.std.specs.Prelude.{◌≡◌, ℕ, ◌<◌, ◌≤◌, List, [], ◌∷◌, length, Some, ◌⊎◌}
use Rattle.f77_tree.specs.declared.expr.Op.{Op}
use Rattle.f77_tree.specs.declared.expr.Op.TheVariants as op
use Rattle.f77_tree.specs.declared.expr.Expr.{Expr}
use Rattle.f77_tree.specs.declared.expr.Expr.TheVariants as e
use Rattle.f77_expr.specs.declared.token.Token.TheVariants as t
use Rattle.f77_expr.specs.declared.token.Kind.{Kind}
use Rattle.f77_expr.specs.declared.token.Rule.{Rule}
use Rattle.f77_expr.specs.declared.token.Rule.TheVariants as r
use Rattle.f77_expr.specs.Kinds.{Tokens, IsNext}
use Rattle.f77_expr.specs.Grammar.{operator, Reads, Joins, Lists, Items}
use Rattle.f77_expr.specs.Longest.{strength}

-- the loosest level is 1
abbrev pub level : Rule → ℕ
level r.Equivalence = 1
level r.Disjunction = 2
level r.Conjunction = 3
level r.Negation = 4
level r.Relation = 5
level r.Sum = 6
level r.Product = 7
level r.Factor = 8
level r.Primary = 9

-- The first token may go on what the level reads.
pub record Goes (rule : Rule) (ts : Tokens) : Type 0 where
  pub kind : Kind
  pub rest : Tokens
  pub next : IsNext ts kind rest
  pub above : level rule ≤ strength kind

-- y with the rest z is x with the rest s, or ends earlier, before a token that may go on
abbrev pub Within : Rule → Expr → Tokens → Expr → Tokens → Type 0
Within rule x s y z = ((y ≡ x) × (z ≡ s)) ⊎ ((length s < length z) × Goes rule z)

pub record NotNext (ts : Tokens) (kind : Kind) : Type 0 where
  pub not : (rest : Tokens) → IsNext ts kind rest → ⊥

pub record Best (rule : Rule) (ts : Tokens) (x : Expr) (s : Tokens) : Type 0 where
  pub reads : Reads rule ts x s
  pub shorter : length s < length ts
  pub most : (y : Expr) (z : Tokens) → Reads rule ts y z → Within rule x s y z

pub record Fails (rule : Rule) (ts : Tokens) : Type 0 where
  pub not : (y : Expr) (z : Tokens) → Reads rule ts y z → ⊥

pub record BestJoin (rule : Rule) (a : Expr) (ts : Tokens) (x : Expr) (s : Tokens) : Type 0 where
  pub joins : Joins rule a ts x s
  pub shorter : length s ≤ length ts
  pub most : (y : Expr) (z : Tokens) → Joins rule a ts y z → Within rule x s y z

-- an operator of one level and the best operand of another
pub record Step (rule operand : Rule) (ts : Tokens) (o : Op) (b : Expr) (s : Tokens) : Type 0 where
  pub kind : Kind
  pub rest : Tokens
  pub next : IsNext ts kind rest
  pub is : operator rule kind ≡ Some o
  pub best : Best operand rest b s
  pub shorter : length s < length ts

pub record NoStep (rule operand : Rule) (ts : Tokens) : Type 0 where
  pub not : (kind : Kind) (rest s : Tokens) (o : Op) (b : Expr) → IsNext ts kind rest → operator rule kind ≡ Some o → Reads operand rest b s → ⊥

-- operands with `**` between, grouped from the right
unfoldable pub powers : List Expr → Expr → Expr
powers [] last = last
powers (base ∷ bases) last = e.Binary op.Pow base (powers bases last)

-- Primaries with `**` between were read, and behind the last of them are the tokens `rest`: the best power from where
-- it stands makes the best power of all.
pub record Powers (ts : Tokens) (bases : List Expr) (final : Expr) (rest : Tokens) : Type 0 where
  pub here : Tokens
  pub primary : Best r.Primary here final rest
  pub best : (x : Expr) (s : Tokens) → Best r.Factor here x s → Best r.Factor ts (powers bases x) s

pub record FirstList (ts : Tokens) (all : List Expr) (s : Tokens) : Type 0 where
  pub lists : Lists ts all s
  pub shorter : length s < length ts

pub record FirstItems (ts : Tokens) (all : List Expr) (s : Tokens) : Type 0 where
  pub items : Items ts all s
  pub shorter : length s < length ts

pub record NoList (ts : Tokens) : Type 0 where
  pub not : (others : List Expr) (z : Tokens) → Lists ts others z → ⊥

pub record NoItems (ts : Tokens) : Type 0 where
  pub not : (others : List Expr) (z : Tokens) → Items ts others z → ⊥

-- the levels that are nothing but operands and operators from the left
abbrev pub IsPlain : Rule → Type 0
IsPlain r.Equivalence = Unit {0}
IsPlain r.Disjunction = Unit {0}
IsPlain r.Conjunction = Unit {0}
IsPlain r.Product = Unit {0}
IsPlain _ = ⊥

-- The first token is no integer and no word.
pub record BeginsNoName (ts : Tokens) : Type 0 where
  pub no_int : (n digits : _) (rest : Tokens) → ts ≡ t.Int n digits ∷ rest → ⊥
  pub no_word : (word : List ℕ) (rest : Tokens) → ts ≡ t.Word word ∷ rest → ⊥
