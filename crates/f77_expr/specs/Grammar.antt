-- The grammar of expressions (section 6 of the standard): which tokens an expression is read from, and which are left.
use Rattle.std.specs.Prelude.{◌≡◌, ℕ, true, false, List, [], ◌∷◌, Option, Some, None}
use Rattle.f77_tree.specs.declared.expr.Op.{Op}
use Rattle.f77_tree.specs.declared.expr.Op.TheVariants as op
use Rattle.f77_tree.specs.declared.expr.Expr.{Expr}
use Rattle.f77_tree.specs.declared.expr.Expr.TheVariants as e
use Rattle.f77_tree.specs.Names.{is_name}
use Rattle.f77_expr.specs.declared.token.Token.TheVariants as t
use Rattle.f77_expr.specs.declared.token.Kind.{Kind}
use Rattle.f77_expr.specs.declared.token.Kind.TheVariants as k
use Rattle.f77_expr.specs.declared.token.Rule.{Rule}
use Rattle.f77_expr.specs.declared.token.Rule.TheVariants as r
use Rattle.f77_expr.specs.Kinds.{Tokens, IsNext}

-- the level of the operands of a level
abbrev pub below : Rule → Rule
below r.Equivalence = r.Disjunction
below r.Disjunction = r.Conjunction
below r.Conjunction = r.Negation
below r.Negation = r.Relation
below r.Relation = r.Sum
below r.Sum = r.Product
below r.Product = r.Factor
below r.Factor = r.Primary
below r.Primary = r.Primary

-- the operator by which a token joins operands of a level
abbrev pub operator : Rule → Kind → Option Op
operator r.Equivalence k.Eqv = Some op.Eqv
operator r.Equivalence k.Neqv = Some op.Neqv
operator r.Disjunction k.Or = Some op.Or
operator r.Conjunction k.And = Some op.And
operator r.Relation k.Eq = Some op.Eq
operator r.Relation k.Ne = Some op.Ne
operator r.Relation k.Lt = Some op.Lt
operator r.Relation k.Le = Some op.Le
operator r.Relation k.Gt = Some op.Gt
operator r.Relation k.Ge = Some op.Ge
operator r.Sum k.Plus = Some op.Add
operator r.Sum k.Minus = Some op.Sub
operator r.Product k.Star = Some op.Mul
operator r.Product k.Slash = Some op.Div
operator r.Factor k.Power = Some op.Pow
operator _ _ = None

-- the levels whose operators group from the left
pub data GroupsLeft : Rule → Type 0 where
  by_equivalence : GroupsLeft r.Equivalence
  by_or : GroupsLeft r.Disjunction
  by_and : GroupsLeft r.Conjunction
  by_sign : GroupsLeft r.Sum
  by_star : GroupsLeft r.Product

mutual
  -- An expression of this level is read from the front of ts, and s is left.
  pub data Reads : Rule → Tokens → Expr → Tokens → Type 0 where
    -- operands, with operators of the level between
    chain : {rule : Rule} {ts rest s : Tokens} {a x : Expr} → GroupsLeft rule → Reads (below rule) ts a rest → Joins rule a rest x s → Reads rule ts x s
    -- one optional .NOT.
    asserted : {ts s : Tokens} {x : Expr} → Reads r.Relation ts x s → Reads r.Negation ts x s
    denied : {ts rest s : Tokens} {a x : Expr} → IsNext ts k.Not rest → Reads r.Relation rest a s → x ≡ e.Not a → Reads r.Negation ts x s
    -- at most one relation
    alone : {ts s : Tokens} {x : Expr} → Reads r.Sum ts x s → Reads r.Relation ts x s
    compared : {ts rest more s : Tokens} {kind : Kind} {o : Op} {a b x : Expr} → Reads r.Sum ts a rest → IsNext rest kind more → operator r.Relation kind ≡ Some o → Reads r.Sum more b s → x ≡ e.Binary o a b → Reads r.Relation ts x s
    -- an optional sign, which belongs to the first term
    negated : {ts rest more s : Tokens} {a x : Expr} → IsNext ts k.Minus rest → Reads r.Product rest a more → Joins r.Sum (e.Neg a) more x s → Reads r.Sum ts x s
    kept : {ts rest more s : Tokens} {a x : Expr} → IsNext ts k.Plus rest → Reads r.Product rest a more → Joins r.Sum (e.Plus a) more x s → Reads r.Sum ts x s
    -- a primary with an optional ** and factor
    single : {ts s : Tokens} {x : Expr} → Reads r.Primary ts x s → Reads r.Factor ts x s
    power : {ts rest more s : Tokens} {kind : Kind} {o : Op} {a b x : Expr} → Reads r.Primary ts a rest → IsNext rest kind more → operator r.Factor kind ≡ Some o → Reads r.Factor more b s → x ≡ e.Binary o a b → Reads r.Factor ts x s
    -- primaries
    number : {ts s : Tokens} {x : Expr} (n digits : _) → ts ≡ t.Int n digits ∷ s → x ≡ e.Int n → Reads r.Primary ts x s
    yes : {ts s : Tokens} {x : Expr} → IsNext ts k.True s → x ≡ e.Truth true → Reads r.Primary ts x s
    no : {ts s : Tokens} {x : Expr} → IsNext ts k.False s → x ≡ e.Truth false → Reads r.Primary ts x s
    name : {ts s : Tokens} {x : Expr} (word : List ℕ) → ts ≡ t.Word word ∷ s → is_name word ≡ true → x ≡ e.Scalar word → Reads r.Primary ts x s
    applied : {ts rest more s : Tokens} {x : Expr} {all : List Expr} (word : List ℕ) → ts ≡ t.Word word ∷ rest → is_name word ≡ true → IsNext rest k.Open more → Lists more all s → x ≡ e.Apply word all → Reads r.Primary ts x s
    paren : {ts rest more s : Tokens} {a x : Expr} → IsNext ts k.Open rest → Reads r.Equivalence rest a more → IsNext more k.Close s → x ≡ e.Paren a → Reads r.Primary ts x s

  -- To a go operators of this level with their operands, from the left.
  pub data Joins : Rule → Expr → Tokens → Expr → Tokens → Type 0 where
    stop : {rule : Rule} {a x : Expr} {ts s : Tokens} → x ≡ a → s ≡ ts → Joins rule a ts x s
    go : {rule : Rule} {kind : Kind} {o : Op} {a b x : Expr} {ts rest more s : Tokens} → IsNext ts kind rest → operator rule kind ≡ Some o → Reads (below rule) rest b more → Joins rule (e.Binary o a b) more x s → Joins rule a ts x s

  -- Behind an opening parenthesis: no expression or expressions with commas between, and the closing one.
  pub data Lists : Tokens → List Expr → Tokens → Type 0 where
    none : {ts s : Tokens} {all : List Expr} → IsNext ts k.Close s → all ≡ [] → Lists ts all s
    some : {ts s : Tokens} {all : List Expr} → Items ts all s → Lists ts all s

  pub data Items : Tokens → List Expr → Tokens → Type 0 where
    last : {ts rest s : Tokens} {x : Expr} {all : List Expr} → Reads r.Equivalence ts x rest → IsNext rest k.Close s → all ≡ x ∷ [] → Items ts all s
    more : {ts rest after s : Tokens} {x : Expr} {all others : List Expr} → Reads r.Equivalence ts x rest → IsNext rest k.Comma after → Items after others s → all ≡ x ∷ others → Items ts all s

-- an expression, and what is left behind it
abbrev pub ReadsExpression : Tokens → Expr → Tokens → Type 0
ReadsExpression ts x s = Reads r.Equivalence ts x s
