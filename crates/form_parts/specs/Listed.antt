-- Parts of a statement with commas between them.
use Rattle.std.specs.Prelude.{◌≡◌, ◌<◌, List, [], ◌∷◌, length}
use Rattle.f77_expr.specs.declared.token.Token.{Token}
use Rattle.f77_expr.specs.declared.token.Kind.{Kind}
use Rattle.f77_expr.specs.declared.token.Kind.TheVariants as k
use Rattle.f77_expr.specs.Kinds.{Tokens, IsNext, kind_of}

-- one or more parts with commas between, and what is left behind the last
pub data Listed {A : Type 0} (Part : Tokens → A → Tokens → Type 0) : Tokens → List A → Tokens → Type 0 where
  last : {ts s : Tokens} {x : A} {all : List A} → Part ts x s → all ≡ x ∷ [] → Listed Part ts all s
  more : {ts rest after s : Tokens} {x : A} {others all : List A} → Part ts x rest → IsNext rest k.Comma after → Listed Part after others s → all ≡ x ∷ others → Listed Part ts all s

-- such a list between parentheses
pub record Parenthesized {A : Type 0} (Part : Tokens → A → Tokens → Type 0) (ts : Tokens) (all : List A) (s : Tokens) : Type 0 where
  pub inside : Tokens
  pub behind : Tokens
  pub opens : IsNext ts k.Open inside
  pub listed : Listed Part inside all behind
  pub closes : IsNext behind k.Close s

-- such a list and nothing behind it
abbrev pub Whole : {A : Type 0} → (Tokens → A → Tokens → Type 0) → Tokens → List A → Type 0
Whole Part ts all = Listed Part ts all []

-- ---- one after another, where a comma may stand between

abbrev pub behind_comma_at : Kind → Token → Tokens → Tokens
behind_comma_at k.Comma token ts = ts
behind_comma_at _ token ts = token ∷ ts

-- what is left behind a comma, if one stands first
abbrev pub behind_comma : Tokens → Tokens
behind_comma [] = []
behind_comma (token ∷ ts) = behind_comma_at (kind_of token) token ts

-- parts up to the end of the tokens
pub data Chained {A : Type 0} (Part : Tokens → A → Tokens → Type 0) : Tokens → List A → Type 0 where
  none : {ts : Tokens} {all : List A} → ts ≡ [] → all ≡ [] → Chained Part ts all
  some : {ts s : Tokens} {x : A} {others all : List A} → 0 < length ts → Part (behind_comma ts) x s → Chained Part s others → all ≡ x ∷ others → Chained Part ts all

-- a first part, and others up to the end of the tokens
pub record Sequence {A : Type 0} (First Part : Tokens → A → Tokens → Type 0) (ts : Tokens) (all : List A) : Type 0 where
  pub x : A
  pub rest : Tokens
  pub others : List A
  pub first : First ts x rest
  pub chained : Chained Part rest others
  pub is : all ≡ x ∷ others
