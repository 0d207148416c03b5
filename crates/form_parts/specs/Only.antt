-- What a reader of tokens says of a part that it found, and where it found none.
use Rattle.std.specs.Prelude.{◌≡◌, ◌<◌, ◌≤◌, Bool, true, List, [], ◌∷◌, length}
use Rattle.f77_tree.specs.declared.expr.Expr.{Expr}
use Rattle.f77_expr.specs.declared.token.Kind.{Kind}
use Rattle.f77_expr.specs.declared.token.Kind.TheVariants as k
use Rattle.f77_expr.specs.Kinds.{Tokens, IsNext}
use Rattle.f77_expr.specs.Longest.{IsLongest}
use Rattle.form_parts.specs.Listed.{Listed, behind_comma, Chained}

-- no token of this kind stands first
pub record NotNext (ts : Tokens) (kind : Kind) : Type 0 where
  pub not : (rest : Tokens) → IsNext ts kind rest → ⊥

-- ---- parts of lists

-- What may stand behind a part: nothing, a comma, a closing parenthesis, `=`, and behind some a slash.
pub data Follows (slash : Bool) (ts : Tokens) : Type 0 where
  over : ts ≡ [] → Follows slash ts
  comma : (rest : Tokens) → IsNext ts k.Comma rest → Follows slash ts
  close : (rest : Tokens) → IsNext ts k.Close rest → Follows slash ts
  equals : (rest : Tokens) → IsNext ts k.Equals rest → Follows slash ts
  cut : (rest : Tokens) → slash ≡ true → IsNext ts k.Slash rest → Follows slash ts

-- a part at the front, and the only one that ends where a list may go on or end
pub record OnlyPart {A : Type 0} (Part : Tokens → A → Tokens → Type 0) (slash : Bool) (ts : Tokens) (x : A) (s : Tokens) : Type 0 where
  pub part : Part ts x s
  pub shorter : length s < length ts
  pub only : (y : A) (z : Tokens) → Part ts y z → Follows slash z → (y ≡ x) × (z ≡ s)

pub record NoPart {A : Type 0} (Part : Tokens → A → Tokens → Type 0) (slash : Bool) (ts : Tokens) : Type 0 where
  pub not : (y : A) (z : Tokens) → Part ts y z → Follows slash z → ⊥

-- no comma with a part behind it stands here
pub record Halts {A : Type 0} (Part : Tokens → A → Tokens → Type 0) (ts : Tokens) : Type 0 where
  pub not : (rest s : Tokens) (x : A) → IsNext ts k.Comma rest → Part rest x s → ⊥

-- a list at the front, and the only one that ends where no part follows
pub record OnlyListed {A : Type 0} (Part : Tokens → A → Tokens → Type 0) (slash : Bool) (ts : Tokens) (all : List A) (s : Tokens) : Type 0 where
  pub listed : Listed Part ts all s
  pub shorter : length s < length ts
  pub only : (others : List A) (z : Tokens) → Listed Part ts others z → Follows slash z → Halts Part z → (others ≡ all) × (z ≡ s)

pub record NoList {A : Type 0} (Part : Tokens → A → Tokens → Type 0) (slash : Bool) (ts : Tokens) : Type 0 where
  pub not : (others : List A) (z : Tokens) → Listed Part ts others z → Follows slash z → ⊥

-- how a list goes on behind a part: not at all, or by a comma and a list
pub data Tail {A : Type 0} (Part : Tokens → A → Tokens → Type 0) : Tokens → List A → Tokens → Type 0 where
  stop : {ts s : Tokens} {all : List A} → all ≡ [] → s ≡ ts → Tail Part ts all s
  go : {ts rest s : Tokens} {all : List A} → IsNext ts k.Comma rest → Listed Part rest all s → Tail Part ts all s

pub record OnlyTail {A : Type 0} (Part : Tokens → A → Tokens → Type 0) (slash : Bool) (ts : Tokens) (all : List A) (s : Tokens) : Type 0 where
  pub tail : Tail Part ts all s
  pub shorter : length s ≤ length ts
  pub only : (others : List A) (z : Tokens) → Tail Part ts others z → Follows slash z → Halts Part z → (others ≡ all) × (z ≡ s)

-- ---- parts one after another

-- nothing more, or another part
pub data Resumes {A : Type 0} (Part : Tokens → A → Tokens → Type 0) (ts : Tokens) : Type 0 where
  ended : ts ≡ [] → Resumes Part ts
  resumed : (x : A) (s : Tokens) → 0 < length ts → Part (behind_comma ts) x s → Resumes Part ts

-- a part at the front, and the only one behind which nothing or another part stands
pub record OnlyEntry {A : Type 0} (First Part : Tokens → A → Tokens → Type 0) (ts : Tokens) (x : A) (s : Tokens) : Type 0 where
  pub part : First ts x s
  pub shorter : length s < length ts
  pub only : (y : A) (z : Tokens) → First ts y z → Resumes Part z → (y ≡ x) × (z ≡ s)

pub record NoEntry {A : Type 0} (First Part : Tokens → A → Tokens → Type 0) (ts : Tokens) : Type 0 where
  pub not : (y : A) (z : Tokens) → First ts y z → Resumes Part z → ⊥

-- the parts up to the end, behind a first one
pub record OnlyChained {A : Type 0} (Part : Tokens → A → Tokens → Type 0) (first : A) (ts : Tokens) (all : List A) : Type 0 where
  pub others : List A
  pub is : all ≡ first ∷ others
  pub chained : Chained Part ts others
  pub only : (more : List A) → Chained Part ts more → more ≡ others

-- ---- parts that end at one place alone

pub record OnlyFront {A : Type 0} (Part : Tokens → A → Tokens → Type 0) (ts : Tokens) (x : A) (s : Tokens) : Type 0 where
  pub part : Part ts x s
  pub shorter : length s < length ts
  pub only : (y : A) (z : Tokens) → Part ts y z → (y ≡ x) × (z ≡ s)

pub record NoFront {A : Type 0} (Part : Tokens → A → Tokens → Type 0) (ts : Tokens) : Type 0 where
  pub not : (y : A) (z : Tokens) → Part ts y z → ⊥

-- the longest expression at the front
pub record LongestFront (ts : Tokens) (x : Expr) (s : Tokens) : Type 0 where
  pub is : IsLongest ts x s
  pub shorter : length s < length ts

-- ---- all of the tokens, or all of a text

-- this and nothing else
pub record Sole {I A : Type 0} (Is : I → A → Type 0) (at : I) (x : A) : Type 0 where
  pub is : Is at x
  pub only : (y : A) → Is at y → y ≡ x

pub record Never {I A : Type 0} (Is : I → A → Type 0) (at : I) : Type 0 where
  pub not : (y : A) → Is at y → ⊥
