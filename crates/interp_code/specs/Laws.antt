-- That the steps of an expression do what the expression does, whatever follows.
use Rattle.std.specs.Prelude.{◌≡◌, ℕ, List, [], ◌∷◌, flat_map}
use Rattle.run_model.specs.Acts.{Done, and_then}
use Rattle.f77_semantics.specs.Program.{Term, Terms, Statement, Bound, Routine}
use Rattle.f77_semantics.specs.Expressions.{Frame, value, values, actuals}
use Rattle.f77_semantics.specs.Statements.{Here, target, items, read_all, perform}
use Rattle.f77_semantics.specs.Units.{dimensions}
use Rattle.interp_code.specs.Steps.{Step, Operands, Item, Place, onto, passed_onto, operands_onto, shown, said, steps}
use Rattle.interp_code.specs.Endings.{prelude, ending, finish}
use Rattle.interp_code.specs.Entries.{bounds_code, shaped}
use Rattle.interp_code.specs.Code.{code, codes, passes, aim, shows, reads}

pub record CodeDoes : Type 0 where
  pub value_ : (f : Frame) (t : Term) (cs : List Step) (s : Operands) → steps f (code t cs) s ≡ and_then (value f t) (λ v. steps f cs (Item v ∷ s))
  pub values_ : (f : Frame) (ts : Terms) (cs : List Step) (s : Operands) → steps f (codes ts cs) s ≡ and_then (values f ts) (λ vs. steps f cs (onto vs s))
  pub actuals_ : (f : Frame) (site position : ℕ) (ts : Terms) (cs : List Step) (s : Operands) → steps f (passes site position ts cs) s ≡ and_then (actuals f site position ts) (λ ds. steps f cs (passed_onto ds s))
  pub target_ : (f : Frame) (t : Term) (cs : List Step) (s : Operands) → steps f (aim t cs) s ≡ and_then (target f t) (λ l. steps f cs (Place l ∷ s))
  pub shown_ : (f : Frame) (ts : Terms) (cs : List Step) (s : Operands) → steps f (shows ts cs) s ≡ and_then (shown f ts) (λ os. steps f cs (operands_onto os s))
  pub items_ : (f : Frame) (ts : Terms) → items f ts ≡ and_then (shown f ts) (λ os. Done (flat_map said os))
  pub targets_ : (f : Frame) (ts : Terms) (cs : List Step) (s : Operands) → steps f (reads ts cs) s ≡ and_then (read_all f ts) (λ _. steps f cs s)

-- A statement is its steps and then its ending.
abbrev pub StatementsDo : Type 0
StatementsDo = (u : Routine) (f : Frame) (s : Here) (k : ℕ) (t : Statement) → perform u f s k t ≡ and_then (steps f (prelude t) []) (finish u f s k (ending t))

-- The bounds of a dummy array are their steps, and then their shape.
abbrev pub BoundsDo : Type 0
BoundsDo = (f : Frame) (long : ℕ) (bounds : List Bound) → dimensions f long bounds ≡ and_then (steps f (bounds_code bounds) []) (shaped long)
