-- What a statement does, as a tree of acts, and how a tree is played in a world.
use Rattle.std.specs.Prelude.{ℕ, List, [], ◌∷◌, ◌++◌, Option, Some, None, ℤ}
use Rattle.run_model.specs.Storage.{Value, Loc, Interval, Cells, put_cell}

infixl 10 ◌>>=◌
infixl 10 ◌>>◌
-- the cells, what was printed, the input still to come, and how many steps may still begin
pub record World : Type 0 where
  pub cells : Cells
  pub out : List ℕ
  pub input : List ℤ
  pub left : ℕ

-- Why a run stops: no step is left, the program ended with this status, the action with this number was undefined, or it is no program.
pub data Reason : Type 0 where
  Spent : Reason
  Ended : (status : ℕ) → Reason
  Undefined : (cause : ℕ) → Reason
  Stuck : Reason

pub data Outcome (A : Type 0) : Type 0 where
  Fine : A → World → Outcome A
  Stop : Reason → World → Outcome A

abbrev pub then_do : {A B : Type 0} → Outcome A → (A → World → Outcome B) → Outcome B
then_do (Fine a w) f = f a w
then_do (Stop r w) f = Stop r w

-- a function's result, or nothing
abbrev pub Answer : Type 0
Answer = Option Value

-- what is called at a site, with these actual arguments, from a world
abbrev pub Handler : Type 0
Handler = (site : ℕ) → List Interval → World → Outcome Answer

-- Get reads a cell, Put stores to one, Say prints bytes, Take takes the next integer of the input, Ask calls, Fail stops the run.
pub data Act (A : Type 0) : Type 0 where
  Done : A → Act A
  Get : Loc → (Value → Act A) → Act A
  Put : Loc → Value → Act A → Act A
  Say : List ℕ → Act A → Act A
  Take : (ℤ → Act A) → Act A
  Ask : (site : ℕ) → List Interval → (Answer → Act A) → Act A
  Fail : Reason → Act A

abbrev pub and_then : {A B : Type 0} → Act A → (A → Act B) → Act B
and_then (Done a) f = f a
and_then (Get l k) f = Get l (λ v. and_then (k v) f)
and_then (Put l v a) f = Put l v (and_then a f)
and_then (Say bs a) f = Say bs (and_then a f)
and_then (Take k) f = Take (λ x. and_then (k x) f)
and_then (Ask s ds k) f = Ask s ds (λ r. and_then (k r) f)
and_then (Fail r) f = Fail r

-- what `do` stands for: one act after another
abbrev pub ◌>>=◌ : {A B : Type 0} → Act A → (A → Act B) → Act B
a >>= f = and_then a f

abbrev pub ◌>>◌ : {A B : Type 0} → Act A → Act B → Act B
a >> b = and_then a (λ x. b)

-- reading an undefined cell is undefined action 1
abbrev pub with_cell : {A : Type 0} → Option Value → World → (Value → Outcome A) → Outcome A
with_cell None w go = Stop (Undefined 1) w
with_cell (Some v) w go = go v

-- with no integer left the run ends with status 3
abbrev pub with_input : {A : Type 0} → List ℤ → World → (ℤ → World → Outcome A) → Outcome A
with_input [] w go = Stop (Ended 3) w
with_input (x ∷ xs) w go = go x (record w { input = xs })

abbrev pub play : {A : Type 0} → Handler → Act A → World → Outcome A
play h (Done a) w = Fine a w
play h (Get l k) w = with_cell (w.cells l) w (λ v. play h (k v) w)
play h (Put l v a) w = play h a (record w { cells = put_cell l v w.cells })
play h (Say bs a) w = play h a (record w { out = w.out ++ bs })
play h (Take k) w = with_input w.input w (λ x w1. play h (k x) w1)
play h (Ask s ds k) w = then_do (h s ds w) (λ r w1. play h (k r) w1)
play h (Fail r) w = Stop r w

-- nothing is called
abbrev pub no_calls : Handler
no_calls site actuals w = Stop Stuck w
