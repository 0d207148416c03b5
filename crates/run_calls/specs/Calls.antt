-- The calls of a run, in order: a list beside the run, by the same recursions.
use Rattle.std.specs.Prelude.{ℕ, zero, suc, List, [], ◌∷◌, ◌++◌, Option, Some, None, ℤ}
use Rattle.run_model.specs.Storage.{Value, Interval, put_cell}
use Rattle.run_model.specs.Acts.{World, Outcome, Fine, Stop, Act, Done, Get, Put, Say, Take, Ask, Fail, Handler}
use Rattle.run_model.specs.Turns.{After, Again, Result}

-- what is called, with which actual arguments, from which world
pub record Call : Type 0 where
  pub site : ℕ
  pub actuals : List Interval
  pub world : World

-- nothing is called behind a stop
abbrev pub calls_then : {A : Type 0} → Outcome A → (A → World → List Call) → List Call
calls_then (Fine x w) go = go x w
calls_then (Stop r w) go = []

abbrev pub calls_cell : Option Value → (Value → List Call) → List Call
calls_cell None go = []
calls_cell (Some v) go = go v

abbrev pub calls_input : List ℤ → World → (ℤ → World → List Call) → List Call
calls_input [] w go = []
calls_input (x ∷ xs) w go = go x (record w { input = xs })

-- the calls of an act from a world, and then those of what follows it
abbrev pub calls : {A : Type 0} → Handler → Act A → World → (A → World → List Call) → List Call
calls h (Done a) w go = go a w
calls h (Get l k) w go = calls_cell (w.cells l) (λ v. calls h (k v) w go)
calls h (Put l v a) w go = calls h a (record w { cells = put_cell l v w.cells }) go
calls h (Say bs a) w go = calls h a (record w { out = w.out ++ bs }) go
calls h (Take k) w go = calls_input w.input w (λ x w1. calls h (k x) w1 go)
calls h (Ask s ds k) w go = record { site = s; actuals = ds; world = w } ∷ calls_then (h s ds w) (λ r w1. calls h (k r) w1 go)
calls h (Fail r) w go = []

abbrev pub calls_ticked : ℕ → World → (World → List Call) → List Call
calls_ticked zero w go = []
calls_ticked (suc n) w go = go (record w { left = n })

abbrev pub calls_follow : {S : Type 0} → After S → World → (S → World → List Call) → List Call
calls_follow (Again s) w go = go s w
calls_follow (Result r) w go = []

-- the calls of so many turns at most
abbrev pub turns_calls : {S : Type 0} → Handler → (S → Act (After S)) → ℕ → S → World → List Call
turns_calls h turn zero s w = []
turns_calls h turn (suc n) s w = calls_ticked w.left w (λ w1. calls h (turn s) w1 (λ a w2. calls_follow a w2 (turns_calls h turn n)))

-- the calls of `run_from`
abbrev pub calls_from : {S : Type 0} → Handler → (S → Act (After S)) → S → World → List Call
calls_from h turn s w = turns_calls h turn (suc w.left) s w

-- each call has the property
abbrev pub Each : (Call → Type 0) → List Call → Type 0
Each P [] = Unit {0}
Each P (c ∷ cs) = P c × Each P cs
