-- What is alike runs alike, under every handler. The states and what acts end with are numbers here.
use Rattle.std.specs.Prelude.{◌≡◌, ℕ, []}
use Rattle.run_model.specs.Acts.{World, Act, Handler, play, then_do}
use Rattle.run_model.specs.Turns.{After, run_from}
use Rattle.run_calls.specs.Calls.{calls, calls_from}
use Rattle.run_alike.specs.Like.{Like}
use Rattle.run_alike.specs.Alike.{Alike, AlikeFor, EntersAlike}

abbrev pub ActsRunAlike : Type 0
ActsRunAlike = (a b : Act ℕ) → Like (λ x y. x ≡ y) a b → (h : Handler) (w : World) → Alike (play h a w) (play h b w) (calls h a w (λ x v. [])) (calls h b w (λ x v. []))

abbrev pub TurnsRunAlike : Type 0
TurnsRunAlike = (turn other : ℕ → Act (After ℕ)) (s t : ℕ) → ((n : ℕ) → AlikeFor turn other n s t) → (h : Handler) (w : World)
    → Alike (run_from h turn s w) (run_from h other t w) (calls_from h turn s w) (calls_from h other t w)

abbrev pub EntriesRunAlike : Type 0
EntriesRunAlike = (entry : Act ℕ) (turn : ℕ → ℕ → Act (After ℕ)) (start : ℕ → ℕ) (other : ℕ → Act (After ℕ)) (t : ℕ)
    → EntersAlike entry turn start other t → (h : Handler) (w : World)
    → Alike (then_do (play h entry w) (λ e v. run_from h (turn e) (start e) v)) (run_from h other t w) (calls h entry w (λ e v. calls_from h (turn e) (start e) v)) (calls_from h other t w)
