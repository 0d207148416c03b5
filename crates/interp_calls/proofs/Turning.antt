-- Turns one after another.
use Rattle.std.proofs.Common.{◌≡◌, ℕ, suc, List, Option, Result}
use Rattle.run_model.specs.Acts.{World, Fine, Outcome, then_do, Act, Answer, Handler, play}
use Rattle.run_model.specs.Turns.{After, ticked, follow, turns}
use Rattle.interp_calls.specs.declared.halt.Halt.{Halt}
use Rattle.interp_calls.specs.Behind.{AllAppend}
use Rattle.interp_calls.specs.Sending.{Sends}
use Rattle.interp_calls.proofs.Appending.{follow_appends, turns_append}
use Rattle.interp_calls.proofs.Reaching.{sends_onward, sends_step, sends_then}

module _ {S : Type 0} (h : Handler) (all : AllAppend h) (turn : S → Act (After S)) (n : ℕ) (s : S) where
  -- what is done when a step has begun
  abbrev pub stepped : World → Outcome Answer
  stepped w = then_do (play h (turn s) w) (λ a v. follow a v (turns h turn n))

  -- a step begins, and its turn is taken
  pub turn_sends : {T : Type 0} → (w w1 w2 : World) (now later : Option (List ℕ)) (r : Result T Halt) (view : T → After S) → ((go : World → Outcome Answer) → ticked w.left w go ≡ go w1) → Sends r (λ y. Fine (view y)) w1 w2 now later (play h (turn s))
      → Sends r (λ y v. follow (view y) v (turns h turn n)) w w2 now later (turns h turn (suc n) s)
  turn_sends w w1 w2 now later r view begins taken =
      sends_onward w w1 now now tt (λ _. stepped) (turns h turn (suc n) s) w2 later r (λ y v. follow (view y) v (turns h turn n)) (sends_step w w1 now stepped begins)
      (sends_then w1 w2 now later r (λ y. Fine (view y)) (play h (turn s)) (λ a v. follow a v (turns h turn n)) (λ a. follow_appends h all a (turns h turn n) (turns_append h all turn n)) taken)
