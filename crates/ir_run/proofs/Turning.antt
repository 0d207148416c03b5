-- A turn that is taken, and what it leads to.
use Rattle.std.proofs.Common.{◌≡◌, ℕ, suc, ap, ◌∙◌}
use Rattle.run_model.specs.Acts.{World, Outcome, then_do, Answer, Act, Handler, play}
use Rattle.run_model.specs.Turns.{After, ticked, follow, turns}

module _ {S : Type 0} (h : Handler) (turn : S → Act (After S)) (more : ℕ) (s : S) where
  -- what follows a turn
  abbrev pub onward : After S → World → Outcome Answer
  onward a v = follow a v (turns h turn more)

  -- what is done behind the beginning of the step
  abbrev pub stepped : World → Outcome Answer
  stepped w = then_do (play h (turn s) w) onward

  pub led : (w w1 : World) → ticked w.left w stepped ≡ stepped w1 → (o : Outcome (After S)) → play h (turn s) w1 ≡ o → turns h turn (suc more) s w ≡ then_do o onward
  led w w1 begins o e = begins ∙ ap (λ o. then_do o onward) e
