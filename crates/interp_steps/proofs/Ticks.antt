-- A step that begins where one is left.
use Rattle.std.proofs.Common.{◌≡◌, ℕ, zero, suc, ◌-◌, ◌<◌, ap, arith}
use Rattle.run_model.specs.Acts.{World, Spent, Outcome, Stop, Answer}
use Rattle.run_model.specs.Turns.{ticked}

pub ticks : (n m : ℕ) (w : World) (go : World → Outcome Answer) → 0 < n → m ≡ n - 1 → ticked n w go ≡ go (record w { left = m })
ticks zero m w go h e = absurd (omega arith)
ticks (suc n) m w go h e = let same : n ≡ m = omega arith in ap (λ l. go (record w { left = l })) same

pub no_ticks : (n : ℕ) (w : World) (go : World → Outcome Answer) → n ≡ 0 → ticked n w go ≡ Stop Spent w
no_ticks n w go e = ap (λ l. ticked l w go) e

pub ruleset beginnings = (ticks, no_ticks)
