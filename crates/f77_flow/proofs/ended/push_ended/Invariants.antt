use Rattle.std.proofs.Common.{◌≡◌, ℕ, suc, cond, nat_lt, length}
use Rattle.f77_flow.specs.Tables.{inner_in}
use Rattle.f77_flow.proofs.Adding.{Comes}
use Rattle.f77_flow.proofs.ended.push_ended.Given as goal

abbrev pub invariant-turn : goal.invariant-turn
invariant-turn l = (m : ℕ) → l.first ≡ inner_in l.control.statements.now l.last m → Comes l.control.statements.now l.last m l.d l.fn.all l.all

-- a DO around one stands above it, and no DO is behind the last statement
abbrev pub decreases-turn : goal.decreases-turn
decreases-turn l = cond (nat_lt l.d (length l.control.statements.now)) (suc l.d) 0
