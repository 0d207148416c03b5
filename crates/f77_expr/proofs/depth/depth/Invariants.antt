use Rattle.std.proofs.Common.{◌≡◌, ◌≤◌, fold, take}
use Rattle.f77_expr.specs.Depth.{nested}
use Rattle.f77_expr.proofs.depth.depth.Given as goal

abbrev pub invariant-loop-token : goal.invariant-loop-token
invariant-loop-token l = record { state : (l.now, l.most) ≡ fold nested (0, 0) (take l.token-index l.tokens); small : l.now ≤ l.token-index }
