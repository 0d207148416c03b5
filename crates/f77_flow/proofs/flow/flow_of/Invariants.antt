use Rattle.std.proofs.Common.{◌≡◌, ℕ, ◌+◌, ◌≤◌, List, Some, length, slice_get}
use Rattle.std.specs.List.{All}
use Rattle.f77_flow.specs.Next.{IsNext}
use Rattle.f77_flow.proofs.flow.flow_of.Given as goal

abbrev pub invariant-loop-k : goal.invariant-loop-k
invariant-loop-k l = record {
  long : length l.next ≡ l.k;
  each : (k : ℕ) (js : List ℕ) → slice_get l.next k ≡ Some js → IsNext l.unit.statements k js;
  room : length l.marks ≡ length l.unit.statements + 1;
  marks : All (λ mark. mark ≤ l.k) l.marks;
}
