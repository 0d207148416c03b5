-- Where an output stands behind one more piece.
use Rattle.std.proofs.Common.{◌≡◌, ℕ, ◌+◌, ◌-◌, ◌≤◌, ◌<◌, Bool, not, nat_eq, List, [], ◌∷◌, ◌++◌, length, length-append, refl, sym, ap, ◌∙◌, arith}
use Rattle.rv_machine.specs.Lines.{within_line}
use Rattle.rv_machine.specs.Machine.{State, step_prints, run, output}
use Rattle.rv_machine.proofs.Steps.{output-more, output-grows}

pub within_line-append : (before : Bool) (a b : List ℕ) → within_line before (a ++ b) ≡ within_line (within_line before a) b
within_line-append before [] b = refl
within_line-append before (x ∷ a) b = within_line-append (not (nat_eq x 10)) a b

-- the last byte decides
pub within_line_last : (before : Bool) (a : List ℕ) (last : ℕ) → within_line before (a ++ last ∷ []) ≡ not (nat_eq last 10)
within_line_last before a last = within_line-append before a (last ∷ [])

pub line_none : (before : Bool) (t : List ℕ) → t ≡ [] → before ≡ within_line before t
line_none before t e = sym (ap (within_line before) e)

pub line_more : (before now next : Bool) (k : ℕ) (s mid : State) → mid ≡ run k s → now ≡ within_line before (output k s) → next ≡ within_line now (step_prints mid) → next ≡ within_line before (output (k + 1) s)
line_more before now next k s mid e p q =
    q ∙ ap (λ b. within_line b (step_prints mid)) p ∙ sym (within_line-append before (output k s) (step_prints mid)) ∙ sym (ap (within_line before) (output-more k s mid e))

-- an output that has grown is longer
pub some_more : (k n : ℕ) (s mid : State) → mid ≡ run k s → k + 1 ≤ n → 0 < length (step_prints mid) → 0 < length (output n s)
some_more k n s mid e h p =
    let grown : length (output n s) ≡ length (output (k + 1) s ++ output (n - (k + 1)) (run (k + 1) s)) = ap length (output-grows (k + 1) n s h) in
    let more : length (output (k + 1) s) ≡ length (output k s ++ step_prints mid) = ap length (output-more k s mid e) in
    omega (arith, grown, more, length-append (output k s) (step_prints mid), length-append (output (k + 1) s) (output (n - (k + 1)) (run (k + 1) s)))
