-- A program's run, step by step, beside what its code prints.
use Rattle.std.proofs.Common.{◌≡◌, ℕ, zero, suc, ◌≤◌, ◌<◌, List, [], ◌∷◌, ◌++◌, length, take, Some, refl, sym, ap, ◌∙◌, subst, append_assoc, append-nil, arith, length-append}
use Rattle.std.specs.Prelude.{slice_get}
use Rattle.std.specs.List.{All}
use Rattle.run_model.specs.Acts.{World, Spent, Ended, Undefined, Outcome, Stop, then_do, Act, Answer, play, no_calls}
use Rattle.run_model.specs.Turns.{After, ticked, follow, turns}
use Rattle.thin_form.specs.declared.statement.Statement.{Statement}
use Rattle.thin_form.specs.declared.statement.Statement.TheVariants.{End}
use Rattle.thin_form.specs.Programs.{IsPlain}
use Rattle.rv_machine.specs.Memory.{Memory}
use Rattle.thin_code.specs.Meaning.{perform, perform_at}
use Rattle.thin_code.specs.Code.{Frame}
use Rattle.thin_code.proofs.Effects.{memory_after, statement_text, IsSound}
use Rattle.thin_code.proofs.Bodies.{text_of}
use Rattle.thin_code.proofs.Sourced.{Holds}
use Rattle.thin_code.proofs.Performed.{Performs, goes_on, stops, performs}

-- the element behind so many
slice_get-append : (before : List Statement) (x : Statement) (rest : List Statement) → slice_get (before ++ x ∷ rest) (length before) ≡ Some x
slice_get-append [] x rest = refl
slice_get-append (b ∷ before) x rest = slice_get-append before x rest

-- What n steps come to, from the statements in front of END on: they are too few, or END was reached, or an action was undefined.
pub data Comes (f : Frame) (front : List Statement) (n : ℕ) (m : Memory) (w : World) (o : Outcome Answer) : Type 0 where
  going : (v : World) → n ≤ length front → o ≡ Stop Spent v → v.out ≡ w.out ++ text_of f m (take n front) → Comes f front n m w o
  ended : (v : World) → suc (length front) ≤ n → o ≡ Stop (Ended 0) v → v.out ≡ w.out ++ text_of f m front → Comes f front n m w o
  undefined : (c : ℕ) (v : World) → o ≡ Stop (Undefined c) v → Comes f front n m w o

abbrev pub turn_of : Frame → List Statement → ℕ → Act (After ℕ)
turn_of f body k = perform_at f.names k (slice_get body k)

pub comes : (f : Frame) (body before front : List Statement) → body ≡ before ++ (front ++ End ∷ []) → All IsPlain front → All (IsSound f) front → (n fuel : ℕ) → n < fuel → (m : Memory) (w : World) → w.left ≡ n → Holds f w.cells m
    → Comes f front n m w (turns no_calls (turn_of f body) fuel (length before) w)
comes f body before front e p i n zero l m w left h = absurd (omega arith)
comes f body before front e p i zero (suc j) l m w left h =
    going w (omega arith) (ap (λ n. ticked n w (λ w1. then_do (play no_calls (turn_of f body (length before)) w1) (λ a w2. follow a w2 (turns no_calls (turn_of f body) j)))) left) (sym (append-nil w.out))
comes f body before [] e p i (suc n) (suc j) l m w left h =
    let s : slice_get body (length before) ≡ Some End = ap (λ b. slice_get b (length before)) e ∙ slice_get-append before End [] in
    ended (record w { left = n }) (omega arith)
    (ap (λ n. ticked n w (λ w1. then_do (play no_calls (turn_of f body (length before)) w1) (λ a w2. follow a w2 (turns no_calls (turn_of f body) j)))) left
    ∙ ap (λ x. then_do (play no_calls (perform_at f.names (length before) x) (record w { left = n })) (λ a w2. follow a w2 (turns no_calls (turn_of f body) j))) s)
    (sym (append-nil w.out))
comes f body before (x ∷ front) e p i (suc n) (suc j) l m w left h =
    let k = length before in
    let s : slice_get body k ≡ Some x = ap (λ b. slice_get b k) e ∙ slice_get-append before x (front ++ End ∷ []) in
    let start = ap (λ n. ticked n w (λ w1. then_do (play no_calls (turn_of f body k) w1) (λ a w2. follow a w2 (turns no_calls (turn_of f body) j)))) left
    ∙ ap (λ x. then_do (play no_calls (perform_at f.names k x) (record w { left = n })) (λ a w2. follow a w2 (turns no_calls (turn_of f body) j))) s in
    subst (Comes f (x ∷ front) (suc n) m w) (sym start)
    (go (play no_calls (perform f.names k x) (record w { left = n })) (performs f k (record w { left = n }) m x h (p 0 x (omega arith)) (i 0 x (omega arith)))
    (λ v vl vh.
    let z : length (before ++ x ∷ []) ≡ suc k = length-append before (x ∷ []) ∙ omega arith in
    subst (λ q. Comes f front n (memory_after f m x) v (turns no_calls (turn_of f body) j q v)) z
    (comes f body (before ++ x ∷ []) front (e ∙ sym (append_assoc before (x ∷ []) (front ++ End ∷ []))) (λ k d l. p (suc k) d (omega arith)) (λ k d l. i (suc k) d (omega arith)) n j (omega arith) (memory_after f m x) v vl vh)))
  where
    after : (v : World) → v.out ≡ w.out ++ statement_text f m x → (o : Outcome Answer) → Comes f front n (memory_after f m x) v o → Comes f (x ∷ front) (suc n) m w o
    after v out o (going u c q t) = going u (omega arith) q (t ∙ ap (λ a. a ++ text_of f (memory_after f m x) (take n front)) out ∙ append_assoc w.out (statement_text f m x) (text_of f (memory_after f m x) (take n front)))
    after v out o (ended u c q t) = ended u (omega arith) q (t ∙ ap (λ a. a ++ text_of f (memory_after f m x) front) out ∙ append_assoc w.out (statement_text f m x) (text_of f (memory_after f m x) front))
    after v out o (undefined c u q) = undefined c u q

    go : (o : Outcome (After ℕ)) → Performs f (length before) (record w { left = n }) (memory_after f m x) (statement_text f m x) o
        → ((v : World) → v.left ≡ n → Holds f v.cells (memory_after f m x) → Comes f front n (memory_after f m x) v (turns no_calls (turn_of f body) j (suc (length before)) v))
        → Comes f (x ∷ front) (suc n) m w (then_do o (λ a w2. follow a w2 (turns no_calls (turn_of f body) j)))
    go o (goes_on v q out vl vh) ih =
        subst (Comes f (x ∷ front) (suc n) m w) (sym (ap (λ o. then_do o (λ a w2. follow a w2 (turns no_calls (turn_of f body) j))) q))
        (after v out (turns no_calls (turn_of f body) j (suc (length before)) v) (ih v vl vh))
    go o (stops c v q) ih = undefined c v (ap (λ o. then_do o (λ a w2. follow a w2 (turns no_calls (turn_of f body) j))) q)
