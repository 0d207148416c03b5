-- A run depends on its handler at its own calls alone, whatever its acts end with and its states are.
use Rattle.std.proofs.Common.{◌≡◌, ℕ, zero, suc, List, [], ◌∷◌, Option, Some, None, ℤ, refl, sym, ap, ◌∙◌, subst}
use Rattle.run_model.specs.Storage.{Value, Interval}
use Rattle.run_model.specs.Acts.{World, Spent, Ended, Undefined, Stuck, Outcome, Fine, Stop, then_do, Act, Done, Get, Put, Say, Take, Ask, Fail, Answer, Handler, play, with_cell, with_input}
use Rattle.run_model.specs.Turns.{After, Again, Result, ticked, follow, turns}
use Rattle.run_calls.specs.Calls.{Call, calls_then, calls_cell, calls_input, calls, calls_ticked, calls_follow, turns_calls, Each}
use Rattle.run_calls.specs.Same.{SameRun, AnswersSame, AnswersAlike}
use Rattle.run_calls.specs.Behaviours.{activation, DependsOnItsCalls}
use Rattle.run_calls.specs.Laws.{ActsDependOnTheirCalls, TurnsDependOnTheirCalls}
use Rattle.run_calls.proofs.Ends.{stops_itself, same_self}

-- ---- handlers that answer the same

-- the second run and its calls are those of the first
pub record AreSame {A : Type 0} (o p : Outcome A) (cs ds : List Call) : Type 0 where
  pub run : p ≡ o
  pub calls : ds ≡ cs

then_fine : {A : Type 0} → (o : Outcome A) → then_do o (λ x v. Fine x v) ≡ o
then_fine (Fine x v) = refl
then_fine (Stop r v) = refl

module _ (h g : Handler) where
  pub play_same : {A B : Type 0} → (a : Act A) (w : World) (kh kg : A → World → Outcome B) (goh gog : A → World → List Call) → ((x : A) (v : World) → Each (AnswersSame h g) (goh x v) → AreSame (kh x v) (kg x v) (goh x v) (gog x v)) → Each (AnswersSame h g) (calls h a w goh) → AreSame (then_do (play h a w) kh) (then_do (play g a w) kg) (calls h a w goh) (calls g a w gog)
  play_same (Done a) w kh kg goh gog k e = k a w e
  play_same {A = A} {B = B} (Get l f) w kh kg goh gog k e = at_cell (w.cells l) (λ v. play_same (f v) w kh kg goh gog k) e
    where
      at_cell : (o : Option Value) → ((v : Value) → Each (AnswersSame h g) (calls h (f v) w goh) → AreSame (then_do (play h (f v) w) kh) (then_do (play g (f v) w) kg) (calls h (f v) w goh) (calls g (f v) w gog)) → Each (AnswersSame h g) (calls_cell o (λ v. calls h (f v) w goh)) → AreSame (then_do (with_cell {A = A} o w (λ v. play h (f v) w)) kh) (then_do (with_cell {A = A} o w (λ v. play g (f v) w)) kg) (calls_cell o (λ v. calls h (f v) w goh)) (calls_cell o (λ v. calls g (f v) w gog))
      at_cell None ih e = record { run = refl; calls = refl }
      at_cell (Some v) ih e = ih v e
  play_same (Put l v a) w kh kg goh gog k e = play_same a _ kh kg goh gog k e
  play_same (Say bs a) w kh kg goh gog k e = play_same a _ kh kg goh gog k e
  play_same {A = A} {B = B} (Take f) w kh kg goh gog k e = at_input w.input (λ x v. play_same (f x) v kh kg goh gog k) e
    where
      at_input : (xs : List ℤ) → ((x : ℤ) (v : World) → Each (AnswersSame h g) (calls h (f x) v goh) → AreSame (then_do (play h (f x) v) kh) (then_do (play g (f x) v) kg) (calls h (f x) v goh) (calls g (f x) v gog)) → Each (AnswersSame h g) (calls_input xs w (λ x v. calls h (f x) v goh)) → AreSame (then_do (with_input {A = A} xs w (λ x v. play h (f x) v)) kh) (then_do (with_input {A = A} xs w (λ x v. play g (f x) v)) kg) (calls_input xs w (λ x v. calls h (f x) v goh)) (calls_input xs w (λ x v. calls g (f x) v gog))
      at_input [] ih e = record { run = refl; calls = refl }
      at_input (x ∷ xs) ih e = ih x (record w { input = xs }) e
  play_same {A = A} {B = B} (Ask s ds f) w kh kg goh gog k e =
      subst (λ p. AreSame (then_do (then_do (h s ds w) (λ x v. play h (f x) v)) kh) (then_do (then_do p (λ x v. play g (f x) v)) kg) (record { site = s; actuals = ds; world = w } ∷ calls_then (h s ds w) (λ x v. calls h (f x) v goh)) (record { site = s; actuals = ds; world = w } ∷ calls_then p (λ x v. calls g (f x) v gog))) (sym e.0)
      (at_answer (h s ds w) (λ x v. play_same (f x) v kh kg goh gog k) e.1)
    where
      at_answer : (o : Outcome Answer) → ((x : Answer) (v : World) → Each (AnswersSame h g) (calls h (f x) v goh) → AreSame (then_do (play h (f x) v) kh) (then_do (play g (f x) v) kg) (calls h (f x) v goh) (calls g (f x) v gog)) → Each (AnswersSame h g) (calls_then o (λ x v. calls h (f x) v goh)) → AreSame (then_do (then_do o (λ x v. play h (f x) v)) kh) (then_do (then_do o (λ x v. play g (f x) v)) kg) (record { site = s; actuals = ds; world = w } ∷ calls_then o (λ x v. calls h (f x) v goh)) (record { site = s; actuals = ds; world = w } ∷ calls_then o (λ x v. calls g (f x) v gog))
      at_answer (Fine x v) ih e = let t = ih x v e in record { run = t.run; calls = ap (λ cs. record { site = s; actuals = ds; world = w } ∷ cs) t.calls }
      at_answer (Stop r v) ih e = record { run = refl; calls = refl }
  play_same (Fail r) w kh kg goh gog k e = record { run = refl; calls = refl }

  pub turns_same : {S : Type 0} → (turn : S → Act (After S)) (n : ℕ) (s : S) (w : World) → Each (AnswersSame h g) (turns_calls h turn n s w) → AreSame (turns h turn n s w) (turns g turn n s w) (turns_calls h turn n s w) (turns_calls g turn n s w)
  turns_same turn zero s w e = record { run = refl; calls = refl }
  turns_same {S = S} turn (suc n) s w e = at_tick (turns_same turn n) w.left e
    where
      at_next : ((s : S) (w : World) → Each (AnswersSame h g) (turns_calls h turn n s w) → AreSame (turns h turn n s w) (turns g turn n s w) (turns_calls h turn n s w) (turns_calls g turn n s w)) → (a : After S) (v : World) → Each (AnswersSame h g) (calls_follow a v (turns_calls h turn n)) → AreSame (follow a v (turns h turn n)) (follow a v (turns g turn n)) (calls_follow a v (turns_calls h turn n)) (calls_follow a v (turns_calls g turn n))
      at_next ih (Again s) v e = ih s v e
      at_next ih (Result r) v e = record { run = refl; calls = refl }

      at_tick : ((s : S) (w : World) → Each (AnswersSame h g) (turns_calls h turn n s w) → AreSame (turns h turn n s w) (turns g turn n s w) (turns_calls h turn n s w) (turns_calls g turn n s w)) → (l : ℕ) → Each (AnswersSame h g) (calls_ticked l w (λ w1. calls h (turn s) w1 (λ a w2. calls_follow a w2 (turns_calls h turn n)))) → AreSame (ticked l w (λ w1. then_do (play h (turn s) w1) (λ a w2. follow a w2 (turns h turn n)))) (ticked l w (λ w1. then_do (play g (turn s) w1) (λ a w2. follow a w2 (turns g turn n)))) (calls_ticked l w (λ w1. calls h (turn s) w1 (λ a w2. calls_follow a w2 (turns_calls h turn n)))) (calls_ticked l w (λ w1. calls g (turn s) w1 (λ a w2. calls_follow a w2 (turns_calls g turn n))))
      at_tick ih zero e = record { run = refl; calls = refl }
      at_tick ih (suc m) e = play_same (turn s) _ _ _ _ _ (at_next ih) e

  -- ---- handlers that answer alike

  pub play_alike : {A B : Type 0} → (a : Act A) (w : World) (kh kg : A → World → Outcome B) (go : A → World → List Call) → ((x : A) (v : World) → Each (AnswersAlike h g) (go x v) → SameRun (kh x v) (kg x v)) → Each (AnswersAlike h g) (calls h a w go) → SameRun (then_do (play h a w) kh) (then_do (play g a w) kg)
  play_alike (Done a) w kh kg go k e = k a w e
  play_alike {A = A} {B = B} (Get l f) w kh kg go k e = at_cell (w.cells l) (λ v. play_alike (f v) w kh kg go k) e
    where
      at_cell : (o : Option Value) → ((v : Value) → Each (AnswersAlike h g) (calls h (f v) w go) → SameRun (then_do (play h (f v) w) kh) (then_do (play g (f v) w) kg)) → Each (AnswersAlike h g) (calls_cell o (λ v. calls h (f v) w go)) → SameRun (then_do (with_cell {A = A} o w (λ v. play h (f v) w)) kh) (then_do (with_cell {A = A} o w (λ v. play g (f v) w)) kg)
      at_cell None ih e = tt
      at_cell (Some v) ih e = ih v e
  play_alike (Put l v a) w kh kg go k e = play_alike a _ kh kg go k e
  play_alike (Say bs a) w kh kg go k e = play_alike a _ kh kg go k e
  play_alike {A = A} {B = B} (Take f) w kh kg go k e = at_input w.input (λ x v. play_alike (f x) v kh kg go k) e
    where
      at_input : (xs : List ℤ) → ((x : ℤ) (v : World) → Each (AnswersAlike h g) (calls h (f x) v go) → SameRun (then_do (play h (f x) v) kh) (then_do (play g (f x) v) kg)) → Each (AnswersAlike h g) (calls_input xs w (λ x v. calls h (f x) v go)) → SameRun (then_do (with_input {A = A} xs w (λ x v. play h (f x) v)) kh) (then_do (with_input {A = A} xs w (λ x v. play g (f x) v)) kg)
      at_input [] ih e = stops_itself (Ended 3) w
      at_input (x ∷ xs) ih e = ih x (record w { input = xs }) e
  play_alike {A = A} {B = B} (Ask s ds f) w kh kg go k e = at_answer (h s ds w) (g s ds w) (λ x v. play_alike (f x) v kh kg go k) e.0 e.1
    where
      over : (x : Answer) (v : World) → SameRun (then_do (play h (f x) v) kh) (then_do (play g (f x) v) kg) → (p : Outcome Answer) → p ≡ Fine x v → SameRun (then_do (play h (f x) v) kh) (then_do (then_do p (λ x v. play g (f x) v)) kg)
      over x v s p e = subst (λ p. SameRun (then_do (play h (f x) v) kh) (then_do (then_do p (λ x v. play g (f x) v)) kg)) (sym e) s

      at_answer : (o p : Outcome Answer) → ((x : Answer) (v : World) → Each (AnswersAlike h g) (calls h (f x) v go) → SameRun (then_do (play h (f x) v) kh) (then_do (play g (f x) v) kg)) → SameRun o p → Each (AnswersAlike h g) (calls_then o (λ x v. calls h (f x) v go)) → SameRun (then_do (then_do o (λ x v. play h (f x) v)) kh) (then_do (then_do p (λ x v. play g (f x) v)) kg)
      at_answer (Fine x v) p ih t e = over x v (ih x v e) p t
      at_answer (Stop Spent v) p ih t e = record { world = t.world; is = ap (λ p. then_do (then_do p (λ x v. play g (f x) v)) kg) t.is; alike = t.alike }
      at_answer (Stop (Ended z) v) p ih t e = record { world = t.world; is = ap (λ p. then_do (then_do p (λ x v. play g (f x) v)) kg) t.is; alike = t.alike }
      at_answer (Stop (Undefined z) v) p ih t e = tt
      at_answer (Stop Stuck v) p ih t e = tt
  play_alike (Fail r) w kh kg go k e = same_self (Stop r w)

  pub turns_alike : {S : Type 0} → (turn : S → Act (After S)) (n : ℕ) (s : S) (w : World) → Each (AnswersAlike h g) (turns_calls h turn n s w) → SameRun (turns h turn n s w) (turns g turn n s w)
  turns_alike turn zero s w e = stops_itself Spent w
  turns_alike {S = S} turn (suc n) s w e = at_tick (turns_alike turn n) w.left e
    where
      at_next : ((s : S) (w : World) → Each (AnswersAlike h g) (turns_calls h turn n s w) → SameRun (turns h turn n s w) (turns g turn n s w)) → (a : After S) (v : World) → Each (AnswersAlike h g) (calls_follow a v (turns_calls h turn n)) → SameRun (follow a v (turns h turn n)) (follow a v (turns g turn n))
      at_next ih (Again s) v e = ih s v e
      at_next ih (Result r) v e = refl

      at_tick : ((s : S) (w : World) → Each (AnswersAlike h g) (turns_calls h turn n s w) → SameRun (turns h turn n s w) (turns g turn n s w)) → (l : ℕ) → Each (AnswersAlike h g) (calls_ticked l w (λ w1. calls h (turn s) w1 (λ a w2. calls_follow a w2 (turns_calls h turn n)))) → SameRun (ticked l w (λ w1. then_do (play h (turn s) w1) (λ a w2. follow a w2 (turns h turn n)))) (ticked l w (λ w1. then_do (play g (turn s) w1) (λ a w2. follow a w2 (turns g turn n))))
      at_tick ih zero e = stops_itself Spent w
      at_tick ih (suc m) e = play_alike (turn s) _ _ _ _ (at_next ih) e

-- ---- the laws

pub activations_depend : {E S : Type 0} → (entry : List Interval → Act E) (turn : E → S → Act (After S)) (start : E → S) → DependsOnItsCalls (activation entry turn start)
activations_depend entry turn start = record {
  same_run = λ h g ds w e. (both h g ds w e).run;
  same_calls = λ h g ds w e. (both h g ds w e).calls;
  alike = λ h g ds w e. play_alike h g (entry ds) w _ _ _ (λ x v f. turns_alike h g (turn x) (suc v.left) (start x) v f) e;
}
  where
    both : (h g : Handler) (ds : List Interval) (w : World) → Each (AnswersSame h g) ((activation entry turn start).calls h ds w) → AreSame ((activation entry turn start).run h ds w) ((activation entry turn start).run g ds w) ((activation entry turn start).calls h ds w) ((activation entry turn start).calls g ds w)
    both h g ds w e = play_same h g (entry ds) w _ _ _ _ (λ x v f. turns_same h g (turn x) (suc v.left) (start x) v f) e

pub acts_depend : ActsDependOnTheirCalls
acts_depend = record {
  same_run = λ h g a w e. sym (then_fine (play g a w)) ∙ (both h g a w e).run ∙ then_fine (play h a w);
  same_calls = λ h g a w e. (both h g a w e).calls;
  alike = λ h g a w e. subst (λ o. SameRun o (play g a w)) (then_fine (play h a w)) (subst (λ p. SameRun (then_do (play h a w) (λ x v. Fine x v)) p) (then_fine (play g a w)) (play_alike h g a w (λ x v. Fine x v) (λ x v. Fine x v) (λ x v. []) (λ x v f. refl) e));
}
  where
    both : (h g : Handler) (a : Act ℕ) (w : World) → Each (AnswersSame h g) (calls h a w (λ x v. [])) → AreSame (then_do (play h a w) (λ x v. Fine x v)) (then_do (play g a w) (λ x v. Fine x v)) (calls h a w (λ x v. [])) (calls g a w (λ x v. []))
    both h g a w e = play_same h g a w (λ x v. Fine x v) (λ x v. Fine x v) (λ x v. []) (λ x v. []) (λ x v f. record { run = refl; calls = refl }) e

pub turns_depend : TurnsDependOnTheirCalls
turns_depend = record {
  same_run = λ h g turn s w e. (turns_same h g turn (suc w.left) s w e).run;
  same_calls = λ h g turn s w e. (turns_same h g turn (suc w.left) s w e).calls;
  alike = λ h g turn s w e. turns_alike h g turn (suc w.left) s w e;
}
