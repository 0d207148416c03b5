-- What is alike runs alike, under every handler.
use Rattle.std.proofs.Common.{◌≡◌, ℕ, zero, suc, List, [], ◌∷◌, ◌++◌, Option, Some, None, ℤ, refl, sym, ap, ◌∙◌, subst, arith}
use Rattle.run_model.specs.Storage.{Value, put_cell}
use Rattle.run_model.specs.Acts.{World, Spent, Ended, Undefined, Stuck, Outcome, Fine, Stop, then_do, Act, Done, Get, Put, Say, Take, Ask, Fail, and_then, Answer, Handler, play, with_cell, with_input}
use Rattle.run_model.specs.Turns.{After, Again, Result, ticked, follow, turns, run_from}
use Rattle.run_calls.specs.Calls.{Call, calls_then, calls_cell, calls_input, calls, calls_ticked, calls_follow, turns_calls, calls_from}
use Rattle.run_calls.specs.Same.{SameRun}
use Rattle.run_calls.proofs.Ends.{stops_itself, same_self, same_trans, if_map, if_holds, with_second}
use Rattle.run_calls.proofs.Order.{calls-and_then}
use Rattle.run_alike.specs.Like.{Like, undefined, stuck, ended, spent, done, get, put, say, take, ask, LikeAfter, IsSilent}
use Rattle.run_alike.specs.Alike.{Alike, AlikeFor, with_first, GoesOnAlike, EntersAlike}
use Rattle.run_alike.specs.Laws.{ActsRunAlike, TurnsRunAlike, EntriesRunAlike}
use Rattle.run_alike.proofs.Binds.{play_then}

alike_trans : {A : Type 0} → (o p q : Outcome A) (cs ds es : List Call) → Alike o p cs ds → Alike p q ds es → Alike o q cs es
alike_trans o p q cs ds es a b = record {
  run = same_trans o p q a.run b.run;
  calls = with_second o p (cs ≡ ds) (ds ≡ es) (cs ≡ es) a.run a.calls (λ e. b.calls) (λ e f. e ∙ f);
}

alike_is : {A : Type 0} → (o p : Outcome A) (cs ds : List Call) → o ≡ p → cs ≡ ds → Alike o p cs ds
alike_is o p cs ds e f = record { run = subst (λ p. SameRun o p) e (same_self o); calls = if_holds o (cs ≡ ds) f }

module _ (h : Handler) where
  pub play_like : {A B C : Type 0} → (R : A → B → Type 0) (a : Act A) (b : Act B) → Like R a b → (k : A → World → Outcome C) (go : A → World → List Call) (j : B → World → Outcome C) (on : B → World → List Call) → ((x : A) (y : B) → R x y → (v : World) → Alike (k x v) (j y v) (go x v) (on y v)) → (w : World) → Alike (then_do (play h a w) k) (then_do (play h b w) j) (calls h a w go) (calls h b w on)
  play_like R a b undefined k go j on f w = record { run = tt; calls = tt }
  play_like R a b stuck k go j on f w = record { run = tt; calls = tt }
  play_like R a b (ended {status = e}) k go j on f w = record { run = stops_itself (Ended e) w; calls = refl }
  play_like R a b spent k go j on f w = record { run = stops_itself Spent w; calls = refl }
  play_like R a b (done {x = x} {y = y} r) k go j on f w = f x y r w
  play_like {A = A} {B = B} R a b (get {l = l} {k = c} {j = d} p) k go j on f w = at_cell (w.cells l) (λ v. play_like R (c v) (d v) (p v) k go j on f w)
    where
      at_cell : (o : Option Value) → ((v : Value) → Alike (then_do (play h (c v) w) k) (then_do (play h (d v) w) j) (calls h (c v) w go) (calls h (d v) w on)) → Alike (then_do (with_cell {A = A} o w (λ v. play h (c v) w)) k) (then_do (with_cell {A = B} o w (λ v. play h (d v) w)) j) (calls_cell o (λ v. calls h (c v) w go)) (calls_cell o (λ v. calls h (d v) w on))
      at_cell None ih = record { run = tt; calls = tt }
      at_cell (Some v) ih = ih v
  play_like R a b (put {l = l} {v = v} {a = c} {b = d} p) k go j on f w = play_like R c d p k go j on f (record w { cells = put_cell l v w.cells })
  play_like R a b (say {bs = bs} {a = c} {b = d} p) k go j on f w = play_like R c d p k go j on f (record w { out = w.out ++ bs })
  play_like {A = A} {B = B} R a b (take {k = c} {j = d} p) k go j on f w = at_input w.input (λ x v. play_like R (c x) (d x) (p x) k go j on f v)
    where
      at_input : (xs : List ℤ) → ((x : ℤ) (v : World) → Alike (then_do (play h (c x) v) k) (then_do (play h (d x) v) j) (calls h (c x) v go) (calls h (d x) v on)) → Alike (then_do (with_input {A = A} xs w (λ x v. play h (c x) v)) k) (then_do (with_input {A = B} xs w (λ x v. play h (d x) v)) j) (calls_input xs w (λ x v. calls h (c x) v go)) (calls_input xs w (λ x v. calls h (d x) v on))
      at_input [] ih = record { run = stops_itself (Ended 3) w; calls = refl }
      at_input (x ∷ xs) ih = ih x _
  play_like {A = A} {B = B} R a b (ask {s = s} {ds = ds} {k = c} {j = d} p) k go j on f w = at_answer (h s ds w) (λ r v. play_like R (c r) (d r) (p r) k go j on f v)
    where
      at_answer : (o : Outcome Answer) → ((r : Answer) (v : World) → Alike (then_do (play h (c r) v) k) (then_do (play h (d r) v) j) (calls h (c r) v go) (calls h (d r) v on)) → Alike (then_do (then_do {A = Answer} {B = A} o (λ r v. play h (c r) v)) k) (then_do (then_do {A = Answer} {B = B} o (λ r v. play h (d r) v)) j) (record { site = s; actuals = ds; world = w } ∷ calls_then o (λ r v. calls h (c r) v go)) (record { site = s; actuals = ds; world = w } ∷ calls_then o (λ r v. calls h (d r) v on))
      at_answer (Fine r v) ih = record { run = (ih r v).run; calls = if_map (then_do (play h (c r) v) k) _ _ (λ e. ap (λ cs. record { site = s; actuals = ds; world = w } ∷ cs) e) (ih r v).calls }
      at_answer (Stop Spent v) ih = record { run = stops_itself Spent v; calls = refl }
      at_answer (Stop (Ended e) v) ih = record { run = stops_itself (Ended e) v; calls = refl }
      at_answer (Stop (Undefined e) v) ih = record { run = tt; calls = tt }
      at_answer (Stop Stuck v) ih = record { run = tt; calls = tt }

  -- what follows a turn
  follow_like : {S T : Type 0} → (turn : S → Act (After S)) (other : T → Act (After T)) (n : ℕ) → ((s : S) (t : T) → AlikeFor turn other n s t → (w : World) → Alike (turns h turn n s w) (turns h other n t w) (turns_calls h turn n s w) (turns_calls h other n t w)) → (a : After S) (b : After T) → LikeAfter (AlikeFor turn other n) a b → (v : World) → Alike (follow a v (turns h turn n)) (follow b v (turns h other n)) (calls_follow a v (turns_calls h turn n)) (calls_follow b v (turns_calls h other n))
  follow_like turn other n ih (Again s) (Again t) p v = ih s t p v
  follow_like turn other n ih (Result x) (Result y) p v = record { run = ap (λ r. Fine r v) (sym p); calls = refl }
  follow_like turn other n ih (Again s) (Result y) p v = absurd p
  follow_like turn other n ih (Result x) (Again t) p v = absurd p

  pub turns_like : {S T : Type 0} → (turn : S → Act (After S)) (other : T → Act (After T)) (n : ℕ) (s : S) (t : T) → AlikeFor turn other n s t → (w : World) → Alike (turns h turn n s w) (turns h other n t w) (turns_calls h turn n s w) (turns_calls h other n t w)
  turns_like turn other zero s t p w = record { run = stops_itself Spent w; calls = refl }
  turns_like {S = S} {T = T} turn other (suc n) s t p w = at_tick (turns_like turn other n) w.left
    where
      at_tick : ((s : S) (t : T) → AlikeFor turn other n s t → (w : World) → Alike (turns h turn n s w) (turns h other n t w) (turns_calls h turn n s w) (turns_calls h other n t w)) → (m : ℕ) → Alike (ticked m w (λ w1. then_do (play h (turn s) w1) (λ a w2. follow a w2 (turns h turn n)))) (ticked m w (λ w1. then_do (play h (other t) w1) (λ a w2. follow a w2 (turns h other n)))) (calls_ticked m w (λ w1. calls h (turn s) w1 (λ a w2. calls_follow a w2 (turns_calls h turn n)))) (calls_ticked m w (λ w1. calls h (other t) w1 (λ a w2. calls_follow a w2 (turns_calls h other n))))
      at_tick ih zero = record { run = stops_itself Spent w; calls = refl }
      at_tick ih (suc m) = play_like (LikeAfter (AlikeFor turn other n)) (turn s) (other t) p _ _ _ _ (follow_like turn other n ih) (record w { left = m })

  -- ---- an entry before the first step, and in it

  module _ {E S : Type 0} (turn : E → S → Act (After S)) (start : E → S) where
    -- with no step left an entry gives nothing but that it is undefined
    none_left : (entry : Act E) → IsSilent entry → (w : World) → w.left ≡ zero → Alike (then_do (play h entry w) (λ e v. run_from h (turn e) (start e) v)) (Stop Spent w) (calls h entry w (λ e v. calls_from h (turn e) (start e) v)) []
    none_left (Done e) q w z = at_tick w.left z
      where
        at_tick : (m : ℕ) → m ≡ zero → Alike (ticked m w (λ w1. then_do (play h (turn e (start e)) w1) (λ a w2. follow a w2 (turns h (turn e) w.left)))) (Stop Spent w) (calls_ticked m w (λ w1. calls h (turn e (start e)) w1 (λ a w2. calls_follow a w2 (turns_calls h (turn e) w.left)))) []
        at_tick zero z = record { run = stops_itself Spent w; calls = refl }
        at_tick (suc m) z = absurd (cc)
    none_left (Get l k) q w z = at_cell (w.cells l) (λ v. none_left (k v) (q v) w z)
      where
        at_cell : (o : Option Value) → ((v : Value) → Alike (then_do (play h (k v) w) (λ e v. run_from h (turn e) (start e) v)) (Stop Spent w) (calls h (k v) w (λ e v. calls_from h (turn e) (start e) v)) []) → Alike (then_do (with_cell {A = E} o w (λ v. play h (k v) w)) (λ e v. run_from h (turn e) (start e) v)) (Stop Spent w) (calls_cell o (λ v. calls h (k v) w (λ e v. calls_from h (turn e) (start e) v))) []
        at_cell None ih = record { run = tt; calls = tt }
        at_cell (Some v) ih = ih v
    none_left (Fail (Undefined c)) q w z = record { run = tt; calls = tt }
    none_left (Fail Stuck) q w z = record { run = tt; calls = tt }
    none_left (Fail Spent) q w z = absurd q
    none_left (Fail (Ended e)) q w z = absurd q
    none_left (Put l v a) q w z = absurd q
    none_left (Say bs a) q w z = absurd q
    none_left (Take k) q w z = absurd q
    none_left (Ask s ds k) q w z = absurd q

    -- what follows the first turn
    abbrev next : ℕ → E × After S → World → Outcome Answer
    next n x v = follow x.1 v (turns h (turn x.0) n)

    abbrev next_calls : ℕ → E × After S → World → List Call
    next_calls n x v = calls_follow x.1 v (turns_calls h (turn x.0) n)

    -- A turn that keeps what the entry gave beside what it leads to goes on as the turn.
    kept_run : (e : E) (n : ℕ) (v : World) → then_do (play h (turn e (start e)) v) (λ a w2. follow a w2 (turns h (turn e) n)) ≡ then_do (play h (and_then (turn e (start e)) (λ a. Done (e, a))) v) (next n)
    kept_run e n v = sym (play_then h (turn e (start e)) (λ a. Done (e, a)) v (next n))

    kept_calls : (e : E) (n : ℕ) (v : World) → calls h (turn e (start e)) v (λ a w2. calls_follow a w2 (turns_calls h (turn e) n)) ≡ calls h (and_then (turn e (start e)) (λ a. Done (e, a))) v (next_calls n)
    kept_calls e n v = sym (calls-and_then h (turn e (start e)) (λ a. Done (e, a)) v (next_calls n))

    -- With a step left an entry may as well be made in it.
    late : (entry : Act E) → IsSilent entry → (w : World) (m : ℕ) → w.left ≡ suc m → Alike (then_do (play h entry w) (λ e v. run_from h (turn e) (start e) v)) (then_do (play h (with_first entry turn start) (record w { left = m })) (next w.left)) (calls h entry w (λ e v. calls_from h (turn e) (start e) v)) (calls h (with_first entry turn start) (record w { left = m }) (next_calls w.left))
    late (Done e) q w m z = at_tick w.left z
      where
        at_tick : (i : ℕ) → i ≡ suc m → Alike (ticked i w (λ w1. then_do (play h (turn e (start e)) w1) (λ a w2. follow a w2 (turns h (turn e) w.left)))) (then_do (play h (and_then (turn e (start e)) (λ a. Done (e, a))) (record w { left = m })) (next w.left)) (calls_ticked i w (λ w1. calls h (turn e (start e)) w1 (λ a w2. calls_follow a w2 (turns_calls h (turn e) w.left)))) (calls h (and_then (turn e (start e)) (λ a. Done (e, a))) (record w { left = m }) (next_calls w.left))
        at_tick zero z = absurd (cc)
        at_tick (suc j) z =
            let j_is : j ≡ m = omega arith in
            subst (λ i. Alike (ticked (suc j) w (λ w1. then_do (play h (turn e (start e)) w1) (λ a w2. follow a w2 (turns h (turn e) w.left)))) (then_do (play h (and_then (turn e (start e)) (λ a. Done (e, a))) (record w { left = i })) (next w.left)) (calls_ticked (suc j) w (λ w1. calls h (turn e (start e)) w1 (λ a w2. calls_follow a w2 (turns_calls h (turn e) w.left)))) (calls h (and_then (turn e (start e)) (λ a. Done (e, a))) (record w { left = i }) (next_calls w.left))) j_is
            (alike_is _ _ _ _ (kept_run e w.left (record w { left = j })) (kept_calls e w.left (record w { left = j })))
    late (Get l k) q w m z = at_cell (w.cells l) (λ v. late (k v) (q v) w m z)
      where
        at_cell : (o : Option Value) → ((v : Value) → Alike (then_do (play h (k v) w) (λ e v. run_from h (turn e) (start e) v)) (then_do (play h (with_first (k v) turn start) (record w { left = m })) (next w.left)) (calls h (k v) w (λ e v. calls_from h (turn e) (start e) v)) (calls h (with_first (k v) turn start) (record w { left = m }) (next_calls w.left))) → Alike (then_do (with_cell {A = E} o w (λ v. play h (k v) w)) (λ e v. run_from h (turn e) (start e) v)) (then_do (with_cell {A = E × After S} o (record w { left = m }) (λ v. play h (with_first (k v) turn start) (record w { left = m }))) (next w.left)) (calls_cell o (λ v. calls h (k v) w (λ e v. calls_from h (turn e) (start e) v))) (calls_cell o (λ v. calls h (with_first (k v) turn start) (record w { left = m }) (next_calls w.left)))
        at_cell None ih = record { run = tt; calls = tt }
        at_cell (Some v) ih = ih v
    late (Fail (Undefined c)) q w m z = record { run = tt; calls = tt }
    late (Fail Stuck) q w m z = record { run = tt; calls = tt }
    late (Fail Spent) q w m z = absurd q
    late (Fail (Ended e)) q w m z = absurd q
    late (Put l v a) q w m z = absurd q
    late (Say bs a) q w m z = absurd q
    late (Take k) q w m z = absurd q
    late (Ask s ds k) q w m z = absurd q

    pub enters_like : {T : Type 0} → (entry : Act E) (other : T → Act (After T)) (t : T) → EntersAlike entry turn start other t → (w : World) → Alike (then_do (play h entry w) (λ e v. run_from h (turn e) (start e) v)) (run_from h other t w) (calls h entry w (λ e v. calls_from h (turn e) (start e) v)) (calls_from h other t w)
    enters_like {T = T} entry other t p w = at_left w.left refl
      where
        at_left : (m : ℕ) → w.left ≡ m → Alike (then_do (play h entry w) (λ e v. run_from h (turn e) (start e) v)) (ticked m w (λ w1. then_do (play h (other t) w1) (λ b w2. follow b w2 (turns h other w.left)))) (calls h entry w (λ e v. calls_from h (turn e) (start e) v)) (calls_ticked m w (λ w1. calls h (other t) w1 (λ b w2. calls_follow b w2 (turns_calls h other w.left))))
        at_left zero z = none_left entry p.silent w z
        at_left (suc m) z =
            alike_trans _ (then_do (play h (with_first entry turn start) (record w { left = m })) (next w.left)) _ _ (calls h (with_first entry turn start) (record w { left = m }) (next_calls w.left)) _
            (late entry p.silent w m z)
            (play_like (GoesOnAlike turn other w.left) (with_first entry turn start) (other t) (p.first w.left) (next w.left) (next_calls w.left) (λ b v. follow b v (turns h other w.left)) (λ b v. calls_follow b v (turns_calls h other w.left)) (λ x b r v. follow_like (turn x.0) other w.left (turns_like (turn x.0) other w.left) x.1 b r v) (record w { left = m }))

-- ---- the laws

then_fine : {A : Type 0} → (o : Outcome A) → then_do o (λ x v. Fine x v) ≡ o
then_fine (Fine x v) = refl
then_fine (Stop r v) = refl

pub acts_run_alike : ActsRunAlike
acts_run_alike a b p h w =
    subst (λ o. Alike o (play h b w) (calls h a w (λ x v. [])) (calls h b w (λ x v. []))) (then_fine (play h a w))
    (subst (λ o. Alike (then_do (play h a w) (λ x v. Fine x v)) o (calls h a w (λ x v. [])) (calls h b w (λ x v. []))) (then_fine (play h b w))
    (play_like h (λ x y. x ≡ y) a b p (λ x v. Fine x v) (λ x v. []) (λ x v. Fine x v) (λ x v. []) (λ x y r v. record { run = ap (λ n. Fine n v) (sym r); calls = refl }) w))

pub turns_run_alike : TurnsRunAlike
turns_run_alike turn other s t p h w = turns_like h turn other (suc w.left) s t (p (suc w.left)) w

pub entries_run_alike : EntriesRunAlike
entries_run_alike entry turn start other t p h w = enters_like h turn start entry other t p w
