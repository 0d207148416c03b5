-- A program whose units are as their effects say is never stuck, and never returns from its main program.
use Rattle.std.proofs.Common.{◌≡◌, ℕ, zero, suc, ◌<◌, List, [], ◌∷◌, length, Option, Some, None, true, false, ℤ, ⊎_elim, sym, subst, arith, map, ap, ◌∙◌}
use Rattle.run_model.specs.Storage.{Value, Loc, Interval}
use Rattle.run_model.specs.Acts.{World, Spent, Ended, Undefined, Stuck, Outcome, Fine, Stop, then_do, Act, Done, Get, Put, Say, Take, Ask, Fail, Answer, Handler, play, with_cell, with_input}
use Rattle.run_model.specs.Turns.{After, Again, Result, ticked, follow, turns, run_from}
use Rattle.run_model.specs.Runs.{Wrong, answer}
use Rattle.f77_values.specs.Tables.{Name}
use Rattle.f77_semantics.specs.Program.{Routine}
use Rattle.f77_semantics.specs.Expressions.{Frame}
use Rattle.f77_semantics.specs.Statements.{turn}
use Rattle.f77_semantics.specs.Units.{Program, entry, cleared, entered, beginning, at_sites, meaning, callee, named, fresh_world, running}
use Rattle.f77_tree.specs.declared.unit.Unit.{Unit as ProgramUnit}
use Rattle.f77_semantics.specs.Source.{routine, main_of, with_main, Source}
use Rattle.f77_semantics.specs.Effects.{Effects, HasSite, Answers, PointOk, UnitOk, type_of_result, ProgramOk}
use Rattle.f77_semantics.proofs.Keeps.{Keeps}
use Rattle.f77_semantics.proofs.Terms.{FrameOk}
use Rattle.f77_semantics.proofs.Terms as terms
use Rattle.f77_semantics.proofs.Turns.{turn_held, Entered, entry_held, entered_ok}

-- not stuck, and what it gives has the property
abbrev pub Sane : {A : Type 0} → (A → Type 0) → Outcome A → Type 0
Sane Q (Fine x v) = Q x
Sane Q (Stop Spent v) = Unit {0}
Sane Q (Stop (Ended e) v) = Unit {0}
Sane Q (Stop (Undefined c) v) = Unit {0}
Sane Q (Stop Stuck v) = ⊥

sane_then : {A B : Type 0} → (P : A → Type 0) (Q : B → Type 0) (o : Outcome A) (f : A → World → Outcome B) → Sane P o → ((x : A) (v : World) → P x → Sane Q (f x v)) → Sane Q (then_do o f)
sane_then P Q (Fine x v) f p g = g x v p
sane_then P Q (Stop Spent v) f p g = tt
sane_then P Q (Stop (Ended e) v) f p g = tt
sane_then P Q (Stop (Undefined c) v) f p g = tt
sane_then P Q (Stop Stuck v) f p g = p

module _ (L M : Loc → Type 0) (C : ℕ → List Interval → Type 0) (R : ℕ → Answer → Type 0) (h : Handler) (hs : (s : ℕ) (ds : List Interval) (w : World) → C s ds → Sane (R s) (h s ds w)) where
  play_sane : {A : Type 0} → (Q : A → Type 0) (a : Act A) → Keeps L M C R Q a → (w : World) → Sane Q (play h a w)
  play_sane Q (Done x) k w = k
  play_sane {A = A} Q (Get l g) k w = at_cell (w.cells l) (λ v. play_sane Q (g v) (k.1 v) w)
    where
      at_cell : (o : Option Value) → ((v : Value) → Sane Q (play h (g v) w)) → Sane Q (with_cell {A = A} o w (λ v. play h (g v) w))
      at_cell None ih = tt
      at_cell (Some v) ih = ih v
  play_sane Q (Put l v a) k w = play_sane Q a k.1 _
  play_sane Q (Say bs a) k w = play_sane Q a k _
  play_sane {A = A} Q (Take g) k w = at_input w.input (λ x xs. play_sane Q (g x) (k x) (record w { input = xs }))
    where
      at_input : (xs : List ℤ) → ((x : ℤ) (xs : List ℤ) → Sane Q (play h (g x) (record w { input = xs }))) → Sane Q (with_input {A = A} xs w (λ x w1. play h (g x) w1))
      at_input [] ih = tt
      at_input (x ∷ xs) ih = ih x xs
  play_sane Q (Ask s ds g) k w = sane_then (R s) Q (h s ds w) (λ r w1. play h (g r) w1) (hs s ds w k.0) (λ r v p. play_sane Q (g r) (k.1 r p) v)
  play_sane Q (Fail Spent) k w = tt
  play_sane Q (Fail (Ended e)) k w = tt
  play_sane Q (Fail (Undefined c)) k w = tt
  play_sane Q (Fail Stuck) k w = k

  abbrev AfterIs : {S : Type 0} → (S → Type 0) → (Answer → Type 0) → After S → Type 0
  AfterIs I Q (Again s) = I s
  AfterIs I Q (Result r) = Q r

  turns_sane : {S : Type 0} → (I : S → Type 0) (Q : Answer → Type 0) (t : S → Act (After S)) → ((s : S) → I s → Keeps L M C R (AfterIs I Q) (t s)) → (n : ℕ) (s : S) → I s → (w : World) → Sane Q (turns h t n s w)
  turns_sane I Q t k zero s i w = tt
  turns_sane {S = S} I Q t k (suc n) s i w = at_tick w.left (turns_sane I Q t k n)
    where
      at_tick : (m : ℕ) → ((s : S) → I s → (w : World) → Sane Q (turns h t n s w)) → Sane Q (ticked m w (λ w1. then_do (play h (t s) w1) (λ a w2. follow a w2 (turns h t n))))
      at_tick zero ih = tt
      at_tick (suc m) ih = sane_then (AfterIs I Q) Q (play h (t s) (record w { left = m })) _ (play_sane (AfterIs I Q) (t s) (k s i) _) (elim [ Again s ↦ (λ v p. ih s p v) | Result r ↦ (λ v p. p) ])

module _ (units : Program) (effects : Name → Effects) (rank : Name → ℕ) (ok : ProgramOk units effects rank) where
  abbrev pub AnswerOk : Name → Answer → Type 0
  AnswerOk q r = ((effects q).returns ≡ true) × Answers (type_of_result (units q).result) r

  pub weaker : {A : Type 0} → (P Q : A → Type 0) (o : Outcome A) → ((x : A) → P x → Q x) → Sane P o → Sane Q o
  weaker P Q (Fine x v) g s = g x s
  weaker P Q (Stop Spent v) g s = tt
  weaker P Q (Stop (Ended e) v) g s = tt
  weaker P Q (Stop (Undefined c) v) g s = tt
  weaker P Q (Stop Stuck v) g s = s

  pub taken : (q : Name) (s : ℕ) → HasSite (effects q) s → (r : Answer) → AnswerOk (callee (units q) s) r → Answers ((effects q).type_of s) r
  taken q s i r a = ⊎_elim (λ e. subst (λ t. Answers t r) (sym e) tt) (λ e. subst (λ t. Answers t r) e a.1) (ok.sites q s i).typed

  pub meaning_sane : (d : ℕ) (q : Name) → rank q < d → (ds : List Interval) (w : World) → Sane (AnswerOk q) (meaning units d q ds w)
  meaning_sane zero q lt ds w = absurd (omega arith)
  meaning_sane (suc d) q lt ds w =
      let S : Effects = effects q in
      let u : Routine = units q in
      let uo : UnitOk u S = ok.each q in
      let f : Frame = entered u ds in
      let fo : FrameOk S f = entered_ok u S ds uo.arrays in
      let below : (s : ℕ) (ds : List Interval) (w : World) → HasSite (effects q) s → Sane (λ r. Answers ((effects q).type_of s) r) (h s ds w) = λ s ds w i. weaker (AnswerOk (callee (units q) s)) _ (h s ds w) (λ r a. taken q s i r a) (meaning_sane d (callee (units q) s) (let b = (ok.sites q s i).below in omega arith) ds w) in
      sane_then (Entered S f) (AnswerOk q) (play h (entry f u.dummy_arrays) (cleared u w)) (λ g w1. run_from h (turn u g) (beginning u) w1)
      (play_sane (terms.Reads S f fo) (terms.Writes S f fo) (terms.Calls S f fo) (terms.Answered S f fo) h (λ s ds w c. below s ds w c.0) (Entered S f) (entry f u.dummy_arrays) (entry_held S u.dummy_arrays f fo uo.entry) (cleared u w))
      (λ g v e. turns_sane (terms.Reads S g e.0) (terms.Writes S g e.0) (terms.Calls S g e.0) (terms.Answered S g e.0) h (λ s ds w c. below s ds w c.0) (λ s. PointOk u s.point) (AnswerOk q) (turn u g) (λ s i. turn_held S g e.0 u uo s i) (suc v.left) (beginning u) uo.first v)
    where
      h : Handler
      h = at_sites (units q) (meaning units d)

-- a main program that never returns has no run that is Wrong
pub running_sane : (us : List Routine) (main : Routine) (effects : Name → Effects) (rank : Name → ℕ) → ProgramOk (named us main) effects rank → rank main.name < length us → (effects main.name).returns ≡ false → (input : List ℤ) (n : ℕ) → running us main input n ≡ Wrong → ⊥
running_sane us main effects rank ok r m input n = go (meaning (named us main) (length us) main.name [] (fresh_world us input n)) (meaning_sane (named us main) effects rank ok (length us) main.name r [] (fresh_world us input n))
  where
    go : (o : Outcome Answer) → Sane (AnswerOk (named us main) effects rank ok main.name) o → answer n o ≡ Wrong → ⊥
    go (Fine x v) s e = cc
    go (Stop Spent v) s e = cc
    go (Stop (Ended z) v) s e = cc
    go (Stop (Undefined z) v) s e = cc
    go (Stop Stuck v) s e = s

pub source_sane : (units : List ProgramUnit) (main : ProgramUnit) → main_of units ≡ Some main → (effects : Name → Effects) (rank : Name → ℕ) → ProgramOk (named (map routine units) (routine main)) effects rank → rank main.name < length (map routine units) → (effects main.name).returns ≡ false → (input : List ℤ) (n : ℕ) → Source units input n ≡ Wrong → ⊥
source_sane units main is effects rank ok r m input n wrong = running_sane (map routine units) (routine main) effects rank ok r m input n (sym (ap (λ o. with_main (map routine units) o input n) is) ∙ wrong)
