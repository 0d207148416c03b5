-- The run of a unit whose statements thin statements are looked up to is the run of the thin program.
use Rattle.std.proofs.Common.{◌≡◌, ℕ, zero, suc, List, [], ◌∷◌, Option, Some, None, Bool, true, false, cond, ℤ, map, option_map, slice_get, refl, sym, ap, ◌∙◌, subst}
use Rattle.std.proofs.lemmas.Option.{slice_get-map}
use Rattle.run_model.specs.Storage.{Name, name_eq, Local, Loc, Interval}
use Rattle.run_model.specs.Acts.{World, Outcome, then_do, Answer, Handler, play, no_calls}
use Rattle.run_model.specs.Turns.{After, Again, Result, ticked, follow, turns, run_from}
use Rattle.run_model.specs.Runs.{answer}
use Rattle.f77_flow.specs.Graph.{At}
use Rattle.f77_semantics.specs.Values.{stored}
use Rattle.f77_semantics.specs.Program.{Routine, NoStatement, DummyArray}
use Rattle.f77_semantics.specs.Expressions.{Frame}
use Rattle.f77_semantics.specs.Statements.{Here, perform, turn_at, turn}
use Rattle.f77_semantics.specs.Units.{entry, entered, is_cleared, cleared, beginning, run_unit, at_sites, meaning, given, given_in, named, fresh_world, running}
use Rattle.thin_form.specs.declared.statement.Statement.{Statement as ThinStatement}
use Rattle.thin_code.specs.Layout.{names_of}
use Rattle.thin_code.specs.Meaning as thin
use Rattle.thin_code.specs.Meaning.{perform_at, fresh, Source}
use Rattle.thin_meaning.proofs.Images.{image}
use Rattle.thin_meaning.proofs.Alike.{Same, Alike, then_alike, answers_alike, Acts}
use Rattle.thin_meaning.proofs.Acting.{GoesOn, perform_alike}

-- a unit with these statements one after another, which has no dummies and gives no cell a value
pub record Images (u : Routine) (body : List ThinStatement) : Type 0 where
  pub first : u.first ≡ 0
  pub after : (k : ℕ) (t : ThinStatement) → slice_get body k ≡ Some t → u.after k ≡ At (suc k)
  pub statements : u.statements ≡ map (image (names_of body)) body
  pub dummies : u.dummy_arrays ≡ []
  pub initial : u.initial ≡ []

abbrev Any : {A : Type 0} → A → A → Type 0
Any x y = x ≡ y

module _ (u : Routine) (body : List ThinStatement) (is : Images u body) (h : Handler) where
  -- the unit's activation
  abbrev f : Frame
  f = entered u []

  -- ---- turns

  at_place : (s : Here) (k : ℕ) (t : Option ThinStatement) → slice_get body k ≡ t
      → Acts u.name h GoesOn (perform u f s k (elim (option_map (image (names_of body)) t) [ None ↦ NoStatement | Some t ↦ t ])) (perform_at (names_of body) k t)
  at_place s k None e = λ v w t. (refl, t)
  at_place s k (Some t) e = perform_alike (names_of body) f h u s k t (is.after k t e)

  turn_alike : (s : Here) (k : ℕ) → s.point ≡ At k → Acts u.name h GoesOn (turn u f s) (thin.turn body k)
  turn_alike s k e =
      let there : slice_get u.statements k ≡ option_map (image (names_of body)) (slice_get body k) = ap (λ ts. slice_get ts k) is.statements ∙ slice_get-map (image (names_of body)) body k in
      subst (λ p. Acts u.name h GoesOn (turn_at u f s p) (thin.turn body k)) (sym e)
      (subst (λ o. Acts u.name h GoesOn (perform u f s k (elim o [ None ↦ NoStatement | Some t ↦ t ])) (thin.turn body k)) (sym there)
      (at_place s k (slice_get body k) refl))

  -- so many turns at most
  abbrev Turns : ℕ → Type 0
  Turns n = (s : Here) (k : ℕ) (v w : World) → s.point ≡ At k → Same u.name v w → Alike u.name Any (turns h (turn u f) n s v) (turns no_calls (thin.turn body) n k w)

  next_alike : (n : ℕ) → Turns n → (a : After Here) (b : After ℕ) (v w : World) → GoesOn a b → Same u.name v w → Alike u.name Any (follow a v (turns h (turn u f) n)) (follow b w (turns no_calls (thin.turn body) n))
  next_alike n ih (Again s) (Again k) v w e t = ih s k v w e t
  next_alike n ih (Result a) (Result b) v w e t = (e, t)
  next_alike n ih (Again s) (Result b) v w e t = absurd e
  next_alike n ih (Result a) (Again k) v w e t = absurd e

  one_more : (n : ℕ) → Turns n → Turns (suc n)
  one_more n ih s k v w e t = subst (λ m. Alike u.name Any (ticked m v go) (ticked w.left w thin_go)) (sym t.left) (at_tick w.left)
    where
      go : World → Outcome Answer
      go v1 = then_do (play h (turn u f s) v1) (λ a v2. follow a v2 (turns h (turn u f) n))

      thin_go : World → Outcome Answer
      thin_go w1 = then_do (play no_calls (thin.turn body k) w1) (λ a w2. follow a w2 (turns no_calls (thin.turn body) n))

      at_tick : (m : ℕ) → Alike u.name Any (ticked m v go) (ticked m w thin_go)
      at_tick zero = (refl, t)
      at_tick (suc m) =
          let v1 : World = record v { left = m } in
          let w1 : World = record w { left = m } in
          then_alike u.name GoesOn Any (play h (turn u f s) v1) (play no_calls (thin.turn body k) w1) (λ a v2. follow a v2 (turns h (turn u f) n)) (λ a w2. follow a w2 (turns no_calls (thin.turn body) n))
          (turn_alike s k e v1 w1 (record { cells = t.cells; out = t.out; left = refl })) (next_alike n ih)

  turns_alike : (n : ℕ) → Turns n
  turns_alike zero = λ s k v w e t. (refl, t)
  turns_alike (suc n) = one_more n (turns_alike n)

  run_alike : (v w : World) → Same u.name v w → Alike u.name Any (run_from h (turn u f) (beginning u) v) (run_from no_calls (thin.turn body) 0 w)
  run_alike v w t = subst (λ m. Alike u.name Any (turns h (turn u f) (suc m) (beginning u) v) (turns no_calls (thin.turn body) (suc w.left) 0 w)) (sym t.left) (turns_alike (suc w.left) (beginning u) 0 v w (ap At is.first) t)

  -- ---- the unit's run

  still_none : {A : Type 0} (b : Bool) (o : Option A) → o ≡ None → cond b None o ≡ None
  still_none true o e = refl
  still_none false o e = e

  none_given : (l : Loc) → given (u ∷ []) l ≡ None
  none_given l = ap (λ cs. elim (given_in u l cs) [ None ↦ given [] l | Some v ↦ Some (stored v) ]) is.initial

  same_start : (input : List ℤ) (n : ℕ) → Same u.name (cleared u (fresh_world (u ∷ []) input n)) (fresh input n)
  same_start input n = record {
    cells = λ o. still_none (is_cleared u (Local u.name) o) (given (u ∷ []) (record { area = Local u.name; offset = o })) (none_given (record { area = Local u.name; offset = o }));
    out = refl;
    left = refl;
  }

  unit_alike : (input : List ℤ) (n : ℕ) → Alike u.name Any (run_unit h u [] (fresh_world (u ∷ []) input n)) (run_from no_calls (thin.turn body) 0 (fresh input n))
  unit_alike input n =
      subst (λ (as_ : List DummyArray). Alike u.name Any (then_do (play h (entry f as_) (cleared u (fresh_world (u ∷ []) input n))) (λ f w1. run_from h (turn u f) (beginning u) w1)) (run_from no_calls (thin.turn body) 0 (fresh input n)))
      (sym is.dummies) (run_alike (cleared u (fresh_world (u ∷ []) input n)) (fresh input n) (same_start input n))

-- the only unit is that of each name
only_unit : (u : Routine) (b : Bool) → cond b u u ≡ u
only_unit u true = refl
only_unit u false = refl

pub running_is : (u : Routine) (body : List ThinStatement) → Images u body → (input : List ℤ) (n : ℕ) → running (u ∷ []) u input n ≡ Source body input n
running_is u body is input n =
    let one : named (u ∷ []) u u.name ≡ u = only_unit u (name_eq u.name u.name) in
    let below : Name → List Interval → World → Outcome Answer = meaning (named (u ∷ []) u) 0 in
    ap (λ v. answer n (run_unit (at_sites v below) v [] (fresh_world (u ∷ []) input n))) one
    ∙ answers_alike u.name Any n (run_unit (at_sites u below) u [] (fresh_world (u ∷ []) input n)) (run_from no_calls (thin.turn body) 0 (fresh input n)) (unit_alike u body is (at_sites u below) input n)
