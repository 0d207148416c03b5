-- Where each location that a run stores to has a property, and those that have a value at its beginning, so have those that have one at its end.
use Rattle.std.proofs.Common.{◌≡◌, ℕ, zero, suc, ◌++◌, Bool, true, false, cond, ◌&&◌, Option, Some, None, List, [], ◌∷◌, ℤ, nat_eq, refl, ap, subst}
use Rattle.std.proofs.lemmas.Bool.{eqb-true}
use Rattle.run_model.specs.Storage.{Value, Area, Block, Local, Fresh, Loc, Interval, Cells, area_eq, loc_eq, put_cell}
use Rattle.run_model.specs.Acts.{World, Outcome, Fine, Stop, then_do, Act, Done, Get, Put, Say, Take, Ask, Fail, Handler, play, with_cell, with_input}
use Rattle.run_model.specs.Turns.{After, Again, Result, ticked, follow, turns, run_from}
use Rattle.f77_values.proofs.SameNames.{same_name}
use Rattle.f77_values.specs.Tables.{Name, name_eq}
use Rattle.f77_semantics.specs.Program.{Routine}
use Rattle.f77_semantics.specs.Statements.{turn}
use Rattle.f77_semantics.specs.Units.{Program, entry, is_cleared, cleared, entered, beginning, run_unit, at_sites, meaning, callee}
use Rattle.area_laws.specs.Touches.{AtCell, AtInput, Behind, AtStep, AtNext, PlayTouches, TurnsTouch, UnitTouches, RunTouches}
use Rattle.area_laws.specs.Laws.{world_of}

-- ---- equal locations are the same

both : (a b : Bool) → (a && b) ≡ true → (a ≡ true) × (b ≡ true)
both true b h = (refl, h)
both false b h = cc

area_same : (a b : Area) → area_eq a b ≡ true → a ≡ b
area_same (Block a) (Block b) h = ap Block (same_name a b h)
area_same (Local a) (Local b) h = ap Local (same_name a b h)
area_same (Fresh a i j) (Fresh b m n) h =
    let t = both (name_eq a b) (nat_eq i m && nat_eq j n) h in
    let s = both (nat_eq i m) (nat_eq j n) t.1 in
    λ k. Fresh (same_name a b t.0 k) (eqb-true i m s.0 k) (eqb-true j n s.1 k)
area_same a b h = cc

pub loc_same : (l m : Loc) → loc_eq l m ≡ true → l ≡ m
loc_same l m h = let t = both (area_eq l.area m.area) (nat_eq l.offset m.offset) h in λ k. record { area = area_same l.area m.area t.0 k; offset = eqb-true l.offset m.offset t.1 k }

module _ (P : Loc → Type 0) (Q : Interval → Type 0) where
  -- locations with a value have the property
  abbrev pub CellsIn : Cells → Type 0
  CellsIn cells = (l : Loc) (v : Value) → cells l ≡ Some v → P l

  abbrev In : World → Type 0
  In w = CellsIn w.cells

  put_in : (l : Loc) (v : Value) (cells : Cells) → P l → CellsIn cells → CellsIn (put_cell l v cells)
  put_in l v cells p i m x e = go (loc_eq l m) refl e
    where
      go : (b : Bool) → loc_eq l m ≡ b → cond b (Some v) (cells m) ≡ Some x → P m
      go true t e = subst P (loc_same l m t) p
      go false t e = i m x e

  then_keeps : {A B : Type 0} → (R : A → World → Type 0) (o : Outcome A) (f : A → World → Outcome B) → Behind o R → In (world_of o) → ((x : A) (v : World) → R x v → In v → In (world_of (f x v))) → In (world_of (then_do o f))
  then_keeps R (Fine x v) f b i g = g x v b i
  then_keeps R (Stop r v) f b i g = i

  module _ (h : Handler) (C : ℕ → List Interval → World → Type 0) (calls : (s : ℕ) (ds : List Interval) (w : World) → C s ds w → In w → In (world_of (h s ds w))) where
    play_keeps : {A : Type 0} (a : Act A) (w : World) → PlayTouches P Q h C a w → In w → In (world_of (play h a w))
    play_keeps (Done x) w t i = i
    play_keeps {A = A} (Get l k) w t i = at_cell (w.cells l) t.1 (λ v t. play_keeps (k v) w t i)
      where
        at_cell : (o : Option Value) → AtCell o (λ v. PlayTouches P Q h C (k v) w) → ((v : Value) → PlayTouches P Q h C (k v) w → In (world_of (play h (k v) w))) → In (world_of (with_cell {A = A} o w (λ v. play h (k v) w)))
        at_cell None t ih = i
        at_cell (Some v) t ih = ih v t
    play_keeps (Put l v a) w t i = play_keeps a (record w { cells = put_cell l v w.cells }) t.1 (put_in l v w.cells t.0 i)
    play_keeps (Say bs a) w t i = play_keeps a (record w { out = w.out ++ bs }) t i
    play_keeps {A = A} (Take k) w t i = at_input w.input t (λ x xs t. play_keeps (k x) (record w { input = xs }) t i)
      where
        at_input : (xs : List ℤ) → AtInput xs w (λ x w1. PlayTouches P Q h C (k x) w1) → ((x : ℤ) (xs : List ℤ) → PlayTouches P Q h C (k x) (record w { input = xs }) → In (world_of (play h (k x) (record w { input = xs })))) → In (world_of (with_input {A = A} xs w (λ x w1. play h (k x) w1)))
        at_input [] t ih = i
        at_input (x ∷ xs) t ih = ih x xs t
    play_keeps (Ask s ds k) w t i = then_keeps (λ r w1. PlayTouches P Q h C (k r) w1) (h s ds w) (λ r w1. play h (k r) w1) t.2 (calls s ds w t.1 i) (λ r v t i. play_keeps (k r) v t i)
    play_keeps (Fail r) w t i = i

    turns_keep : {S : Type 0} (t : S → Act (After S)) (n : ℕ) (s : S) (w : World) → TurnsTouch P Q h C t n s w → In w → In (world_of (turns h t n s w))
    turns_keep t zero s w x i = i
    turns_keep {S = S} t (suc n) s w x i = at_step w.left x (turns_keep t n)
      where
        next : (a : After S) (v : World) → AtNext a v (TurnsTouch P Q h C t n) → In v → ((s : S) (w : World) → TurnsTouch P Q h C t n s w → In w → In (world_of (turns h t n s w))) → In (world_of (follow a v (turns h t n)))
        next (Again s) v y j ih = ih s v y j
        next (Result r) v y j ih = j

        at_step : (m : ℕ) → AtStep m w (λ w1. PlayTouches P Q h C (t s) w1 × Behind (play h (t s) w1) (λ a w2. AtNext a w2 (TurnsTouch P Q h C t n)))
            → ((s : S) (w : World) → TurnsTouch P Q h C t n s w → In w → In (world_of (turns h t n s w))) → In (world_of (ticked m w (λ w1. then_do (play h (t s) w1) (λ a w2. follow a w2 (turns h t n)))))
        at_step zero y ih = i
        at_step (suc m) y ih =
            then_keeps (λ a w2. AtNext a w2 (TurnsTouch P Q h C t n)) (play h (t s) (record w { left = m })) (λ a w2. follow a w2 (turns h t n)) y.1 (play_keeps (t s) (record w { left = m }) y.0 i) (λ a v z j. next a v z j ih)

    cleared_in : (u : Routine) (w : World) → In w → In (cleared u w)
    cleared_in u w i l v e = go (is_cleared u l.area l.offset) e
      where
        go : (b : Bool) → cond b None (w.cells l) ≡ Some v → P l
        go true e = cc
        go false e = i l v e

    unit_keeps : (u : Routine) (ds : List Interval) (w : World) → UnitTouches P Q h C u ds w → In w → In (world_of (run_unit h u ds w))
    unit_keeps u ds w t i =
        then_keeps (λ f w1. TurnsTouch P Q h C (turn u f) (suc w1.left) (beginning u) w1) (play h (entry (entered u ds) u.dummy_arrays) (cleared u w)) (λ f w1. run_from h (turn u f) (beginning u) w1) t.1
        (play_keeps (entry (entered u ds) u.dummy_arrays) (cleared u w) t.0 (cleared_in u w i)) (λ f v y j. turns_keep (turn u f) (suc v.left) (beginning u) v y j)

  pub run_keeps : (units : Program) (d : ℕ) (q : Name) (ds : List Interval) (w : World) → RunTouches P Q units d q ds w → In w → In (world_of (meaning units d q ds w))
  run_keeps units zero q ds w t i = i
  run_keeps units (suc d) q ds w t i =
      unit_keeps (at_sites (units q) (meaning units d)) (λ s es v. RunTouches P Q units d (callee (units q) s) es v) (λ s es v c j. run_keeps units d (callee (units q) s) es v c j) (units q) ds w t i
