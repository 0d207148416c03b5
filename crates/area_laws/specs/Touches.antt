-- What a run touches: the locations that it reads and stores to, and the intervals that it passes. The definitions go as those of the run
-- itself do, act by act, turn by turn and call by call.
use Rattle.std.specs.Prelude.{ℕ, zero, suc, ◌++◌, Option, Some, None, List, [], ◌∷◌, ℤ}
use Rattle.run_model.specs.Storage.{Value, Loc, Interval, put_cell}
use Rattle.run_model.specs.Acts.{World, Outcome, Fine, Stop, Act, Done, Get, Put, Say, Take, Ask, Fail, Handler, play}
use Rattle.run_model.specs.Turns.{After, Again, Result}
use Rattle.f77_values.specs.Tables.{Name}
use Rattle.f77_semantics.specs.Program.{Routine}
use Rattle.f77_semantics.specs.Statements.{turn}
use Rattle.f77_semantics.specs.Units.{Program, entry, cleared, entered, beginning, at_sites, meaning, callee}

abbrev pub Every : {A : Type 0} → (A → Type 0) → List A → Type 0
Every P [] = Unit {0}
Every P (x ∷ xs) = P x × Every P xs

-- where a cell has a value
abbrev pub AtCell : Option Value → (Value → Type 0) → Type 0
AtCell None P = Unit {0}
AtCell (Some v) P = P v

-- where an integer is left
abbrev pub AtInput : List ℤ → World → (ℤ → World → Type 0) → Type 0
AtInput [] w P = Unit {0}
AtInput (x ∷ xs) w P = P x (record w { input = xs })

-- where a run goes on
abbrev pub Behind : {A : Type 0} → Outcome A → (A → World → Type 0) → Type 0
Behind (Fine a w) P = P a w
Behind (Stop r w) P = Unit {0}

-- where a step is left
abbrev pub AtStep : ℕ → World → (World → Type 0) → Type 0
AtStep zero w P = Unit {0}
AtStep (suc n) w P = P (record w { left = n })

abbrev pub AtNext : {S : Type 0} → After S → World → (S → World → Type 0) → Type 0
AtNext (Again s) w P = P s w
AtNext (Result r) w P = Unit {0}

-- Each location that is touched has the property P, and each interval that is passed has Q. C is what is said of the calls.
module _ (P : Loc → Type 0) (Q : Interval → Type 0) where
  module _ (h : Handler) (C : ℕ → List Interval → World → Type 0) where
    abbrev pub PlayTouches : {A : Type 0} → Act A → World → Type 0
    PlayTouches (Done a) w = Unit {0}
    PlayTouches (Get l k) w = P l × AtCell (w.cells l) (λ v. PlayTouches (k v) w)
    PlayTouches (Put l v a) w = P l × PlayTouches a (record w { cells = put_cell l v w.cells })
    PlayTouches (Say bs a) w = PlayTouches a (record w { out = w.out ++ bs })
    PlayTouches (Take k) w = AtInput w.input w (λ x w1. PlayTouches (k x) w1)
    PlayTouches (Ask s ds k) w = Every Q ds × C s ds w × Behind (h s ds w) (λ r w1. PlayTouches (k r) w1)
    PlayTouches (Fail r) w = Unit {0}

    abbrev pub TurnsTouch : {S : Type 0} → (S → Act (After S)) → ℕ → S → World → Type 0
    TurnsTouch t zero s w = Unit {0}
    TurnsTouch t (suc n) s w = AtStep w.left w (λ w1. PlayTouches (t s) w1 × Behind (play h (t s) w1) (λ a w2. AtNext a w2 (TurnsTouch t n)))

    abbrev pub UnitTouches : Routine → List Interval → World → Type 0
    UnitTouches u ds w = PlayTouches (entry (entered u ds) u.dummy_arrays) (cleared u w) × Behind (play h (entry (entered u ds) u.dummy_arrays) (cleared u w)) (λ f w1. TurnsTouch (turn u f) (suc w1.left) (beginning u) w1)

  -- the run of a unit, with those that it calls, as `meaning` has it
  abbrev pub RunTouches : Program → (depth : ℕ) → Name → List Interval → World → Type 0
  RunTouches units zero q ds w = Unit {0}
  RunTouches units (suc d) q ds w = UnitTouches (at_sites (units q) (meaning units d)) (λ s es v. RunTouches units d (callee (units q) s) es v) (units q) ds w
