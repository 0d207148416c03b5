-- Turns and entries of units whose literals have 64 bits store such integers alone.
use Rattle.std.proofs.Common.{◌≡◌, ℕ, zero, suc, ◌-◌, List, [], ◌∷◌, Option, Some, None, Bool, true, false, cond, ℤ, pos, ◌+ℤ◌, ◌-ℤ◌, nat_lt, if◌then◌else◌}
use Rattle.std.specs.Int.{w64}
use Rattle.std.specs.List.{AllByRecursion}
use Rattle.std.specs.Ordering.{int_eq}
use Rattle.std.proofs.lemmas.Int.{SFits-int_wrap}
use Rattle.run_model.specs.Storage as storage
use Rattle.run_model.specs.Storage.{Loc, Interval}
use Rattle.run_model.specs.Acts.{World, Undefined, Act, Done, Fail, and_then, ◌>>◌, Handler, play}
use Rattle.run_model.specs.Turns.{After, Again, run_from}
use Rattle.f77_tree.specs.declared.unit.Ty.{Ty}
use Rattle.f77_tree.specs.declared.unit.Ty.TheVariants as types
use Rattle.f77_tree.specs.declared.unit.Value.{Value}
use Rattle.f77_tree.specs.declared.unit.Value.TheVariants.{Integer, Logical}
use Rattle.f77_flow.specs.Graph.{Point, At, Inside, Test, Advance}
use Rattle.f77_semantics.specs.Program.{Term, Text, Terms, End, ◌and◌, Statement, Assign, If, LogicalIf, ArithmeticIf, GoTo, ComputedGoTo, Do, Continue, Call, Return, Print, Read, NoStatement, Bound, DummyArray, Routine}
use Rattle.f77_semantics.specs.Program as program
use Rattle.f77_semantics.specs.declared.storage.Base.{Base}
use Rattle.f77_semantics.specs.declared.storage.Base.TheVariants.{Dummy}
use Rattle.f77_semantics.specs.declared.storage.Extent.{Extent}
use Rattle.f77_semantics.specs.Expressions.{Frame, interval, scalar, actuals, fetch, store, value}
use Rattle.f77_semantics.specs.Statements.{Here, as_number, number, condition, target, written, items, say_all, say_record, read_all, trips, set_loop, chosen, step_of, to, to_chosen, return, tested, perform, inner, advance, statement, turn_at, turn}
use Rattle.f77_semantics.specs.Units.{is_cleared, cleared, entered, beginning, run_unit, lower_of, upper_of, bounds_of, positive, extents, product, filled, total, divide, dimensions, with_shape, entry}
use Rattle.run_inputs.specs.Inputs.{IsWord64}
use Rattle.word_laws.specs.Words.{HasWord64, InWord64, AnswersWord64, EndsInWord64}
use Rattle.word_laws.proofs.Acts.{Keeps, Any, bind, Ends, ends_then, play_keeps, AfterIs, turns_keep}
use Rattle.word_laws.proofs.Terms.{Has, TermHas, TermsHave, stored_has, single, fetch_has, value_has, actuals_keep, as_number_has, number_has, condition_keeps, target_keeps}

abbrev pub OptionalHas : Option Term → Type 0
OptionalHas None = Unit {0}
OptionalHas (Some e) = TermHas e

abbrev pub StatementHas : Statement → Type 0
StatementHas (Assign t e) = TermHas t × TermHas e
StatementHas (If e w) = TermHas e
StatementHas (LogicalIf e t) = TermHas e × StatementHas t
StatementHas (ArithmeticIf e a b c) = TermHas e
StatementHas (ComputedGoTo ls e) = TermHas e
StatementHas (Do b e1 e2 e3) = TermHas e1 × TermHas e2 × OptionalHas e3
StatementHas (Call site es) = TermsHave es
StatementHas (Print es) = TermsHave es
StatementHas (Read ts) = TermsHave ts
StatementHas t = Unit {0}

inner_has : (t : Statement) → StatementHas t → StatementHas (inner t)
inner_has (LogicalIf e t) h = h.1
inner_has t h = tt

abbrev pub BoundHas : Bound → Type 0
BoundHas b = OptionalHas b.lower × OptionalHas b.upper

abbrev pub ArrayHas : DummyArray → Type 0
ArrayHas a = AllByRecursion BoundHas a.bounds

pub record RoutineHas (u : Routine) : Type 0 where
  pub statements : (k : ℕ) → StatementHas (statement u k)
  pub arrays : AllByRecursion ArrayHas u.dummy_arrays
  pub initial : AllByRecursion (λ g. Has g.1) u.initial

module _ (f : Frame) where
  item_keeps : (a : Act Value) → Keeps Has a → (b : Act (List (List ℕ))) → Keeps Any b → Keeps Any (and_then a (λ x. and_then b (λ ps. Done ((32 ∷ []) ∷ written x ∷ ps))))
  item_keeps a p b q = bind Has Any a (λ x. and_then b (λ ps. Done ((32 ∷ []) ∷ written x ∷ ps))) p (λ x h. bind Any Any b (λ ps. Done ((32 ∷ []) ∷ written x ∷ ps)) q (λ ps t. tt))

  items_keep : (es : Terms) → TermsHave es → Keeps Any (items f es)
  items_keep End h = tt
  items_keep (Text bs and es) h = bind Any Any (items f es) _ (items_keep es h.1) (λ ps p. tt)
  items_keep (e and es) h = item_keeps (value f e) (value_has f e h.0) (items f es) (items_keep es h.1)

  say_keeps : (ps : List (List ℕ)) → Keeps Any (say_all ps)
  say_keeps [] = tt
  say_keeps (p ∷ ps) = say_keeps ps

  record_keeps : (ps : List (List ℕ)) → Keeps Any (say_record ps)
  record_keeps [] = tt
  record_keeps (p ∷ ps) = say_keeps (p ∷ ps)

  read_keeps : (ts : Terms) → TermsHave ts → Keeps Any (read_all f ts)
  read_keeps End h = tt
  read_keeps (t and ts) h = bind Any Any (target f t) _ (target_keeps f t h.0) (λ l p x b. (b, read_keeps ts h.1))

  step_has : (e : Option Term) → OptionalHas e → Keeps IsWord64 (step_of f e)
  step_has None h = single
  step_has (Some e) h = number_has f e h

  return_has : (r : Option (Ty × Base)) → Keeps AfterIs (return f r)
  return_has None = tt
  return_has (Some r) = bind Has AfterIs (fetch r.0 (scalar f r.1)) _ (fetch_has r.0 (scalar f r.1)) (λ v h. stored_has v h)

  module _ (u : Routine) where
    tested_keeps : (k : ℕ) (s : Here) → Keeps AfterIs (tested u k s)
    tested_keeps k s = go (s.loops k).count
      where
        go : (n : ℕ) → Keeps AfterIs (elim n [ zero ↦ to (u.leaving k) s | suc n ↦ to (At (u.below k)) s ])
        go zero = tt
        go (suc n) = tt

    chosen_keeps : (o : Option ℕ) (p : Point) (s : Here) → Keeps AfterIs (to_chosen o p s)
    chosen_keeps None p s = tt
    chosen_keeps (Some l) p s = tt

    perform_keeps : (s : Here) (k : ℕ) (t : Statement) → StatementHas t → Keeps AfterIs (perform u f s k t)
    perform_keeps s k (Assign t e) h = bind Any AfterIs (target f t) _ (target_keeps f t h.0) (λ l p. bind Has AfterIs (value f e) _ (value_has f e h.1) (λ x q. (stored_has x q, tt)))
    perform_keeps s k (If e w) h = bind Any AfterIs (condition f e) _ (condition_keeps f e h) (λ c p. tt)
    perform_keeps s k (LogicalIf e t) h = bind Any AfterIs (condition f e) _ (condition_keeps f e h.0) (λ c p. tt)
    perform_keeps s k (ArithmeticIf e a b c) h = bind IsWord64 AfterIs (number f e) _ (number_has f e h) (λ x p. tt)
    perform_keeps s k (GoTo l) h = tt
    perform_keeps s k (ComputedGoTo ls e) h = bind IsWord64 AfterIs (number f e) _ (number_has f e h) (λ x p. chosen_keeps (chosen ls x) (u.after k) s)
    perform_keeps s k (Do b e1 e2 e3) h =
        bind IsWord64 AfterIs (number f e1) _ (number_has f e1 h.0) (λ m1 p1.
        bind IsWord64 AfterIs (number f e2) _ (number_has f e2 h.1) (λ m2 p2.
        bind IsWord64 AfterIs (step_of f e3) _ (step_has e3 h.2) (λ m3 p3. go m1 m2 m3 p1 (int_eq m3 (pos 0)))))
      where
        go : (m1 m2 m3 : ℤ) → IsWord64 m1 → (z : Bool) → Keeps {A = After Here} AfterIs (if z then Fail (Undefined 6) else (store (scalar f b) (Integer m1) >> Done (Again (record { point = Test k; loops = set_loop k (record { count = trips m1 m2 m3; step = m3 }) s.loops }))))
        go m1 m2 m3 p true = tt
        go m1 m2 m3 p false = (p, tt)
    perform_keeps s k Continue h = tt
    perform_keeps s k (Call site es) h = bind Any AfterIs (actuals f site 0 es) _ (actuals_keep f es site 0 h) (λ ds p r q. tt)
    perform_keeps s k Return h = return_has u.result
    perform_keeps s k program.Stop h = tt
    perform_keeps s k (Print es) h = bind Any AfterIs (items f es) _ (items_keep es h) (λ ps p. bind Any AfterIs (say_record ps) _ (record_keeps ps) (λ x q. tt))
    perform_keeps s k (Read ts) h = bind Any AfterIs (read_all f ts) _ (read_keeps ts h) (λ x p. tt)
    perform_keeps s k NoStatement h = tt

    advance_keeps : (s : Here) (k : ℕ) (t : Statement) → Keeps AfterIs (advance u f s k t)
    advance_keeps s k (Do b e1 e2 e3) =
        bind Has AfterIs (fetch types.Integer (scalar f b)) _ (fetch_has types.Integer (scalar f b)) (λ x p.
        bind IsWord64 AfterIs (as_number x) _ (as_number_has f x p) (λ n q. (SFits-int_wrap w64 (n +ℤ (s.loops k).step), tested_keeps k (record s { loops = set_loop k (record { count = (s.loops k).count - 1; step = (s.loops k).step }) s.loops }))))
    advance_keeps s k t = tt

    turn_keeps : ((k : ℕ) → StatementHas (statement u k)) → (s : Here) → Keeps AfterIs (turn u f s)
    turn_keeps each s = go s.point
      where
        go : (p : Point) → Keeps AfterIs (turn_at u f s p)
        go (At k) = perform_keeps s k (statement u k) (each k)
        go (Inside k) = perform_keeps s k (inner (statement u k)) (inner_has (statement u k) (each k))
        go (Test k) = tested_keeps k s
        go (Advance k) = advance_keeps s k (statement u k)

  -- ---- entries

  lower_keeps : (b : Option Term) → OptionalHas b → Keeps Any (lower_of f b)
  lower_keeps None h = tt
  lower_keeps (Some e) h = bind Has Any (value f e) as_number (value_has f e h) (λ v p. number_any v)
    where
      number_any : (v : Value) → Keeps Any (as_number v)
      number_any (Integer x) = tt
      number_any (Logical b) = tt

  upper_keeps : (b : Option Term) → OptionalHas b → Keeps Any (upper_of f b)
  upper_keeps None h = tt
  upper_keeps (Some e) h = bind IsWord64 Any (number f e) _ (number_has f e h) (λ x p. tt)

  bounds_keep : (bs : List Bound) → AllByRecursion BoundHas bs → Keeps Any (bounds_of f bs)
  bounds_keep [] h = tt
  bounds_keep (b ∷ bs) h =
      bind Any Any (lower_of f b.lower) _ (lower_keeps b.lower h.0.0) (λ x p.
      bind Any Any (upper_of f b.upper) _ (upper_keeps b.upper h.0.1) (λ y q.
      bind Any Any (bounds_of f bs) _ (bounds_keep bs h.1) (λ rest r. tt)))

extents_keep : (bs : List (ℤ × Option ℤ)) → Keeps Any (extents bs)
extents_keep [] = tt
extents_keep ((x, None) ∷ bs) = bind Any Any (extents bs) _ (extents_keep bs) (λ rest p. tt)
extents_keep ((x, Some y) ∷ bs) = go (positive ((y -ℤ x) +ℤ pos 1)) (extents bs) (extents_keep bs)
  where
    go : (o : Option ℕ) (a : Act (List (ℤ × Option ℕ))) → Keeps Any a → Keeps Any (elim o [ None ↦ Fail (Undefined 4) | Some n ↦ and_then a (λ rest. Done ((x, Some n) ∷ rest)) ])
    go None a b = tt
    go (Some n) a b = bind Any Any a (λ rest. Done ((x, Some n) ∷ rest)) b (λ rest p. tt)

filled_keep : (star : ℕ) (es : List (ℤ × Option ℕ)) → Keeps Any (filled star es)
filled_keep star [] = tt
filled_keep star ((x, Some n) ∷ es) = bind Any Any (filled star es) _ (filled_keep star es) (λ rest p. tt)
filled_keep star ((x, None) ∷ es) = go (nat_lt star 1) (filled star es) (filled_keep star es)
  where
    go : (z : Bool) (a : Act (List Extent)) → Keeps Any a → Keeps Any (if z then Fail (Undefined 4) else and_then a (λ rest. Done (record { lower = x; size = star } ∷ rest)))
    go true a b = tt
    go false a b = bind Any Any a (λ rest. Done (record { lower = x; size = star } ∷ rest)) b (λ rest p. tt)

dimensions_keep : (f : Frame) (long : ℕ) (bs : List Bound) → AllByRecursion BoundHas bs → Keeps Any (dimensions f long bs)
dimensions_keep f long bs h =
    bind Any Any (bounds_of f bs) _ (bounds_keep f bs h) (λ pairs p.
    bind Any Any (extents pairs) _ (extents_keep pairs) (λ es q.
    bind Any Any (filled (divide long (product es)) es) _ (filled_keep (divide long (product es)) es) (λ shape r. go shape (nat_lt long (total shape)))))
  where
    go : (shape : List Extent) (z : Bool) → Keeps Any (if z then Fail (Undefined 3) else Done shape)
    go shape true = tt
    go shape false = tt

entry_keeps : (as_ : List DummyArray) (f : Frame) → AllByRecursion ArrayHas as_ → Keeps Any (entry f as_)
entry_keeps [] f h = tt
entry_keeps (a ∷ as_) f h =
    bind Any Any (dimensions f (interval f (Dummy a.dummy) 0).length a.bounds) _ (dimensions_keep f (interval f (Dummy a.dummy) 0).length a.bounds h.0) (λ es p. entry_keeps as_ (with_shape a.dummy es f) h.1)

-- ---- units

cleared_has : (u : Routine) (w : World) → InWord64 w → InWord64 (cleared u w)
cleared_has u w i = record { cells = λ l v e. go l v (is_cleared u l.area l.offset) e; input = i.input }
  where
    go : (l : Loc) (v : storage.Value) (b : Bool) → cond b None (w.cells l) ≡ Some v → HasWord64 v
    go l v true e = let z : None ≡ Some v = e in cc
    go l v false e = i.cells l v e

pub unit_keeps : (h : Handler) → ((s : ℕ) (ds : List Interval) (w : World) → InWord64 w → EndsInWord64 (h s ds w)) → (u : Routine) → RoutineHas u → (ds : List Interval) (w : World) → InWord64 w → Ends AnswersWord64 (run_unit h u ds w)
unit_keeps h hs u r ds w i = ends_then Any AnswersWord64 (play h (entry (entered u ds) u.dummy_arrays) (cleared u w)) (λ f w1. run_from h (turn u f) (beginning u) w1)
    (play_keeps h hs Any (entry (entered u ds) u.dummy_arrays) (entry_keeps u.dummy_arrays (entered u ds) r.arrays) (cleared u w) (cleared_has u w i))
    (λ f v p j. turns_keep h hs (turn u f) (turn_keeps f u r.statements) (suc v.left) (beginning u) v j)
