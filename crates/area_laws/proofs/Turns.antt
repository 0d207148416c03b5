-- Turns and entries of a unit stay in the areas of the program.
use Rattle.std.proofs.Common.{◌≡◌, ℕ, zero, suc, ◌-◌, ◌<◌, ◌≤◌, List, [], ◌∷◌, Option, Some, None, Bool, true, false, cond, ℤ, pos, ◌+ℤ◌, ◌-ℤ◌, refl, ap, subst, arith, nat_lt, nat_eq, get_or, if◌then◌else◌}
use Rattle.std.specs.Ordering.{int_eq}
use Rattle.std.proofs.lemmas.Bool.{eqb-true}
use Rattle.std.proofs.lemmas.Bool.Decides.{nat_tests}
use Rattle.run_model.specs.Storage.{Interval}
use Rattle.run_model.specs.Acts.{Undefined, Act, Done, Fail, and_then, ◌>>◌}
use Rattle.run_model.specs.Turns.{After, Again}
use Rattle.f77_tree.specs.declared.unit.Ty.{Ty}
use Rattle.f77_tree.specs.declared.unit.Ty.TheVariants as types
use Rattle.f77_tree.specs.declared.unit.Unit.{Unit as SourceUnit}
use Rattle.f77_tree.specs.declared.unit.Value.{Value}
use Rattle.f77_tree.specs.declared.unit.Value.TheVariants.{Integer, Logical}
use Rattle.f77_flow.specs.Graph.{Point, At, Inside as InsideOf, Test, Advance}
use Rattle.f77_semantics.specs.declared.storage.Base.{Base}
use Rattle.f77_semantics.specs.declared.storage.Base.TheVariants.{Dummy}
use Rattle.f77_semantics.specs.declared.storage.Extent.{Extent}
use Rattle.f77_semantics.specs.Program.{Term, Text, Variable, Element, Terms, End, ◌and◌, Statement, Assign, If, LogicalIf, ArithmeticIf, GoTo, ComputedGoTo, Do, Continue, Call, Return, Stop, Print, Read, NoStatement, Bound, DummyArray, Routine}
use Rattle.f77_semantics.specs.Expressions.{Frame, interval, nothing, only_first, scalar, sequence, element, fetch, store, value, values, actuals}
use Rattle.f77_semantics.specs.Statements.{Here, as_number, as_truth, number, condition, target, items, say_all, say_record, read_all, chosen, step_of, to, to_chosen, return, tested, perform, inner, advance, statement, turn_at, turn, written, trips, set_loop}
use Rattle.f77_semantics.specs.Units.{total, is_array, associated, entered, lower_of, upper_of, bounds_of, positive, extents, product, filled, divide, dimensions, with_shape, entry}
use Rattle.f77_semantics.specs.Effects.{TermOk, TargetOk, TargetsOk, ItemsOk, StepOk, StatementOk, InnerOk, BoundsOk, EntryOk, UnitOk}
use Rattle.f77_semantics.proofs.Turns.{entered_ok}
use Rattle.f77_semantics.specs.Source.{routine}
use Rattle.sound_units.specs.Units.{effects}
use Rattle.area_laws.specs.Areas.{unit_named, fresh_units, area_size, InArea, Inside}
use Rattle.area_laws.specs.Touches.{Every}
use Rattle.area_laws.proofs.Stays.{Stays, stays_then}
use Rattle.area_laws.proofs.Bases.{TermIn, TermsIn, OptionalIn, StatementIn, BoundIn, DummyIn, ResultIn, RoutineIn}
use Rattle.area_laws.proofs.Terms as terms
use Rattle.area_laws.proofs.Terms.{Any, FrameIn}

module _ (units : List SourceUnit) (u : SourceUnit) (is : unit_named units u.name ≡ Some u) where
  module _ (f : Frame) (fi : FrameIn units u is f) where
    abbrev StaysIn : {A : Type 0} → (A → Type 0) → Act A → Type 0
    StaysIn R a = Stays (InArea units) (Inside units) R a

    abbrev then_stays : {A B : Type 0} → (R : A → Type 0) (T : B → Type 0) (a : Act A) (g : A → Act B) → StaysIn R a → ((x : A) → R x → StaysIn T (g x)) → StaysIn T (and_then a g)
    then_stays R T a g h k = stays_then (InArea units) (Inside units) R T a g h k

    as_number_stays : (v : Value) → StaysIn Any (as_number v)
    as_number_stays (Integer x) = tt
    as_number_stays (Logical b) = tt

    as_truth_stays : (v : Value) → StaysIn Any (as_truth v)
    as_truth_stays (Integer x) = tt
    as_truth_stays (Logical b) = tt

    number_stays : (e : Term) → TermOk (effects u) types.Integer e → TermIn units u e → StaysIn Any (number f e)
    number_stays e o h = then_stays Any Any (value f e) _ (terms.value_stays units u is f fi e types.Integer o h) (λ x p. as_number_stays x)

    condition_stays : (e : Term) → TermOk (effects u) types.Logical e → TermIn units u e → StaysIn Any (condition f e)
    condition_stays e o h = then_stays Any Any (value f e) _ (terms.value_stays units u is f fi e types.Logical o h) (λ x p. as_truth_stays x)

    target_stays : (t : Term) → TargetOk (effects u) t → TermIn units u t → StaysIn (InArea units) (target f t)
    target_stays (Variable ty b) o h = terms.scalar_in units u is f fi b h
    target_stays (Element ty a es) o h =
        then_stays Any (InArea units) (values f es) _ (terms.values_stay units u is f fi es o.2 h.1) (λ vs p.
        then_stays (λ k. k < (sequence f a).length) (InArea units) (element f a vs) _ (terms.element_stays units u is f fi a o.0 vs) (λ k lt.
        terms.at_in units u is f fi (sequence f a) k (terms.interval_in units u is f fi a.base a.length h.0) lt))
    target_stays t o h = absurd o

    items_stay : (es : Terms) → ItemsOk (effects u) es → TermsIn units u es → StaysIn Any (items f es)
    items_stay End o h = tt
    items_stay (Text bs and es) o h = then_stays Any Any (items f es) _ (items_stay es o h.1) (λ ps p. tt)
    items_stay (e and es) o h = item_stays (value f e) (terms.value_stays units u is f fi e o.0.0 o.0.1 h.0) (items f es) (items_stay es o.1 h.1)
      where
        item_stays : (a : Act Value) → StaysIn Any a → (b : Act (List (List ℕ))) → StaysIn Any b → StaysIn Any (and_then a (λ x. and_then b (λ ps. Done ((32 ∷ []) ∷ written x ∷ ps))))
        item_stays a h b k = then_stays Any Any a (λ x. and_then b (λ ps. Done ((32 ∷ []) ∷ written x ∷ ps))) h (λ x p. then_stays Any Any b (λ ps. Done ((32 ∷ []) ∷ written x ∷ ps)) k (λ ps q. tt))

    say_stays : (ps : List (List ℕ)) → StaysIn Any (say_all ps)
    say_stays [] = tt
    say_stays (p ∷ ps) = say_stays ps

    record_stays : (ps : List (List ℕ)) → StaysIn Any (say_record ps)
    record_stays [] = tt
    record_stays (p ∷ ps) = say_stays (p ∷ ps)

    read_stays : (ts : Terms) → TargetsOk (effects u) ts → TermsIn units u ts → StaysIn Any (read_all f ts)
    read_stays End o h = tt
    read_stays (t and ts) o h = then_stays (InArea units) Any (target f t) _ (target_stays t o.0 h.0) (λ l p x. (p, read_stays ts o.1 h.1))

    step_stays : (e : Option Term) → StepOk (effects u) e → OptionalIn units u e → StaysIn Any (step_of f e)
    step_stays None o h = tt
    step_stays (Some e) o h = number_stays e o h

    module _ (r : Routine) where
      tested_stays : (k : ℕ) (s : Here) → StaysIn Any (tested r k s)
      tested_stays k s = go (s.loops k).count
        where
          go : (n : ℕ) → StaysIn Any (elim n [ zero ↦ to (r.leaving k) s | suc n ↦ to (At (r.below k)) s ])
          go zero = tt
          go (suc n) = tt

      return_stays : (o : Option (Ty × Base)) → ResultIn units u o → StaysIn Any (return f o)
      return_stays None h = tt
      return_stays (Some x) h = then_stays Any Any (fetch x.0 (scalar f x.1)) _ (terms.fetch_stays units u is f fi x.0 (scalar f x.1) (terms.scalar_in units u is f fi x.1 h)) (λ v p. tt)

      module _ (ri : RoutineIn units u r) where
        perform_stays : (s : Here) (k : ℕ) (t : Statement) → StatementOk r (effects u) k t → StatementIn units u t → StaysIn Any (perform r f s k t)
        perform_stays s k (Assign t e) o h =
            then_stays (InArea units) Any (target f t) _ (target_stays t o.0 h.0) (λ l p.
            then_stays Any Any (value f e) _ (terms.value_stays units u is f fi e o.1.0 o.1.1 h.1) (λ x q. (p, tt)))
        perform_stays s k (If e w) o h = then_stays Any Any (condition f e) _ (condition_stays e o.0 h) (λ c q. tt)
        perform_stays s k (LogicalIf e t) o h = then_stays Any Any (condition f e) _ (condition_stays e o.0 h.0) (λ c q. tt)
        perform_stays s k (ArithmeticIf e a b c) o h = then_stays Any Any (number f e) _ (number_stays e o.0 h) (λ x q. tt)
        perform_stays s k (GoTo l) o h = tt
        perform_stays s k (ComputedGoTo ls e) o h = then_stays Any Any (number f e) _ (number_stays e o.0 h) (λ x q. goes (chosen ls x))
          where
            goes : (j : Option ℕ) → StaysIn Any (to_chosen j (r.after k) s)
            goes None = tt
            goes (Some l) = tt
        perform_stays s k (Do b e1 e2 e3) o h =
            then_stays Any Any (number f e1) _ (number_stays e1 o.3 h.1) (λ m1 p1.
            then_stays Any Any (number f e2) _ (number_stays e2 o.4 h.2) (λ m2 p2.
            then_stays Any Any (step_of f e3) _ (step_stays e3 o.5 h.3) (λ m3 p3. go m1 m2 m3 (int_eq m3 (pos 0)))))
          where
            go : (m1 m2 m3 : ℤ) (z : Bool) → StaysIn {A = After Here} Any (if z then Fail (Undefined 6) else (store (scalar f b) (Integer m1) >> Done (Again (record { point = Test k; loops = set_loop k (record { count = trips m1 m2 m3; step = m3 }) s.loops }))))
            go m1 m2 m3 true = tt
            go m1 m2 m3 false = (terms.scalar_in units u is f fi b h.0, tt)
        perform_stays s k Continue o h = tt
        perform_stays s k (Call site es) o h =
            then_stays (Every (Inside units)) Any (actuals f site 0 es) _ (terms.actuals_stay units u is f fi es site 0 o.2 h (terms.room units u is f fi site es o.0 o.1)) (λ ds p. (p, λ a. tt))
        perform_stays s k Return o h = return_stays r.result ri.result
        perform_stays s k Stop o h = tt
        perform_stays s k (Print es) o h = then_stays Any Any (items f es) _ (items_stay es o.0 h) (λ ps p. then_stays Any Any (say_record ps) _ (record_stays ps) (λ x q. tt))
        perform_stays s k (Read ts) o h = then_stays Any Any (read_all f ts) _ (read_stays ts o.0 h) (λ x q. tt)
        perform_stays s k NoStatement o h = tt

        inner_stays : (s : Here) (k : ℕ) (t : Statement) → InnerOk r (effects u) k t → StatementIn units u t → StaysIn Any (perform r f s k (inner t))
        inner_stays s k (LogicalIf e t) o h = perform_stays s k t o.0 h.1
        inner_stays s k t o h = tt

        advance_stays : (s : Here) (k : ℕ) (t : Statement) → StatementIn units u t → StaysIn Any (advance r f s k t)
        advance_stays s k (Do b e1 e2 e3) h =
            then_stays Any Any (fetch types.Integer (scalar f b)) _ (terms.fetch_stays units u is f fi types.Integer (scalar f b) (terms.scalar_in units u is f fi b h.0)) (λ x p.
            then_stays Any Any (as_number x) _ (as_number_stays x) (λ n q. (terms.scalar_in units u is f fi b h.0, tested_stays k (record s { loops = set_loop k (record { count = (s.loops k).count - 1; step = (s.loops k).step }) s.loops }))))
        advance_stays s k t h = tt

        pub turn_stays : UnitOk r (effects u) → (s : Here) → StaysIn Any (turn r f s)
        turn_stays uo s = go s.point
          where
            go : (p : Point) → StaysIn Any (turn_at r f s p)
            go (At k) = perform_stays s k (statement r k) (uo.each k) (ri.each k)
            go (InsideOf k) = inner_stays s k (statement r k) (uo.inner k) (ri.each k)
            go (Test k) = tested_stays k s
            go (Advance k) = advance_stays s k (statement r k) (ri.each k)

    -- ---- the entry

    lower_stays : (b : Option Term) → StepOk (effects u) b → OptionalIn units u b → StaysIn Any (lower_of f b)
    lower_stays None o h = tt
    lower_stays (Some e) o h = number_stays e o h

    upper_stays : (b : Option Term) → StepOk (effects u) b → OptionalIn units u b → StaysIn Any (upper_of f b)
    upper_stays None o h = tt
    upper_stays (Some e) o h = then_stays Any Any (number f e) _ (number_stays e o h) (λ x p. tt)

    bounds_stay : (bs : List Bound) → BoundsOk (effects u) bs → Every (BoundIn units u) bs → StaysIn Any (bounds_of f bs)
    bounds_stay [] o h = tt
    bounds_stay (b ∷ bs) o h =
        then_stays Any Any (lower_of f b.lower) _ (lower_stays b.lower o.0.0 h.0.0) (λ x p.
        then_stays Any Any (upper_of f b.upper) _ (upper_stays b.upper o.0.1 h.0.1) (λ y q.
        then_stays Any Any (bounds_of f bs) _ (bounds_stay bs o.1 h.1) (λ ps r. tt)))

    extents_stay : (bs : List (ℤ × Option ℤ)) → StaysIn Any (extents bs)
    extents_stay [] = tt
    extents_stay ((x, None) ∷ bs) = then_stays Any Any (extents bs) _ (extents_stay bs) (λ r p. tt)
    extents_stay ((x, Some y) ∷ bs) = go (positive ((y -ℤ x) +ℤ pos 1)) (extents bs) (extents_stay bs)
      where
        go : (o : Option ℕ) (a : Act (List (ℤ × Option ℕ))) → StaysIn Any a → StaysIn Any (elim o [ None ↦ Fail (Undefined 4) | Some n ↦ and_then a (λ rest. Done ((x, Some n) ∷ rest)) ])
        go None a h = tt
        go (Some n) a h = then_stays Any Any a (λ rest. Done ((x, Some n) ∷ rest)) h (λ r p. tt)

    filled_stays : (star : ℕ) (es : List (ℤ × Option ℕ)) → StaysIn Any (filled star es)
    filled_stays star [] = tt
    filled_stays star ((x, Some n) ∷ es) = then_stays Any Any (filled star es) _ (filled_stays star es) (λ r p. tt)
    filled_stays star ((x, None) ∷ es) = go (nat_lt star 1) (filled star es) (filled_stays star es)
      where
        go : (b : Bool) (a : Act (List Extent)) → StaysIn Any a → StaysIn Any (if b then Fail (Undefined 4) else and_then a (λ rest. Done (record { lower = x; size = star } ∷ rest)))
        go true a h = tt
        go false a h = then_stays Any Any a (λ rest. Done (record { lower = x; size = star } ∷ rest)) h (λ r p. tt)

    dimensions_stay : (long : ℕ) (bs : List Bound) → BoundsOk (effects u) bs → Every (BoundIn units u) bs → StaysIn (λ es. total es ≤ long) (dimensions f long bs)
    dimensions_stay long bs o h =
        then_stays Any Short (bounds_of f bs) _ (bounds_stay bs o h) (λ pairs p.
        then_stays Any Short (extents pairs) _ (extents_stay pairs) (λ es q.
        then_stays Any Short (filled (divide long (product es)) es) _ (filled_stays (divide long (product es)) es) (λ shape r. go shape (nat_lt long (total shape)) refl)))
      where
        Short : List Extent → Type 0
        Short es = total es ≤ long

        go : (shape : List Extent) (b : Bool) → nat_lt long (total shape) ≡ b → StaysIn (λ es. total es ≤ long) (if b then Fail (Undefined 3) else Done shape)
        go shape true e = tt
        go shape false e = grind (arith, nat_tests)

  shaped : (f : Frame) (k : ℕ) (es : List Extent) → FrameIn units u is f → total es ≤ (interval f (Dummy k) 0).length → FrameIn units u is (with_shape k es f)
  shaped f k es fi le = record { unit_is = fi.unit_is; ok = record { scalars = fi.ok.scalars; shapes = λ j a. go j a (nat_eq k j) refl }; inside = fi.inside }
    where
      go : (j : ℕ) → is_array (effects u).arrays j ≡ true → (b : Bool) → nat_eq k j ≡ b → total (cond b es (f.shapes j)) ≤ (interval f (Dummy j) 1).length
      go j a true e = subst (λ j. total es ≤ (interval f (Dummy j) 1).length) (eqb-true k j e) le
      go j a false e = fi.ok.shapes j a

  pub entry_stays : (as_ : List DummyArray) (f : Frame) → FrameIn units u is f → EntryOk (effects u) as_ → Every (DummyIn units u) as_ → Stays (InArea units) (Inside units) (FrameIn units u is) (entry f as_)
  entry_stays [] f fi o h = fi
  entry_stays (a ∷ as_) f fi o h =
      stays_then (InArea units) (Inside units) (λ es. total es ≤ (interval f (Dummy a.dummy) 0).length) (FrameIn units u is) (dimensions f (interval f (Dummy a.dummy) 0).length a.bounds) _ (dimensions_stay f fi (interval f (Dummy a.dummy) 0).length a.bounds o.0 h.0)
      (λ es le. entry_stays as_ (with_shape a.dummy es f) (shaped f a.dummy es fi le) o.1 h.1)

  -- ---- the actuals of an entry

  first_in : (i : Interval) → Inside units i → Inside units (only_first i)
  first_in i x = let s = x.some in let e = x.ends in record { some = omega arith; ends = omega (arith, s, e) }

  one_in : (as_ : List DummyArray) (j : ℕ) (ds : List Interval) (other : Interval) → Every (Inside units) ds → Inside units other → (k : ℕ) → Inside units (get_or (associated as_ j ds) k other)
  one_in as_ j [] other h x k = x
  one_in as_ j (d ∷ ds) other h x zero = go (is_array as_ j)
    where
      go : (b : Bool) → Inside units (if b then d else only_first d)
      go true = h.0
      go false = first_in d h.0
  one_in as_ j (d ∷ ds) other h x (suc k) = one_in as_ (suc j) ds other h.1 x k

  nothing_in : Inside units (nothing u.name)
  nothing_in = record { some = omega arith; ends = (let e : area_size units (nothing u.name).area ≡ 1 = ap (λ o. fresh_units o 0 0) is in omega (arith, e)) }

  pub entered_in : (ds : List Interval) → Every (Inside units) ds → FrameIn units u is (entered (routine u) ds)
  entered_in ds h = record { unit_is = refl; ok = entered_ok (routine u) (effects u) ds refl; inside = one_in (routine u).dummy_arrays 0 ds (nothing u.name) h nothing_in }
