-- Whatever is read and answered, a run stops for a cause from 1 to 6, and ends with status 0 or 3.
use Rattle.std.proofs.Common.{ℕ, zero, suc, ◌-◌, List, [], ◌∷◌, Option, Some, None, Bool, true, false, ℤ, pos, inl, inr, refl, map, length, ◌+ℤ◌, ◌-ℤ◌, nat_lt, if◌then◌else◌, subst, arith}
use Rattle.std.specs.Ordering.{int_eq}
use Rattle.run_model.specs.Storage.{Value as Held, Loc, Interval}
use Rattle.run_model.specs.Acts.{World, Reason, Spent, Ended, Undefined, Stuck, Outcome, Fine, Stop, then_do, Act, Done, Get, Put, Say, Take, Ask, Fail, and_then, ◌>>◌, Answer, Handler, play, with_cell, with_input}
use Rattle.run_model.specs.Runs.{Run, Finished, UndefinedAt, answer}
use Rattle.run_model.specs.Turns.{After, Again, Result, ticked, follow, turns, run_from}
use Rattle.f77_tree.specs.declared.expr.Op.{Op}
use Rattle.f77_tree.specs.declared.expr.Op.TheVariants.{Div}
use Rattle.f77_tree.specs.declared.unit.Ty.{Ty}
use Rattle.f77_tree.specs.declared.unit.Ty.TheVariants as types
use Rattle.f77_tree.specs.declared.unit.Value.{Value}
use Rattle.f77_tree.specs.declared.unit.Value.TheVariants.{Integer, Logical}
use Rattle.f77_names.specs.declared.intrinsics.Intrinsic.{Intrinsic}
use Rattle.f77_names.specs.declared.intrinsics.Intrinsic.TheVariants.{Abs, Mod, Sign, Dim, Max, Min}
use Rattle.f77_values.specs.Arithmetic.{operate, divided, negated, kept, denied}
use Rattle.f77_values.specs.Tables.{Name}
use Rattle.f77_flow.specs.Graph.{Point, At, Inside, Test, Advance}
use Rattle.f77_semantics.specs.Values.{stored, seen, has_type, or_fail, lacking, operated, remainder, intrinsic}
use Rattle.f77_semantics.specs.Program.{Term, Literal, Text, Variable, Element, Whole, Reference, Apply, Paren, Negative, Plus, Not, Binary, NoTerm, Terms, End, ◌and◌, Statement, Assign, If, LogicalIf, ArithmeticIf, GoTo, ComputedGoTo, Do, Continue, Call, Return, Print, Read, NoStatement, Bound, DummyArray, Routine}
use Rattle.f77_semantics.specs.declared.storage.Base.TheVariants.{Dummy}
use Rattle.f77_semantics.specs.declared.storage.Base.{Base}
use Rattle.f77_semantics.specs.declared.storage.Extent.{Extent}
use Rattle.f77_semantics.specs.declared.storage.Array.{Array}
use Rattle.f77_semantics.specs.Program as program
use Rattle.f77_semantics.specs.Expressions.{Frame, interval, at, scalar, shape, numbered, integers, element, sequence, resulting, fresh, fetch, store, value, values, actuals}
use Rattle.f77_semantics.specs.Statements.{Here, set_loop, as_number, as_truth, number, condition, target, written, items, say_all, say_record, read_all, trips, chosen, step_of, to, to_chosen, return, tested, perform, inner, advance, statement, turn_at, turn}
use Rattle.f77_semantics.specs.Units.{Program, lower_of, upper_of, bounds_of, positive, extents, product, divide, filled, total, dimensions, with_shape, entry, cleared, entered, beginning, at_sites, meaning, callee, named, fresh_world}
use Rattle.f77_tree.specs.declared.unit.Unit.{Unit as SourceUnit}
use Rattle.f77_semantics.specs.Source.{main_of, routine, with_main, Source}
use Rattle.run_laws.specs.Endings.{IsStatus, IsCause, EndsWithStatus, HasACause}

abbrev pub ForReason : Reason → Type 0
ForReason (Undefined c) = IsCause c
ForReason (Ended e) = IsStatus e
ForReason _ = Unit {0}

-- whatever is read and answered, the acts fail for such causes
abbrev pub Known : {A : Type 0} → Act A → Type 0
Known (Done a) = Unit {0}
Known (Get l k) = (v : Held) → Known (k v)
Known (Put l v a) = Known a
Known (Say bs a) = Known a
Known (Take k) = (x : ℤ) → Known (k x)
Known (Ask s ds k) = (r : Answer) → Known (k r)
Known (Fail r) = ForReason r

abbrev pub Ending : {A : Type 0} → Outcome A → Type 0
Ending (Fine x w) = Unit {0}
Ending (Stop r w) = ForReason r

bind : {A B : Type 0} → (a : Act A) (f : A → Act B) → Known a → ((x : A) → Known (f x)) → Known (and_then a f)
bind (Done a) f k g = g a
bind (Get l n) f k g = λ v. bind (n v) f (k v) g
bind (Put l v a) f k g = bind a f k g
bind (Say bs a) f k g = bind a f k g
bind (Take n) f k g = λ x. bind (n x) f (k x) g
bind (Ask s ds n) f k g = λ r. bind (n r) f (k r) g
bind (Fail r) f k g = k

one : IsCause 1
one = (omega arith, omega arith)

two : IsCause 2
two = (omega arith, omega arith)

three : IsCause 3
three = (omega arith, omega arith)

four : IsCause 4
four = (omega arith, omega arith)

five : IsCause 5
five = (omega arith, omega arith)

six : IsCause 6
six = (omega arith, omega arith)

or_failed : {A : Type 0} → (r : Reason) (o : Option A) → ForReason r → Known (or_fail r o)
or_failed r None k = k
or_failed r (Some a) k = tt

lacking_known : (op : Op) (x y : Value) → ForReason (lacking op x y)
lacking_known Div (Integer x) (Integer y) = five
lacking_known _ _ _ = tt

operated_known : (op : Op) (x y : Value) → Known (operated op x y)
operated_known op x y = or_failed (lacking op x y) (operate op x y) (lacking_known op x y)

intrinsic_known : (i : Intrinsic) (xs : List ℤ) → Known (intrinsic i xs)
intrinsic_known Abs (x ∷ []) = tt
intrinsic_known Mod (x ∷ y ∷ []) = or_failed (Undefined 5) (remainder x y (divided x y)) five
intrinsic_known Sign (x ∷ y ∷ []) = tt
intrinsic_known Dim (x ∷ y ∷ []) = tt
intrinsic_known Max (x ∷ xs) = tt
intrinsic_known Min (x ∷ xs) = tt
intrinsic_known _ _ = tt

integers_known : (vs : List Value) → Known (integers vs)
integers_known [] = tt
integers_known (Integer x ∷ vs) = bind (integers vs) (λ xs. Done (x ∷ xs)) (integers_known vs) (λ xs. tt)
integers_known (Logical b ∷ vs) = tt

resulting_known : (r : Answer) → Known (resulting r)
resulting_known (Some c) = tt
resulting_known None = tt

as_number_known : (v : Value) → Known (as_number v)
as_number_known (Integer x) = tt
as_number_known (Logical b) = tt

as_truth_known : (v : Value) → Known (as_truth v)
as_truth_known (Integer x) = tt
as_truth_known (Logical b) = tt

fetch_known : (ty : Ty) (l : Loc) → Known (fetch ty l)
fetch_known ty l = λ c. go (seen c) (has_type ty (seen c))
  where
    go : (v : Value) (b : Bool) → Known (if b then Done v else Fail (Undefined 1))
    go v true = tt
    go v false = one

module _ (f : Frame) where
  element_known : (a : Array) (vs : List Value) → Known (element f a vs)
  element_known a vs = bind (integers vs) (λ is. or_fail (Undefined 2) (numbered (shape f a.bounds) is)) (integers_known vs) (λ is. or_failed (Undefined 2) (numbered (shape f a.bounds) is) two)

  -- an actual that is evaluated into a fresh cell
  fresh_known : (s j : ℕ) (a : Act Value) (b : Act (List Interval)) → Known a → Known b → Known (and_then a (λ x. and_then (store (at (fresh f s j) 0) x) (λ _. and_then b (λ ds. Done (fresh f s j ∷ ds)))))
  fresh_known s j a b k l = bind a (λ x. and_then (store (at (fresh f s j) 0) x) (λ _. and_then b (λ ds. Done (fresh f s j ∷ ds)))) k (λ x. bind b (λ ds. Done (fresh f s j ∷ ds)) l (λ ds. tt))

  mutual
    pub value_known : (e : Term) → Known (value f e)
    value_known (Literal v) = tt
    value_known (Text bs) = tt
    value_known (Variable ty b) = fetch_known ty (scalar f b)
    value_known (Element ty a es) =
        bind (values f es) (λ is. and_then (element f a is) (λ k. fetch ty (at (sequence f a) k))) (values_known es) (λ is.
        bind (element f a is) (λ k. fetch ty (at (sequence f a) k)) (element_known a is) (λ k. fetch_known ty (at (sequence f a) k)))
    value_known (Whole a) = tt
    value_known (Reference s es) = bind (actuals f s 0 es) (λ ds. Ask s ds resulting) (actuals_known es s 0) (λ ds r. resulting_known r)
    value_known (Apply i es) =
        bind (values f es) (λ vs. and_then (integers vs) (λ xs. and_then (intrinsic i xs) (λ x. Done (Integer x)))) (values_known es) (λ vs.
        bind (integers vs) (λ xs. and_then (intrinsic i xs) (λ x. Done (Integer x))) (integers_known vs) (λ xs.
        bind (intrinsic i xs) (λ x. Done (Integer x)) (intrinsic_known i xs) (λ x. tt)))
    value_known (Paren e) = value_known e
    value_known (Plus e) = bind (value f e) (λ x. or_fail Stuck (kept x)) (value_known e) (λ x. or_failed Stuck (kept x) tt)
    value_known (Negative e) = bind (value f e) (λ x. or_fail Stuck (negated x)) (value_known e) (λ x. or_failed Stuck (negated x) tt)
    value_known (Not e) = bind (value f e) (λ x. or_fail Stuck (denied x)) (value_known e) (λ x. or_failed Stuck (denied x) tt)
    value_known (Binary op a b) =
        bind (value f a) (λ x. and_then (value f b) (λ y. operated op x y)) (value_known a) (λ x.
        bind (value f b) (λ y. operated op x y) (value_known b) (λ y. operated_known op x y))
    value_known NoTerm = tt

    pub values_known : (es : Terms) → Known (values f es)
    values_known End = tt
    values_known (e and es) =
        bind (value f e) (λ x. and_then (values f es) (λ xs. Done (x ∷ xs))) (value_known e) (λ x.
        bind (values f es) (λ xs. Done (x ∷ xs)) (values_known es) (λ xs. tt))

    pub actuals_known : (es : Terms) (s j : ℕ) → Known (actuals f s j es)
    actuals_known End s j = tt
    actuals_known (Variable ty b and es) s j = bind (actuals f s (suc j) es) (λ ds. Done (interval f b 1 ∷ ds)) (actuals_known es s (suc j)) (λ ds. tt)
    actuals_known (Whole a and es) s j = bind (actuals f s (suc j) es) (λ ds. Done (sequence f a ∷ ds)) (actuals_known es s (suc j)) (λ ds. tt)
    actuals_known (Element ty a is and es) s j =
        bind (values f is) _ (values_known is) (λ vs.
        bind (element f a vs) _ (element_known a vs) (λ k.
        bind (actuals f s (suc j) es) _ (actuals_known es s (suc j)) (λ ds. tt)))
    actuals_known (e and es) s j = fresh_known s j (value f e) (actuals f s (suc j) es) (value_known e) (actuals_known es s (suc j))

  number_known : (e : Term) → Known (number f e)
  number_known e = bind (value f e) as_number (value_known e) as_number_known

  condition_known : (e : Term) → Known (condition f e)
  condition_known e = bind (value f e) as_truth (value_known e) as_truth_known

  target_known : (t : Term) → Known (target f t)
  target_known (Variable ty b) = tt
  target_known (Element ty a es) =
      bind (values f es) (λ is. and_then (element f a is) (λ k. Done (at (sequence f a) k))) (values_known es) (λ is.
      bind (element f a is) (λ k. Done (at (sequence f a) k)) (element_known a is) (λ k. tt))
  target_known _ = tt

  item_known : (a : Act Value) (b : Act (List (List ℕ))) → Known a → Known b → Known (and_then a (λ x. and_then b (λ ps. Done ((32 ∷ []) ∷ written x ∷ ps))))
  item_known a b k l = bind a (λ x. and_then b (λ ps. Done ((32 ∷ []) ∷ written x ∷ ps))) k (λ x. bind b (λ ps. Done ((32 ∷ []) ∷ written x ∷ ps)) l (λ ps. tt))

  items_known : (es : Terms) → Known (items f es)
  items_known End = tt
  items_known (Text bs and es) = bind (items f es) _ (items_known es) (λ ps. tt)
  items_known (e and es) = item_known (value f e) (items f es) (value_known e) (items_known es)

  say_known : (ps : List (List ℕ)) → Known (say_all ps)
  say_known [] = tt
  say_known (p ∷ ps) = say_known ps

  record_known : (ps : List (List ℕ)) → Known (say_record ps)
  record_known [] = tt
  record_known (p ∷ ps) = say_known (p ∷ ps)

  read_known : (ts : Terms) → Known (read_all f ts)
  read_known End = tt
  read_known (t and ts) = bind (target f t) _ (target_known t) (λ l x. read_known ts)

  step_known : (e : Option Term) → Known (step_of f e)
  step_known None = tt
  step_known (Some e) = number_known e

  return_known : (r : Option (Ty × Base)) → Known (return f r)
  return_known None = tt
  return_known (Some r) = bind (fetch r.0 (scalar f r.1)) (λ v. Done (Result (Some (stored v)))) (fetch_known r.0 (scalar f r.1)) (λ v. tt)

  module _ (u : Routine) (s : Here) (k : ℕ) where
    tested_known : (s : Here) → Known (tested u k s)
    tested_known s = go (s.loops k).count
      where
        go : (n : ℕ) → Known (elim n [ zero ↦ to (u.leaving k) s | suc n ↦ to (At (u.below k)) s ])
        go zero = tt
        go (suc n) = tt

    chosen_known : (o : Option ℕ) → Known (to_chosen o (u.after k) s)
    chosen_known None = tt
    chosen_known (Some l) = tt

    perform_known : (t : Statement) → Known (perform u f s k t)
    perform_known (Assign t e) =
        bind (target f t) (λ l. and_then (value f e) (λ x. and_then (store l x) (λ _. to (u.after k) s))) (target_known t) (λ l.
        bind (value f e) (λ x. and_then (store l x) (λ _. to (u.after k) s)) (value_known e) (λ x. tt))
    perform_known (If e w) = bind (condition f e) (λ c. to (At (if c then u.below k else w)) s) (condition_known e) (λ c. tt)
    perform_known (LogicalIf e t) = bind (condition f e) (λ c. to (if c then Inside k else u.after k) s) (condition_known e) (λ c. tt)
    perform_known (ArithmeticIf e a b c) = bind (number f e) _ (number_known e) (λ x. tt)
    perform_known (GoTo l) = tt
    perform_known (ComputedGoTo ls e) = bind (number f e) (λ x. to_chosen (chosen ls x) (u.after k) s) (number_known e) (λ x. chosen_known (chosen ls x))
    perform_known (Do b e1 e2 e3) =
        bind (number f e1) _ (number_known e1) (λ m1.
        bind (number f e2) _ (number_known e2) (λ m2.
        bind (step_of f e3) _ (step_known e3) (λ m3. go m1 m2 m3 (int_eq m3 (pos 0)))))
      where
        go : (m1 m2 m3 : ℤ) (z : Bool) → Known {A = After Here} (if z then Fail (Undefined 6) else (store (scalar f b) (Integer m1) >> Done (Again (record { point = Test k; loops = set_loop k (record { count = trips m1 m2 m3; step = m3 }) s.loops }))))
        go m1 m2 m3 true = six
        go m1 m2 m3 false = tt
    perform_known Continue = tt
    perform_known (Call site es) = bind (actuals f site 0 es) (λ ds. Ask site ds (λ r. to (u.after k) s)) (actuals_known es site 0) (λ ds r. tt)
    perform_known Return = return_known u.result
    perform_known program.Stop = inl refl
    perform_known (Print es) =
        bind (items f es) (λ ps. and_then (say_record ps) (λ _. to (u.after k) s)) (items_known es) (λ ps.
        bind (say_record ps) (λ _. to (u.after k) s) (record_known ps) (λ x. tt))
    perform_known (Read ts) = bind (read_all f ts) (λ _. to (u.after k) s) (read_known ts) (λ x. tt)
    perform_known NoStatement = tt

    advance_known : (t : Statement) → Known (advance u f s k t)
    advance_known (Do b e1 e2 e3) =
        bind (fetch types.Integer (scalar f b)) _ (fetch_known types.Integer (scalar f b)) (λ x.
        bind (as_number x) _ (as_number_known x) (λ n. tested_known (record s { loops = set_loop k (record { count = (s.loops k).count - 1; step = (s.loops k).step }) s.loops })))
    advance_known _ = tt

  turn_known : (u : Routine) (s : Here) → Known (turn u f s)
  turn_known u s = go s.point
    where
      go : (p : Point) → Known (turn_at u f s p)
      go (At k) = perform_known u s k (statement u k)
      go (Inside k) = perform_known u s k (inner (statement u k))
      go (Test k) = tested_known u s k s
      go (Advance k) = advance_known u s k (statement u k)

  lower_known : (b : Option Term) → Known (lower_of f b)
  lower_known None = tt
  lower_known (Some e) = number_known e

  upper_known : (b : Option Term) → Known (upper_of f b)
  upper_known None = tt
  upper_known (Some e) = bind (number f e) (λ x. Done (Some x)) (number_known e) (λ x. tt)

  bounds_known : (bs : List Bound) → Known (bounds_of f bs)
  bounds_known [] = tt
  bounds_known (b ∷ bs) =
      bind (lower_of f b.lower) _ (lower_known b.lower) (λ x.
      bind (upper_of f b.upper) _ (upper_known b.upper) (λ y.
      bind (bounds_of f bs) _ (bounds_known bs) (λ ps. tt)))

  extents_known : (bs : List (ℤ × Option ℤ)) → Known (extents bs)
  extents_known [] = tt
  extents_known ((x, None) ∷ bs) = bind (extents bs) _ (extents_known bs) (λ r. tt)
  extents_known ((x, Some y) ∷ bs) = go (positive ((y -ℤ x) +ℤ pos 1)) (extents bs) (extents_known bs)
    where
      go : (o : Option ℕ) (a : Act (List (ℤ × Option ℕ))) → Known a → Known (elim o [ None ↦ Fail (Undefined 4) | Some n ↦ and_then a (λ rest. Done ((x, Some n) ∷ rest)) ])
      go None a h = four
      go (Some n) a h = bind a (λ rest. Done ((x, Some n) ∷ rest)) h (λ r. tt)

  filled_known : (star : ℕ) (es : List (ℤ × Option ℕ)) → Known (filled star es)
  filled_known star [] = tt
  filled_known star ((x, Some n) ∷ es) = bind (filled star es) _ (filled_known star es) (λ r. tt)
  filled_known star ((x, None) ∷ es) = go (nat_lt star 1) (filled star es) (filled_known star es)
    where
      go : (b : Bool) (a : Act (List Extent)) → Known a → Known (if b then Fail (Undefined 4) else and_then a (λ rest. Done (record { lower = x; size = star } ∷ rest)))
      go true a h = four
      go false a h = bind a (λ rest. Done (record { lower = x; size = star } ∷ rest)) h (λ r. tt)

  dimensions_known : (long : ℕ) (bs : List Bound) → Known (dimensions f long bs)
  dimensions_known long bs =
      bind (bounds_of f bs) _ (bounds_known bs) (λ pairs.
      bind (extents pairs) _ (extents_known pairs) (λ es.
      bind (filled (divide long (product es)) es) _ (filled_known (divide long (product es)) es) (λ shape. go shape (nat_lt long (total shape)))))
    where
      go : (shape : List Extent) (b : Bool) → Known (if b then Fail (Undefined 3) else Done shape)
      go shape true = three
      go shape false = tt

entry_known : (as_ : List DummyArray) (f : Frame) → Known (entry f as_)
entry_known [] f = tt
entry_known (a ∷ as_) f = bind (dimensions f (interval f (Dummy a.dummy) 0).length a.bounds) (λ es. entry (with_shape a.dummy es f) as_) (dimensions_known f (interval f (Dummy a.dummy) 0).length a.bounds) (λ es. entry_known as_ (with_shape a.dummy es f))

then_known : {A B : Type 0} → (o : Outcome A) (f : A → World → Outcome B) → Ending o → ((x : A) (v : World) → Ending (f x v)) → Ending (then_do o f)
then_known (Fine x v) f k g = g x v
then_known (Stop r v) f k g = k

module _ (h : Handler) (hs : (s : ℕ) (ds : List Interval) (w : World) → Ending (h s ds w)) where
  play_known : {A : Type 0} → (a : Act A) → Known a → (w : World) → Ending (play h a w)
  play_known (Done x) k w = tt
  play_known {A = A} (Get l g) k w = at_cell (w.cells l) (λ v. play_known (g v) (k v) w)
    where
      at_cell : (o : Option Held) → ((v : Held) → Ending (play h (g v) w)) → Ending (with_cell {A = A} o w (λ v. play h (g v) w))
      at_cell None ih = one
      at_cell (Some v) ih = ih v
  play_known (Put l v a) k w = play_known a k _
  play_known (Say bs a) k w = play_known a k _
  play_known {A = A} (Take g) k w = at_input w.input (λ x xs. play_known (g x) (k x) (record w { input = xs }))
    where
      at_input : (xs : List ℤ) → ((x : ℤ) (xs : List ℤ) → Ending (play h (g x) (record w { input = xs }))) → Ending (with_input {A = A} xs w (λ x w1. play h (g x) w1))
      at_input [] ih = inr refl
      at_input (x ∷ xs) ih = ih x xs
  play_known (Ask s ds g) k w = then_known (h s ds w) (λ r w1. play h (g r) w1) (hs s ds w) (λ r v. play_known (g r) (k r) v)
  play_known (Fail r) k w = k

  turns_known : {S : Type 0} → (t : S → Act (After S)) → ((s : S) → Known (t s)) → (n : ℕ) (s : S) (w : World) → Ending (turns h t n s w)
  turns_known t k zero s w = tt
  turns_known {S = S} t k (suc n) s w = at_tick w.left (turns_known t k n)
    where
      at_tick : (m : ℕ) → ((s : S) (w : World) → Ending (turns h t n s w)) → Ending (ticked m w (λ w1. then_do (play h (t s) w1) (λ a w2. follow a w2 (turns h t n))))
      at_tick zero ih = tt
      at_tick (suc m) ih = then_known (play h (t s) (record w { left = m })) (λ a w2. follow a w2 (turns h t n)) (play_known (t s) (k s) _) (elim [ Again s ↦ (λ v. ih s v) | Result r ↦ (λ v. tt) ])

meaning_known : (units : Program) (d : ℕ) (q : Name) (ds : List Interval) (w : World) → Ending (meaning units d q ds w)
meaning_known units zero q ds w = tt
meaning_known units (suc d) q ds w =
    then_known (play h (entry (entered u ds) u.dummy_arrays) (cleared u w)) (λ f w1. run_from h (turn u f) (beginning u) w1)
    (play_known h (λ s ds w. meaning_known units d (callee u s) ds w) (entry (entered u ds) u.dummy_arrays) (entry_known u.dummy_arrays (entered u ds)) (cleared u w))
    (λ f v. turns_known h (λ s ds w. meaning_known units d (callee u s) ds w) (turn u f) (turn_known f u) (suc v.left) (beginning u) v)
  where
    u : Routine
    u = units q

    h : Handler
    h = at_sites (units q) (meaning units d)

abbrev TheEnd : Run → Type 0
TheEnd (Finished status out) = IsStatus status
TheEnd (UndefinedAt step cause out) = IsCause cause
TheEnd _ = Unit {0}

answer_ends : (n : ℕ) (o : Outcome Answer) → Ending o → TheEnd (answer n o)
answer_ends n (Fine x v) k = tt
answer_ends n (Stop Spent v) k = tt
answer_ends n (Stop (Ended e) v) k = k
answer_ends n (Stop (Undefined c) v) k = k
answer_ends n (Stop Stuck v) k = tt

source_ends : (units : List SourceUnit) (input : List ℤ) (n : ℕ) → TheEnd (Source units input n)
source_ends units input n = go (main_of units)
  where
    go : (main : Option SourceUnit) → TheEnd (with_main (map routine units) main input n)
    go None = tt
    go (Some main) = answer_ends n _ (meaning_known (named (map routine units) (routine main)) (length (map routine units)) main.name [] (fresh_world (map routine units) input n))

pub ends_so : EndsWithStatus
ends_so units input n status out e = subst TheEnd e (source_ends units input n)

pub has_cause : HasACause
has_cause units input n step cause out e = subst TheEnd e (source_ends units input n)
