-- Statements and entries of a unit read, write and call what its text says, and are never stuck.
use Rattle.std.proofs.Common.{◌≡◌, ℕ, zero, suc, ◌+◌, ◌-◌, ◌<◌, ◌≤◌, List, [], ◌∷◌, Option, Some, None, Bool, true, false, cond, nat_eq, nat_lt, if◌then◌else◌, ℤ, pos, negsuc, ◌+ℤ◌, ◌-ℤ◌, inl, refl, sym, ap, ◌∙◌, subst, arith, slice_get, get_or, eqb-true}
use Rattle.std.proofs.lemmas.Bool.Decides.{nat_tests}
use Rattle.std.specs.Ordering.{int_eq}
use Rattle.run_model.specs.Storage.{Interval}
use Rattle.run_model.specs.Acts.{Undefined, Act, Done, Fail, and_then, ◌>>◌}
use Rattle.run_model.specs.Turns.{After, Again, Result}
use Rattle.f77_tree.specs.declared.unit.Ty.{Ty}
use Rattle.f77_tree.specs.declared.unit.Ty.TheVariants as types
use Rattle.f77_tree.specs.declared.unit.Value.{Value}
use Rattle.f77_tree.specs.declared.unit.Value.TheVariants.{Integer, Logical}
use Rattle.f77_flow.specs.Graph.{Point, At, Inside, Test, Advance}
use Rattle.f77_semantics.specs.Values.{stored, seen, has_type}
use Rattle.f77_semantics.specs.Program.{Base, Dummy, Extent, Term, Text, Variable, Element, Terms, End, ◌and◌, Statement, Assign, If, LogicalIf, ArithmeticIf, GoTo, ComputedGoTo, Do, Continue, Call, Return, Stop, Print, Read, NoStatement, Bound, DummyArray, Routine}
use Rattle.f77_semantics.specs.Expressions.{Frame, interval, only_first, scalar, sequence, element, fetch, store, value, values, actuals}
use Rattle.f77_semantics.specs.Statements.{Here, as_number, as_truth, number, condition, target, items, say_all, say_record, read_all, by_sign, chosen, step_of, to, to_chosen, return, tested, perform, inner, advance, statement, turn_at, turn, written, trips, set_loop}
use Rattle.f77_semantics.specs.Units.{total, is_array, associated, entered, lower_of, upper_of, bounds_of, positive, extents, product, filled, divide, dimensions, with_shape, entry}
use Rattle.f77_semantics.specs.Effects.{Effects, AreActuals, Answers, TermOk, TargetOk, TargetsOk, ItemsOk, StepOk, IsDo, IsLogicalIf, IsStatement, PointOk, ResultOk, type_of_result, StatementOk, InnerOk, BoundsOk, EntryOk, UnitOk}
use Rattle.f77_semantics.proofs.Terms as terms
use Rattle.f77_semantics.proofs.Terms.{FrameOk, seq_covered}

seen_stored : (v : Value) → seen (stored v) ≡ v
seen_stored (Integer x) = refl
seen_stored (Logical b) = refl

abbrev pub AfterOk : Routine → Effects → After Here → Type 0
AfterOk u S (Again s) = PointOk u s.point
AfterOk u S (Result r) = (S.returns ≡ true) × Answers (type_of_result u.result) r

module _ (S : Effects) (f : Frame) (fo : FrameOk S f) where
  abbrev pub Held : {A : Type 0} → (A → Type 0) → Act A → Type 0
  Held Q a = terms.Held S f fo Q a

  abbrev and_held : {A B : Type 0} → (P : A → Type 0) (Q : B → Type 0) (a : Act A) (g : A → Act B) → Held P a → ((x : A) → P x → Held Q (g x)) → Held Q (and_then a g)
  and_held P Q a g h k = terms.and_held S f fo P Q a g h k

  abbrev Typed : Ty → Value → Type 0
  Typed ty v = has_type ty v ≡ true

  abbrev Any : {A : Type 0} → A → Type 0
  Any x = Unit {0}

  as_number_held : (v : Value) → Typed types.Integer v → Held Any (as_number v)
  as_number_held (Integer x) t = tt
  as_number_held (Logical b) t = cc

  as_truth_held : (v : Value) → Typed types.Logical v → Held Any (as_truth v)
  as_truth_held (Logical b) t = tt
  as_truth_held (Integer x) t = cc

  pub number_held : (e : Term) → TermOk S types.Integer e → Held Any (number f e)
  number_held e o = and_held (Typed types.Integer) Any (value f e) _ (terms.value_held S f fo e types.Integer o) as_number_held

  condition_held : (e : Term) → TermOk S types.Logical e → Held Any (condition f e)
  condition_held e o = and_held (Typed types.Logical) Any (value f e) _ (terms.value_held S f fo e types.Logical o) as_truth_held

  target_held : (t : Term) → TargetOk S t → Held (terms.Writes S f fo) (target f t)
  target_held (Variable ty b) o = inl (terms.scalar_covered S f fo S.assigned b o.0 o.1)
  target_held (Element ty a es) o =
      and_held (terms.ValuesOf S f fo es) (terms.Writes S f fo) (values f es) _ (terms.values_held S f fo es o.2) (λ vs p.
      and_held (λ k. k < (sequence f a).length) (terms.Writes S f fo) (element f a vs) _ (terms.element_held S f fo a es vs o.0 p) (λ k lt.
      inl (seq_covered S.assigned f a.base a.length k o.1 lt)))
  target_held t o = absurd o

  items_held : (es : Terms) → ItemsOk S es → Held Any (items f es)
  items_held End o = tt
  items_held (Text bs and es) o = and_held Any Any (items f es) _ (items_held es o) (λ ps p. tt)
  items_held (e and es) o = item_held (value f e) (Typed o.0.0) (terms.value_held S f fo e o.0.0 o.0.1) (items f es) (items_held es o.1)
    where
      item_held : (a : Act Value) (P : Value → Type 0) → Held P a → (b : Act (List (List ℕ))) → Held Any b → Held Any (and_then a (λ x. and_then b (λ ps. Done ((32 ∷ []) ∷ written x ∷ ps))))
      item_held a P h b k = and_held P Any a (λ x. and_then b (λ ps. Done ((32 ∷ []) ∷ written x ∷ ps))) h (λ x p. and_held Any Any b (λ ps. Done ((32 ∷ []) ∷ written x ∷ ps)) k (λ ps q. tt))

  say_held : (ps : List (List ℕ)) → Held Any (say_all ps)
  say_held [] = tt
  say_held (p ∷ ps) = say_held ps

  record_held : (ps : List (List ℕ)) → Held Any (say_record ps)
  record_held [] = tt
  record_held (p ∷ ps) = say_held (p ∷ ps)

  read_held : (ts : Terms) → TargetsOk S ts → Held Any (read_all f ts)
  read_held End o = tt
  read_held (t and ts) o = and_held (terms.Writes S f fo) Any (target f t) _ (target_held t o.0) (λ l p x. (p, read_held ts o.1))

  step_held : (e : Option Term) → StepOk S e → Held Any (step_of f e)
  step_held None o = tt
  step_held (Some e) o = number_held e o

  module _ (u : Routine) (uo : UnitOk u S) where
    abbrev Ok : After Here → Type 0
    Ok = AfterOk u S

    return_held : S.returns ≡ true → (r : Option (Ty × Base)) → u.result ≡ r → ResultOk S r → Held Ok (return f r)
    return_held m None e o = (m, subst (λ r. Answers (type_of_result r) None) (sym e) tt)
    return_held m (Some r) e o = and_held (Typed r.0) Ok (fetch r.0 (scalar f r.1)) _ (terms.fetch_held S f fo r.0 (scalar f r.1) (terms.scalar_covered S f fo S.used r.1 o.0 o.1)) (λ v p. (m, subst (λ r. Answers (type_of_result r) (Some (stored v))) (sym e) (subst (λ x. has_type r.0 x ≡ true) (sym (seen_stored v)) p)))

    tested_held : (k : ℕ) (s : Here) → PointOk u (At (u.below k)) → PointOk u (u.leaving k) → Held Ok (tested u k s)
    tested_held k s a l = go (s.loops k).count
      where
        go : (n : ℕ) → Held Ok (elim n [ zero ↦ to (u.leaving k) s | suc n ↦ to (At (u.below k)) s ])
        go zero = l
        go (suc n) = a

    perform_held : (s : Here) (k : ℕ) (t : Statement) → StatementOk u S k t → IsStatement t → Held Ok (perform u f s k t)
    perform_held s k (Assign t e) o i =
        and_held (terms.Writes S f fo) Ok (target f t) _ (target_held t o.0) (λ l p.
        and_held (Typed o.1.0) Ok (value f e) _ (terms.value_held S f fo e o.1.0 o.1.1) (λ x q. (p, o.2)))
    perform_held s k (If e w) o i = and_held Any Ok (condition f e) _ (condition_held e o.0) (elim [ true ↦ (λ q. o.1) | false ↦ (λ q. o.2) ])
    perform_held s k (LogicalIf e t) o i = and_held Any Ok (condition f e) _ (condition_held e o.0) (elim [ true ↦ (λ q. o.2) | false ↦ (λ q. o.1) ])
    perform_held s k (ArithmeticIf e a b c) o i = and_held Any Ok (number f e) _ (number_held e o.0) (λ x q. go x)
      where
        go : (x : ℤ) → PointOk u (At (by_sign x a b c))
        go (negsuc n) = o.1
        go (pos zero) = o.2
        go (pos (suc n)) = o.3
    perform_held s k (GoTo l) o i = o
    perform_held s k (ComputedGoTo ls e) o i = and_held Any Ok (number f e) _ (number_held e o.0) (λ x q. go x)
      where
        here : (j : Option ℕ) → ((l : ℕ) → j ≡ Some l → PointOk u (At l)) → Held Ok (to_chosen j (u.after k) s)
        here None g = o.1
        here (Some l) g = g l refl

        go : (x : ℤ) → Held Ok (to_chosen (chosen ls x) (u.after k) s)
        go (negsuc n) = o.1
        go (pos zero) = o.1
        go (pos (suc n)) = here (slice_get ls n) (o.2 n)
    perform_held s k (Do b e1 e2 e3) o i =
        and_held Any Ok (number f e1) _ (number_held e1 o.3) (λ m1 p1.
        and_held Any Ok (number f e2) _ (number_held e2 o.4) (λ m2 p2.
        and_held Any Ok (step_of f e3) _ (step_held e3 o.5) (λ m3 p3. go m1 m2 m3 (int_eq m3 (pos 0)))))
      where
        go : (m1 m2 m3 : ℤ) (z : Bool) → Held Ok (if z then Fail (Undefined 6) else (store (scalar f b) (Integer m1) >> Done (Again (record { point = Test k; loops = set_loop k (record { count = trips m1 m2 m3; step = m3 }) s.loops }))))
        go m1 m2 m3 true = tt
        go m1 m2 m3 false = (inl (terms.scalar_covered S f fo S.assigned b o.0 o.1), o.6)
    perform_held s k Continue o i = o
    perform_held s k (Call site es) o i =
        and_held (λ ds. AreActuals f site 0 es ds) Ok (actuals f site 0 es) _ (terms.actuals_held S f fo es site 0 o.2) (λ ds p.
        ((o.0, subst (λ es. AreActuals f site 0 es ds) (sym o.1) p), λ r a. o.3))
    perform_held s k Return o i = return_held o.0 u.result refl o.1
    perform_held s k Stop o i = tt
    perform_held s k (Print es) o i = and_held Any Ok (items f es) _ (items_held es o.0) (λ ps p. and_held Any Ok (say_record ps) _ (record_held ps) (λ x q. o.1))
    perform_held s k (Read ts) o i = and_held Any Ok (read_all f ts) _ (read_held ts o.0) (λ x q. o.1)
    perform_held s k NoStatement o i = i

    inner_held : (s : Here) (k : ℕ) (t : Statement) → InnerOk u S k t → IsLogicalIf t → Held Ok (perform u f s k (inner t))
    inner_held s k (LogicalIf e t) o i = perform_held s k t o.0 o.1
    inner_held s k t o i = absurd i

    test_held : (s : Here) (k : ℕ) (t : Statement) → StatementOk u S k t → IsDo t → Held Ok (tested u k s)
    test_held s k (Do b e1 e2 e3) o i = tested_held k s o.7 o.8
    test_held s k t o i = absurd i

    advance_held : (s : Here) (k : ℕ) (t : Statement) → StatementOk u S k t → IsDo t → Held Ok (advance u f s k t)
    advance_held s k (Do b e1 e2 e3) o i =
        and_held (Typed types.Integer) Ok (fetch types.Integer (scalar f b)) _ (terms.fetch_held S f fo types.Integer (scalar f b) (terms.scalar_covered S f fo S.used b o.0 o.2)) (λ x p.
        and_held Any Ok (as_number x) _ (as_number_held x p) (λ n q. (inl (terms.scalar_covered S f fo S.assigned b o.0 o.1), tested_held k (record s { loops = set_loop k (record { count = (s.loops k).count - 1; step = (s.loops k).step }) s.loops }) o.7 o.8)))
    advance_held s k t o i = absurd i

    pub turn_held : (s : Here) → PointOk u s.point → Held Ok (turn u f s)
    turn_held s o = go s.point o
      where
        go : (p : Point) → PointOk u p → Held Ok (turn_at u f s p)
        go (At k) o = perform_held s k (statement u k) (uo.each k) o
        go (Inside k) o = inner_held s k (statement u k) (uo.inner k) o
        go (Test k) o = test_held s k (statement u k) (uo.each k) o
        go (Advance k) o = advance_held s k (statement u k) (uo.each k) o

  -- the entry of a unit
  lower_held : (b : Option Term) → StepOk S b → Held Any (lower_of f b)
  lower_held None o = tt
  lower_held (Some e) o = number_held e o

  upper_held : (b : Option Term) → StepOk S b → Held Any (upper_of f b)
  upper_held None o = tt
  upper_held (Some e) o = and_held Any Any (number f e) _ (number_held e o) (λ x p. tt)

  bounds_held : (bs : List Bound) → BoundsOk S bs → Held Any (bounds_of f bs)
  bounds_held [] o = tt
  bounds_held (b ∷ bs) o =
      and_held Any Any (lower_of f b.lower) _ (lower_held b.lower o.0.0) (λ x p.
      and_held Any Any (upper_of f b.upper) _ (upper_held b.upper o.0.1) (λ y q.
      and_held Any Any (bounds_of f bs) _ (bounds_held bs o.1) (λ ps r. tt)))

  extents_held : (bs : List (ℤ × Option ℤ)) → Held Any (extents bs)
  extents_held [] = tt
  extents_held ((x, None) ∷ bs) = and_held Any Any (extents bs) _ (extents_held bs) (λ r p. tt)
  extents_held ((x, Some y) ∷ bs) = go (positive ((y -ℤ x) +ℤ pos 1)) (extents bs) (extents_held bs)
    where
      go : (o : Option ℕ) (a : Act (List (ℤ × Option ℕ))) → Held Any a → Held Any (elim o [ None ↦ Fail (Undefined 4) | Some n ↦ and_then a (λ rest. Done ((x, Some n) ∷ rest)) ])
      go None a h = tt
      go (Some n) a h = and_held Any Any a (λ rest. Done ((x, Some n) ∷ rest)) h (λ r p. tt)

  filled_held : (star : ℕ) (es : List (ℤ × Option ℕ)) → Held Any (filled star es)
  filled_held star [] = tt
  filled_held star ((x, Some n) ∷ es) = and_held Any Any (filled star es) _ (filled_held star es) (λ r p. tt)
  filled_held star ((x, None) ∷ es) = go (nat_lt star 1) (filled star es) (filled_held star es)
    where
      go : (b : Bool) (a : Act (List Extent)) → Held Any a → Held Any (if b then Fail (Undefined 4) else and_then a (λ rest. Done (record { lower = x; size = star } ∷ rest)))
      go true a h = tt
      go false a h = and_held Any Any a (λ rest. Done (record { lower = x; size = star } ∷ rest)) h (λ r p. tt)

  pub dimensions_held : (long : ℕ) (bs : List Bound) → BoundsOk S bs → Held (λ es. total es ≤ long) (dimensions f long bs)
  dimensions_held long bs o =
      and_held Any Short (bounds_of f bs) _ (bounds_held bs o) (λ pairs p.
      and_held Any Short (extents pairs) _ (extents_held pairs) (λ es q.
      and_held Any Short (filled (divide long (product es)) es) _ (filled_held (divide long (product es)) es) (λ shape r. go shape (nat_lt long (total shape)) refl)))
    where
      Short : List Extent → Type 0
      Short es = total es ≤ long

      go : (shape : List Extent) (b : Bool) → nat_lt long (total shape) ≡ b → Held (λ es. total es ≤ long) (if b then Fail (Undefined 3) else Done shape)
      go shape true e = tt
      go shape false e = grind (arith, nat_tests)

-- the frame that an entry makes: the same actuals, and the bounds of its arrays
abbrev pub Entered : Effects → Frame → Frame → Type 0
Entered S f g = FrameOk S g × (g.unit ≡ f.unit) × (g.actuals ≡ f.actuals)

with_ok : (S : Effects) (f : Frame) (k : ℕ) (es : List Extent) → FrameOk S f → total es ≤ (interval f (Dummy k) 0).length → FrameOk S (with_shape k es f)
with_ok S f k es fo le = record { scalars = fo.scalars; shapes = λ j a. go j a (nat_eq k j) refl }
  where
    go : (j : ℕ) → is_array S.arrays j ≡ true → (b : Bool) → nat_eq k j ≡ b → total (cond b es (f.shapes j)) ≤ (interval f (Dummy j) 1).length
    go j a true e = subst (λ j. total es ≤ (interval f (Dummy j) 1).length) (eqb-true k j e) le
    go j a false e = fo.shapes j a

pub entry_held : (S : Effects) (as_ : List DummyArray) (f : Frame) (fo : FrameOk S f) → EntryOk S as_ → Held S f fo (Entered S f) (entry f as_)
entry_held S [] f fo o = (fo, refl, refl)
entry_held S (a ∷ as_) f fo o =
    terms.and_held S f fo (λ es. total es ≤ (interval f (Dummy a.dummy) 0).length) (Entered S f) (dimensions f (interval f (Dummy a.dummy) 0).length a.bounds) _ (dimensions_held S f fo (interval f (Dummy a.dummy) 0).length a.bounds o.0)
    (λ es le. entry_held S as_ (with_shape a.dummy es f) (with_ok S f a.dummy es fo le) o.1)

-- dummies that are no arrays are one location
one_location : (as_ : List DummyArray) (j : ℕ) (ds : List Interval) (other : Interval) → other.length ≡ 1 → (k : ℕ) → is_array as_ (j + k) ≡ false → (get_or (associated as_ j ds) k other).length ≡ 1
one_location as_ j [] other e k a = e
one_location as_ j (d ∷ ds) other e zero a = let z : j + 0 ≡ j = omega arith in go (is_array as_ j) (sym (ap (is_array as_) z) ∙ a)
  where
    go : (b : Bool) → b ≡ false → (if b then d else only_first d).length ≡ 1
    go true e = cc
    go false e = refl
one_location as_ j (d ∷ ds) other e (suc k) a = let z : j + suc k ≡ suc j + k = omega arith in one_location as_ (suc j) ds other e k (sym (ap (is_array as_) z) ∙ a)

pub entered_ok : (u : Routine) (S : Effects) (ds : List Interval) → S.arrays ≡ u.dummy_arrays → FrameOk S (entered u ds)
entered_ok u S ds e = record {
  scalars = λ k a. let z : 0 + k ≡ k = omega arith in one_location u.dummy_arrays 0 ds _ refl k (ap (is_array u.dummy_arrays) z ∙ ap (λ as_. is_array as_ k) (sym e) ∙ a);
  shapes = λ k a. omega arith;
}
