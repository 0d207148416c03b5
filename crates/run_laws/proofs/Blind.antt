-- What doesn't take from the input plays alike on every input: terms, entries and turns of a unit without READ.
use Rattle.std.proofs.Common.{◌≡◌, ℕ, zero, suc, ◌-◌, List, [], ◌∷◌, ◌++◌, Option, Some, None, Bool, true, false, ℤ, pos, ◌+ℤ◌, ◌-ℤ◌, if◌then◌else◌, nat_lt, refl, ap, ◌∙◌}
use Rattle.std.specs.Ordering.{int_eq}
use Rattle.run_model.specs.Storage.{Loc, Value, Interval, put_cell}
use Rattle.run_model.specs.Acts.{World, Reason, Undefined, Stuck, Outcome, Fine, Stop, then_do, Act, Done, Get, Put, Say, Take, Ask, Fail, and_then, ◌>>◌, Answer, Handler, play, with_cell}
use Rattle.run_model.specs.Turns.{After, Again, Result, ticked, follow, turns, run_from}
use Rattle.f77_tree.specs.declared.unit.Ty.{Ty}
use Rattle.f77_tree.specs.declared.unit.Ty.TheVariants as types
use Rattle.f77_tree.specs.declared.unit.Value as unit
use Rattle.f77_tree.specs.declared.unit.Value.TheVariants.{Integer, Logical}
use Rattle.f77_names.specs.declared.intrinsics.Intrinsic.{Intrinsic}
use Rattle.f77_names.specs.declared.intrinsics.Intrinsic.TheVariants.{Abs, Mod, Sign, Dim, Max, Min}
use Rattle.f77_values.specs.Arithmetic.{operate, divided, negated, kept, denied}
use Rattle.f77_values.specs.Tables.{Name}
use Rattle.f77_flow.specs.Graph.{Point, At, Inside, Test, Advance}
use Rattle.f77_semantics.specs.Values.{stored, seen, has_type, or_fail, lacking, remainder, intrinsic}
use Rattle.f77_semantics.specs.Program.{Term, Literal, Text, Variable, Element, Whole, Reference, Apply, Paren, Negative, Plus, Not, Binary, NoTerm, Terms, End, ◌and◌, Statement, Assign, If, LogicalIf, ArithmeticIf, GoTo, ComputedGoTo, Do, Continue, Call, Return, Print, Read, NoStatement, Bound, DummyArray, Routine}
use Rattle.f77_semantics.specs.declared.storage.Base.{Base}
use Rattle.f77_semantics.specs.declared.storage.Base.TheVariants.{Dummy}
use Rattle.f77_semantics.specs.declared.storage.Extent.{Extent}
use Rattle.f77_semantics.specs.declared.storage.Array.{Array}
use Rattle.f77_semantics.specs.Program as program
use Rattle.f77_semantics.specs.Expressions.{Frame, interval, at, shape, numbered, integers, element, sequence, scalar, resulting, fresh, fetch, store, value, values, actuals}
use Rattle.f77_semantics.specs.Statements.{Here, as_number, as_truth, number, condition, target, written, items, say_all, say_record, trips, set_loop, chosen, step_of, to, to_chosen, return, tested, perform, inner, advance, statement, turn_at, turn}
use Rattle.f77_semantics.specs.Units.{lower_of, upper_of, bounds_of, positive, extents, product, filled, total, divide, dimensions, with_shape, entry, entered, beginning, cleared, run_unit, at_sites, callee, Program, meaning}

-- acts that take nothing, whatever they read and are answered
abbrev Blind : {A : Type 0} → Act A → Type 0
Blind (Done a) = Unit {0}
Blind (Get l k) = (v : Value) → Blind (k v)
Blind (Put l v a) = Blind a
Blind (Say bs a) = Blind a
Blind (Take k) = ⊥
Blind (Ask s ds k) = (r : Answer) → Blind (k r)
Blind (Fail r) = Unit {0}

blind_then : {A B : Type 0} → (a : Act A) (f : A → Act B) → Blind a → ((x : A) → Blind (f x)) → Blind (and_then a f)
blind_then (Done x) f b g = g x
blind_then (Get l k) f b g = λ v. blind_then (k v) f (b v) g
blind_then (Put l v a) f b g = blind_then a f b g
blind_then (Say bs a) f b g = blind_then a f b g
blind_then (Take k) f b g = b
blind_then (Ask s ds k) f b g = λ r. blind_then (k r) f (b r) g
blind_then (Fail r) f b g = tt

-- ---- on another input

abbrev pub reading : List ℤ → World → World
reading input w = record w { input = input }

abbrev pub on : {A : Type 0} → List ℤ → Outcome A → Outcome A
on input (Fine x v) = Fine x (reading input v)
on input (Stop r v) = Stop r (reading input v)

then_on : {A B : Type 0} → (input : List ℤ) (o o' : Outcome A) (f : A → World → Outcome B) → o' ≡ on input o → ((x : A) (v : World) → f x (reading input v) ≡ on input (f x v)) → then_do o' f ≡ on input (then_do o f)
then_on input (Fine x v) o' f e g = ap (λ o. then_do o f) e ∙ g x v
then_on input (Stop r v) o' f e g = ap (λ o. then_do o f) e

module _ (input : List ℤ) (h : Handler) (same : (s : ℕ) (ds : List Interval) (w : World) → h s ds (reading input w) ≡ on input (h s ds w)) where
  play_on : {A : Type 0} → (a : Act A) (w : World) → Blind a → play h a (reading input w) ≡ on input (play h a w)
  play_on (Done x) w b = refl
  play_on {A = A} (Get l g) w b = at_cell (w.cells l) (λ v. play_on (g v) w (b v))
    where
      at_cell : (o : Option Value) → ((v : Value) → play h (g v) (reading input w) ≡ on input (play h (g v) w)) → with_cell {A = A} o (reading input w) (λ v. play h (g v) (reading input w)) ≡ on input (with_cell {A = A} o w (λ v. play h (g v) w))
      at_cell None ih = refl
      at_cell (Some v) ih = ih v
  play_on (Put l v a) w b = play_on a (record w { cells = put_cell l v w.cells }) b
  play_on (Say bs a) w b = play_on a (record w { out = w.out ++ bs }) b
  play_on (Take g) w b = absurd b
  play_on (Ask s ds g) w b = then_on input (h s ds w) (h s ds (reading input w)) (λ r w1. play h (g r) w1) (same s ds w) (λ r v. play_on (g r) v (b r))
  play_on (Fail r) w b = refl

  turns_on : {S : Type 0} → (t : S → Act (After S)) → ((s : S) → Blind (t s)) → (n : ℕ) (s : S) (w : World) → turns h t n s (reading input w) ≡ on input (turns h t n s w)
  turns_on t b zero s w = refl
  turns_on {S = S} t b (suc n) s w = at_tick w.left (turns_on t b n)
    where
      go : World → Outcome Answer
      go w1 = then_do (play h (t s) w1) (λ a v. follow a v (turns h t n))

      at_tick : (m : ℕ) → ((s : S) (w : World) → turns h t n s (reading input w) ≡ on input (turns h t n s w)) → ticked m (reading input w) go ≡ on input (ticked m w go)
      at_tick zero ih = refl
      at_tick (suc m) ih = then_on input (play h (t s) (record w { left = m })) (play h (t s) (reading input (record w { left = m }))) (λ a v. follow a v (turns h t n)) (play_on (t s) (record w { left = m }) (b s)) next
        where
          next : (a : After S) (v : World) → follow a (reading input v) (turns h t n) ≡ on input (follow a v (turns h t n))
          next (Again s) v = ih s v
          next (Result r) v = refl

-- ---- statements without READ

-- no READ itself
abbrev pub IsNoRead : Statement → Type 0
IsNoRead (Read ts) = ⊥
IsNoRead _ = Unit {0}

-- nor a logical IF with one
abbrev pub ReadsNot : Statement → Type 0
ReadsNot (LogicalIf e t) = IsNoRead t
ReadsNot t = IsNoRead t

pub alone : (t : Statement) → ReadsNot t → IsNoRead t
alone (LogicalIf e t) o = tt
alone (Read ts) o = o
alone t o = tt

within : (t : Statement) → ReadsNot t → IsNoRead (inner t)
within (LogicalIf e t) o = o
within t o = tt

-- ---- terms

or_fail_blind : {A : Type 0} → (r : Reason) (o : Option A) → Blind (or_fail r o)
or_fail_blind r None = tt
or_fail_blind r (Some x) = tt

fetch_blind : (ty : Ty) (l : Loc) → Blind (fetch ty l)
fetch_blind ty l = λ c. go (seen c) (has_type ty (seen c))
  where
    go : (v : unit.Value) (b : Bool) → Blind (if b then Done v else Fail (Undefined 1))
    go v true = tt
    go v false = tt

integers_blind : (vs : List unit.Value) → Blind (integers vs)
integers_blind [] = tt
integers_blind (Integer x ∷ vs) = blind_then (integers vs) (λ xs. Done (x ∷ xs)) (integers_blind vs) (λ xs. tt)
integers_blind (Logical b ∷ vs) = tt

element_blind : (f : Frame) (a : Array) (vs : List unit.Value) → Blind (element f a vs)
element_blind f a vs = blind_then (integers vs) (λ is. or_fail (Undefined 2) (numbered (shape f a.bounds) is)) (integers_blind vs) (λ is. or_fail_blind (Undefined 2) (numbered (shape f a.bounds) is))

resulting_blind : (r : Answer) → Blind (resulting r)
resulting_blind None = tt
resulting_blind (Some c) = tt

intrinsic_blind : (i : Intrinsic) (xs : List ℤ) → Blind (intrinsic i xs)
intrinsic_blind Abs (x ∷ []) = tt
intrinsic_blind Mod (x ∷ y ∷ []) = or_fail_blind (Undefined 5) (remainder x y (divided x y))
intrinsic_blind Sign (x ∷ y ∷ []) = tt
intrinsic_blind Dim (x ∷ y ∷ []) = tt
intrinsic_blind Max (x ∷ xs) = tt
intrinsic_blind Min (x ∷ xs) = tt
intrinsic_blind i xs = tt

module _ (f : Frame) where
  -- an actual that is evaluated into a fresh cell
  fresh_blind : (s j : ℕ) (a : Act unit.Value) (b : Act (List Interval)) → Blind a → Blind b → Blind (and_then a (λ x. and_then (store (at (fresh f s j) 0) x) (λ _. and_then b (λ ds. Done (fresh f s j ∷ ds)))))
  fresh_blind s j a b p q = blind_then a (λ x. Put (at (fresh f s j) 0) (stored x) (and_then b (λ ds. Done (fresh f s j ∷ ds)))) p (λ x. blind_then b (λ ds. Done (fresh f s j ∷ ds)) q (λ ds. tt))

  mutual
    value_blind : (e : Term) → Blind (value f e)
    value_blind (Literal v) = tt
    value_blind (Text bs) = tt
    value_blind (Variable ty b) = fetch_blind ty (scalar f b)
    value_blind (Element ty a es) =
        blind_then (values f es) _ (values_blind es) (λ vs.
        blind_then (element f a vs) _ (element_blind f a vs) (λ k. fetch_blind ty (at (sequence f a) k)))
    value_blind (Whole a) = tt
    value_blind (Reference s es) = blind_then (actuals f s 0 es) _ (actuals_blind s 0 es) (λ ds r. resulting_blind r)
    value_blind (Apply i es) =
        blind_then (values f es) _ (values_blind es) (λ vs.
        blind_then (integers vs) _ (integers_blind vs) (λ xs.
        blind_then (intrinsic i xs) _ (intrinsic_blind i xs) (λ x. tt)))
    value_blind (Paren e) = value_blind e
    value_blind (Plus e) = blind_then (value f e) _ (value_blind e) (λ x. or_fail_blind Stuck (kept x))
    value_blind (Negative e) = blind_then (value f e) _ (value_blind e) (λ x. or_fail_blind Stuck (negated x))
    value_blind (Not e) = blind_then (value f e) _ (value_blind e) (λ x. or_fail_blind Stuck (denied x))
    value_blind (Binary op a b) =
        blind_then (value f a) _ (value_blind a) (λ x.
        blind_then (value f b) _ (value_blind b) (λ y. or_fail_blind (lacking op x y) (operate op x y)))
    value_blind NoTerm = tt

    values_blind : (es : Terms) → Blind (values f es)
    values_blind End = tt
    values_blind (e and es) = blind_then (value f e) _ (value_blind e) (λ x. blind_then (values f es) _ (values_blind es) (λ xs. tt))

    actuals_blind : (s j : ℕ) (es : Terms) → Blind (actuals f s j es)
    actuals_blind s j End = tt
    actuals_blind s j (Variable ty b and es) = blind_then (actuals f s (suc j) es) _ (actuals_blind s (suc j) es) (λ ds. tt)
    actuals_blind s j (Whole a and es) = blind_then (actuals f s (suc j) es) _ (actuals_blind s (suc j) es) (λ ds. tt)
    actuals_blind s j (Element ty a is and es) =
        blind_then (values f is) _ (values_blind is) (λ vs.
        blind_then (element f a vs) _ (element_blind f a vs) (λ k.
        blind_then (actuals f s (suc j) es) _ (actuals_blind s (suc j) es) (λ ds. tt)))
    actuals_blind s j (e and es) = fresh_blind s j (value f e) (actuals f s (suc j) es) (value_blind e) (actuals_blind s (suc j) es)

  -- ---- statements

  as_number_blind : (v : unit.Value) → Blind (as_number v)
  as_number_blind (Integer x) = tt
  as_number_blind (Logical b) = tt

  as_truth_blind : (v : unit.Value) → Blind (as_truth v)
  as_truth_blind (Integer x) = tt
  as_truth_blind (Logical b) = tt

  number_blind : (e : Term) → Blind (number f e)
  number_blind e = blind_then (value f e) _ (value_blind e) as_number_blind

  condition_blind : (e : Term) → Blind (condition f e)
  condition_blind e = blind_then (value f e) _ (value_blind e) as_truth_blind

  target_blind : (t : Term) → Blind (target f t)
  target_blind (Variable ty b) = tt
  target_blind (Element ty a es) =
      blind_then (values f es) _ (values_blind es) (λ vs.
      blind_then (element f a vs) _ (element_blind f a vs) (λ k. tt))
  target_blind t = tt

  items_blind : (es : Terms) → Blind (items f es)
  items_blind End = tt
  items_blind (Text bs and es) = blind_then (items f es) _ (items_blind es) (λ ps. tt)
  items_blind (e and es) = item_blind (value f e) (value_blind e) (items f es) (items_blind es)
    where
      item_blind : (a : Act unit.Value) → Blind a → (b : Act (List (List ℕ))) → Blind b → Blind (and_then a (λ x. and_then b (λ ps. Done ((32 ∷ []) ∷ written x ∷ ps))))
      item_blind a p b q = blind_then a (λ x. and_then b (λ ps. Done ((32 ∷ []) ∷ written x ∷ ps))) p (λ x. blind_then b (λ ps. Done ((32 ∷ []) ∷ written x ∷ ps)) q (λ ps. tt))

  say_blind : (ps : List (List ℕ)) → Blind (say_all ps)
  say_blind [] = tt
  say_blind (p ∷ ps) = say_blind ps

  record_blind : (ps : List (List ℕ)) → Blind (say_record ps)
  record_blind [] = tt
  record_blind (p ∷ ps) = say_blind (p ∷ ps)

  step_blind : (e : Option Term) → Blind (step_of f e)
  step_blind None = tt
  step_blind (Some e) = number_blind e

  return_blind : (r : Option (Ty × Base)) → Blind (return f r)
  return_blind None = tt
  return_blind (Some r) = blind_then (fetch r.0 (scalar f r.1)) _ (fetch_blind r.0 (scalar f r.1)) (λ v. tt)

  module _ (u : Routine) where
    tested_blind : (k : ℕ) (s : Here) → Blind (tested u k s)
    tested_blind k s = go (s.loops k).count
      where
        go : (n : ℕ) → Blind (elim n [ zero ↦ to (u.leaving k) s | suc n ↦ to (At (u.below k)) s ])
        go zero = tt
        go (suc n) = tt

    chosen_blind : (o : Option ℕ) (p : Point) (s : Here) → Blind (to_chosen o p s)
    chosen_blind None p s = tt
    chosen_blind (Some l) p s = tt

    perform_blind : (s : Here) (k : ℕ) (t : Statement) → IsNoRead t → Blind (perform u f s k t)
    perform_blind s k (Assign t e) o = blind_then (target f t) _ (target_blind t) (λ l. blind_then (value f e) _ (value_blind e) (λ x. tt))
    perform_blind s k (If e w) o = blind_then (condition f e) _ (condition_blind e) (λ c. tt)
    perform_blind s k (LogicalIf e t) o = blind_then (condition f e) _ (condition_blind e) (λ c. tt)
    perform_blind s k (ArithmeticIf e a b c) o = blind_then (number f e) _ (number_blind e) (λ x. tt)
    perform_blind s k (GoTo l) o = tt
    perform_blind s k (ComputedGoTo ls e) o = blind_then (number f e) _ (number_blind e) (λ x. chosen_blind (chosen ls x) (u.after k) s)
    perform_blind s k (Do b e1 e2 e3) o =
        blind_then (number f e1) _ (number_blind e1) (λ m1.
        blind_then (number f e2) _ (number_blind e2) (λ m2.
        blind_then (step_of f e3) _ (step_blind e3) (λ m3. go m1 m2 m3 (int_eq m3 (pos 0)))))
      where
        go : (m1 m2 m3 : ℤ) (z : Bool) → Blind {A = After Here} (if z then Fail (Undefined 6) else (store (scalar f b) (Integer m1) >> Done (Again (record { point = Test k; loops = set_loop k (record { count = trips m1 m2 m3; step = m3 }) s.loops }))))
        go m1 m2 m3 true = tt
        go m1 m2 m3 false = tt
    perform_blind s k Continue o = tt
    perform_blind s k (Call site es) o = blind_then (actuals f site 0 es) _ (actuals_blind site 0 es) (λ ds r. tt)
    perform_blind s k Return o = return_blind u.result
    perform_blind s k program.Stop o = tt
    perform_blind s k (Print es) o = blind_then (items f es) _ (items_blind es) (λ ps. blind_then (say_record ps) _ (record_blind ps) (λ x. tt))
    perform_blind s k (Read ts) o = absurd o
    perform_blind s k NoStatement o = tt

    advance_blind : (s : Here) (k : ℕ) (t : Statement) → Blind (advance u f s k t)
    advance_blind s k (Do b e1 e2 e3) =
        blind_then (fetch types.Integer (scalar f b)) _ (fetch_blind types.Integer (scalar f b)) (λ x.
        blind_then (as_number x) _ (as_number_blind x) (λ n. tested_blind k (record s { loops = set_loop k (record { count = (s.loops k).count - 1; step = (s.loops k).step }) s.loops })))
    advance_blind s k t = tt

    turn_blind : ((k : ℕ) → ReadsNot (statement u k)) → (s : Here) → Blind (turn u f s)
    turn_blind each s = go s.point
      where
        go : (p : Point) → Blind (turn_at u f s p)
        go (At k) = perform_blind s k (statement u k) (alone (statement u k) (each k))
        go (Inside k) = perform_blind s k (inner (statement u k)) (within (statement u k) (each k))
        go (Test k) = tested_blind k s
        go (Advance k) = advance_blind s k (statement u k)

  -- ---- entries

  lower_blind : (b : Option Term) → Blind (lower_of f b)
  lower_blind None = tt
  lower_blind (Some e) = number_blind e

  upper_blind : (b : Option Term) → Blind (upper_of f b)
  upper_blind None = tt
  upper_blind (Some e) = blind_then (number f e) _ (number_blind e) (λ x. tt)

  bounds_blind : (bs : List Bound) → Blind (bounds_of f bs)
  bounds_blind [] = tt
  bounds_blind (b ∷ bs) =
      blind_then (lower_of f b.lower) _ (lower_blind b.lower) (λ x.
      blind_then (upper_of f b.upper) _ (upper_blind b.upper) (λ y.
      blind_then (bounds_of f bs) _ (bounds_blind bs) (λ rest. tt)))

extents_blind : (bs : List (ℤ × Option ℤ)) → Blind (extents bs)
extents_blind [] = tt
extents_blind ((x, None) ∷ bs) = blind_then (extents bs) _ (extents_blind bs) (λ rest. tt)
extents_blind ((x, Some y) ∷ bs) = go (positive ((y -ℤ x) +ℤ pos 1)) (extents bs) (extents_blind bs)
  where
    go : (o : Option ℕ) (a : Act (List (ℤ × Option ℕ))) → Blind a → Blind (elim o [ None ↦ Fail (Undefined 4) | Some n ↦ and_then a (λ rest. Done ((x, Some n) ∷ rest)) ])
    go None a b = tt
    go (Some n) a b = blind_then a (λ rest. Done ((x, Some n) ∷ rest)) b (λ rest. tt)

filled_blind : (star : ℕ) (es : List (ℤ × Option ℕ)) → Blind (filled star es)
filled_blind star [] = tt
filled_blind star ((x, Some n) ∷ es) = blind_then (filled star es) _ (filled_blind star es) (λ rest. tt)
filled_blind star ((x, None) ∷ es) = go (nat_lt star 1) (filled star es) (filled_blind star es)
  where
    go : (z : Bool) (a : Act (List Extent)) → Blind a → Blind (if z then Fail (Undefined 4) else and_then a (λ rest. Done (record { lower = x; size = star } ∷ rest)))
    go true a b = tt
    go false a b = blind_then a (λ rest. Done (record { lower = x; size = star } ∷ rest)) b (λ rest. tt)

dimensions_blind : (f : Frame) (long : ℕ) (bs : List Bound) → Blind (dimensions f long bs)
dimensions_blind f long bs =
    blind_then (bounds_of f bs) _ (bounds_blind f bs) (λ pairs.
    blind_then (extents pairs) _ (extents_blind pairs) (λ es.
    blind_then (filled (divide long (product es)) es) _ (filled_blind (divide long (product es)) es) (λ shape. go shape (nat_lt long (total shape)))))
  where
    go : (shape : List Extent) (z : Bool) → Blind (if z then Fail (Undefined 3) else Done shape)
    go shape true = tt
    go shape false = tt

entry_blind : (as_ : List DummyArray) (f : Frame) → Blind (entry f as_)
entry_blind [] f = tt
entry_blind (a ∷ as_) f =
    blind_then (dimensions f (interval f (Dummy a.dummy) 0).length a.bounds) _ (dimensions_blind f (interval f (Dummy a.dummy) 0).length a.bounds) (λ es. entry_blind as_ (with_shape a.dummy es f))

-- ---- units and programs

unit_on : (input : List ℤ) (h : Handler) → ((s : ℕ) (ds : List Interval) (w : World) → h s ds (reading input w) ≡ on input (h s ds w)) → (u : Routine) → ((k : ℕ) → ReadsNot (statement u k)) → (ds : List Interval) (w : World) → run_unit h u ds (reading input w) ≡ on input (run_unit h u ds w)
unit_on input h same u each ds w = then_on input (play h (entry (entered u ds) u.dummy_arrays) (cleared u w)) (play h (entry (entered u ds) u.dummy_arrays) (reading input (cleared u w))) (λ f w1. run_from h (turn u f) (beginning u) w1)
    (play_on input h same (entry (entered u ds) u.dummy_arrays) (cleared u w) (entry_blind u.dummy_arrays (entered u ds)))
    (λ f v. turns_on input h same (turn u f) (turn_blind f u each) (suc v.left) (beginning u) v)

pub meaning_on : (input : List ℤ) (units : Program) → ((q : Name) (k : ℕ) → ReadsNot (statement (units q) k)) → (d : ℕ) (q : Name) (ds : List Interval) (w : World) → meaning units d q ds (reading input w) ≡ on input (meaning units d q ds w)
meaning_on input units each zero q ds w = refl
meaning_on input units each (suc d) q ds w = unit_on input (at_sites (units q) (meaning units d)) (λ s ds w. meaning_on input units each d (callee (units q) s) ds w) (units q) (each q) ds w
