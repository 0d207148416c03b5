-- Turns and entries read what agrees.
use Rattle.std.proofs.Common.{◌≡◌, ℕ, zero, suc, ◌-◌, List, [], ◌∷◌, Option, Some, None, Bool, true, false, ℤ, pos, ◌+ℤ◌, ◌-ℤ◌, refl, nat_lt, if◌then◌else◌}
use Rattle.std.specs.Ordering.{int_eq}
use Rattle.run_model.specs.Storage.{Interval}
use Rattle.run_model.specs.Acts.{Undefined, Act, Done, Fail, and_then, ◌>>◌}
use Rattle.run_model.specs.Turns.{After, Again}
use Rattle.f77_tree.specs.declared.unit.Ty.{Ty}
use Rattle.f77_tree.specs.declared.unit.Ty.TheVariants as types
use Rattle.f77_tree.specs.declared.unit.Value as unit
use Rattle.f77_tree.specs.declared.unit.Value.TheVariants.{Integer, Logical}
use Rattle.f77_flow.specs.Graph.{Point, At, Inside, Test, Advance}
use Rattle.f77_semantics.specs.Program.{Term, Text, Terms, End, ◌and◌, Statement, Assign, If, LogicalIf, ArithmeticIf, GoTo, ComputedGoTo, Do, Continue, Call, Return, Print, Read, NoStatement, Bound, DummyArray, Routine}
use Rattle.f77_semantics.specs.Program as program
use Rattle.f77_semantics.specs.declared.storage.Base.{Base}
use Rattle.f77_semantics.specs.declared.storage.Base.TheVariants.{Dummy}
use Rattle.f77_semantics.specs.declared.storage.Extent.{Extent}
use Rattle.f77_semantics.specs.Expressions.{Frame, interval, scalar, actuals, fetch, store, value}
use Rattle.f77_semantics.specs.Statements.{Here, as_number, number, condition, target, written, items, say_all, say_record, read_all, trips, set_loop, chosen, step_of, to, to_chosen, return, tested, perform, inner, advance, statement, turn_at, turn}
use Rattle.f77_semantics.specs.Units.{lower_of, upper_of, bounds_of, positive, extents, product, filled, total, divide, dimensions, with_shape, entry}
use Rattle.fresh_laws.specs.Fresh.{Locations}
use Rattle.fresh_laws.proofs.Sees.{HasEach, Sees, bind, Any, also, also_within}
use Rattle.fresh_laws.proofs.Terms.{Knows, fetch_sees, value_sees, actuals_see, number_sees, condition_sees, target_sees, scalar_is}

module _ (f : Frame) where
  item_sees : (P : Locations) → Knows f P → (a : Act unit.Value) → Sees Any P a → (b : Act (List (List ℕ))) → ((P' : Locations) → Knows f P' → Sees Any P' b) → Sees Any P (and_then a (λ x. and_then b (λ ps. Done ((32 ∷ []) ∷ written x ∷ ps))))
  item_sees P own a p b q = bind Any Any P a (λ x. and_then b (λ ps. Done ((32 ∷ []) ∷ written x ∷ ps))) p (λ P1 s1 x t. bind Any Any P1 b (λ ps. Done ((32 ∷ []) ∷ written x ∷ ps)) (q P1 (λ l e. s1 l (own l e))) (λ P2 s2 ps r. tt))

  items_see : (es : Terms) (P : Locations) → Knows f P → Sees Any P (items f es)
  items_see End P own = tt
  items_see (Text bs and es) P own = bind Any Any P (items f es) _ (items_see es P own) (λ P1 s1 ps q. tt)
  items_see (e and es) P own = item_sees P own (value f e) (value_sees f e P own) (items f es) (items_see es)

  say_sees : (P : Locations) (ps : List (List ℕ)) → Sees Any P (say_all ps)
  say_sees P [] = tt
  say_sees P (p ∷ ps) = say_sees P ps

  record_sees : (P : Locations) (ps : List (List ℕ)) → Sees Any P (say_record ps)
  record_sees P [] = tt
  record_sees P (p ∷ ps) = say_sees P (p ∷ ps)

  read_sees : (ts : Terms) (P : Locations) → Knows f P → Sees Any P (read_all f ts)
  read_sees End P own = tt
  read_sees (t and ts) P own = bind Any Any P (target f t) _ (target_sees f t P own) (λ P1 s1 l q x. read_sees ts (also l P1) (λ m e. also_within l P1 m (s1 m (own m e))))

  step_sees : (e : Option Term) (P : Locations) → Knows f P → Sees Any P (step_of f e)
  step_sees None P own = tt
  step_sees (Some e) P own = number_sees f e P own

  return_sees : (r : Option (Ty × Base)) (P : Locations) → Knows f P → Sees Any P (return f r)
  return_sees None P own = tt
  return_sees (Some r) P own = bind Any Any P (fetch r.0 (scalar f r.1)) _ (fetch_sees f P r.0 (scalar f r.1) (scalar_is f P own r.1)) (λ P1 s1 v q. tt)

  module _ (u : Routine) where
    tested_sees : (P : Locations) (k : ℕ) (s : Here) → Sees Any P (tested u k s)
    tested_sees P k s = go (s.loops k).count
      where
        go : (n : ℕ) → Sees Any P (elim n [ zero ↦ to (u.leaving k) s | suc n ↦ to (At (u.below k)) s ])
        go zero = tt
        go (suc n) = tt

    chosen_sees : (P : Locations) (o : Option ℕ) (p : Point) (s : Here) → Sees Any P (to_chosen o p s)
    chosen_sees P None p s = tt
    chosen_sees P (Some l) p s = tt

    perform_sees : (s : Here) (k : ℕ) (t : Statement) (P : Locations) → Knows f P → Sees Any P (perform u f s k t)
    perform_sees s k (Assign t e) P own =
        bind Any Any P (target f t) _ (target_sees f t P own) (λ P1 s1 l q.
        bind Any Any P1 (value f e) _ (value_sees f e P1 (λ m e. s1 m (own m e))) (λ P2 s2 x r. tt))
    perform_sees s k (If e w) P own = bind Any Any P (condition f e) _ (condition_sees f e P own) (λ P1 s1 c q. tt)
    perform_sees s k (LogicalIf e t) P own = bind Any Any P (condition f e) _ (condition_sees f e P own) (λ P1 s1 c q. tt)
    perform_sees s k (ArithmeticIf e a b c) P own = bind Any Any P (number f e) _ (number_sees f e P own) (λ P1 s1 x q. tt)
    perform_sees s k (GoTo l) P own = tt
    perform_sees s k (ComputedGoTo ls e) P own = bind Any Any P (number f e) _ (number_sees f e P own) (λ P1 s1 x q. chosen_sees P1 (chosen ls x) (u.after k) s)
    perform_sees s k (Do b e1 e2 e3) P own =
        bind Any Any P (number f e1) _ (number_sees f e1 P own) (λ P1 s1 m1 q1.
        bind Any Any P1 (number f e2) _ (number_sees f e2 P1 (λ l e. s1 l (own l e))) (λ P2 s2 m2 q2.
        bind Any Any P2 (step_of f e3) _ (step_sees e3 P2 (λ l e. s2 l (s1 l (own l e)))) (λ P3 s3 m3 q3. go P3 m1 m2 m3 (int_eq m3 (pos 0)))))
      where
        go : (P : Locations) (m1 m2 m3 : ℤ) (z : Bool) → Sees {A = After Here} Any P (if z then Fail (Undefined 6) else (store (scalar f b) (Integer m1) >> Done (Again (record { point = Test k; loops = set_loop k (record { count = trips m1 m2 m3; step = m3 }) s.loops }))))
        go P m1 m2 m3 true = tt
        go P m1 m2 m3 false = tt
    perform_sees s k Continue P own = tt
    perform_sees s k (Call site es) P own = bind HasEach Any P (actuals f site 0 es) _ (actuals_see f es site 0 P own) (λ P1 s1 ds h. (h, λ r. tt))
    perform_sees s k Return P own = return_sees u.result P own
    perform_sees s k program.Stop P own = tt
    perform_sees s k (Print es) P own = bind Any Any P (items f es) _ (items_see es P own) (λ P1 s1 ps q. bind Any Any P1 (say_record ps) _ (record_sees P1 ps) (λ P2 s2 x r. tt))
    perform_sees s k (Read ts) P own = bind Any Any P (read_all f ts) _ (read_sees ts P own) (λ P1 s1 x q. tt)
    perform_sees s k NoStatement P own = tt

    as_number_sees : (P : Locations) (v : unit.Value) → Sees Any P (as_number v)
    as_number_sees P (Integer x) = tt
    as_number_sees P (Logical b) = tt

    advance_sees : (s : Here) (k : ℕ) (t : Statement) (P : Locations) → Knows f P → Sees Any P (advance u f s k t)
    advance_sees s k (Do b e1 e2 e3) P own =
        bind Any Any P (fetch types.Integer (scalar f b)) _ (fetch_sees f P types.Integer (scalar f b) (scalar_is f P own b)) (λ P1 s1 x q.
        bind Any Any P1 (as_number x) _ (as_number_sees P1 x) (λ P2 s2 n r. tested_sees _ k (record s { loops = set_loop k (record { count = (s.loops k).count - 1; step = (s.loops k).step }) s.loops })))
    advance_sees s k t P own = tt

    pub turn_sees : (P : Locations) → Knows f P → (s : Here) → Sees Any P (turn u f s)
    turn_sees P own s = go s.point
      where
        go : (p : Point) → Sees Any P (turn_at u f s p)
        go (At k) = perform_sees s k (statement u k) P own
        go (Inside k) = perform_sees s k (inner (statement u k)) P own
        go (Test k) = tested_sees P k s
        go (Advance k) = advance_sees s k (statement u k) P own

  -- ---- entries

  lower_sees : (b : Option Term) (P : Locations) → Knows f P → Sees Any P (lower_of f b)
  lower_sees None P own = tt
  lower_sees (Some e) P own = number_sees f e P own

  upper_sees : (b : Option Term) (P : Locations) → Knows f P → Sees Any P (upper_of f b)
  upper_sees None P own = tt
  upper_sees (Some e) P own = bind Any Any P (number f e) _ (number_sees f e P own) (λ P1 s1 x q. tt)

  bounds_see : (bs : List Bound) (P : Locations) → Knows f P → Sees Any P (bounds_of f bs)
  bounds_see [] P own = tt
  bounds_see (b ∷ bs) P own =
      bind Any Any P (lower_of f b.lower) _ (lower_sees b.lower P own) (λ P1 s1 x q.
      bind Any Any P1 (upper_of f b.upper) _ (upper_sees b.upper P1 (λ l e. s1 l (own l e))) (λ P2 s2 y r.
      bind Any Any P2 (bounds_of f bs) _ (bounds_see bs P2 (λ l e. s2 l (s1 l (own l e)))) (λ P3 s3 rest t. tt)))

extents_see : (P : Locations) (bs : List (ℤ × Option ℤ)) → Sees Any P (extents bs)
extents_see P [] = tt
extents_see P ((x, None) ∷ bs) = bind Any Any P (extents bs) _ (extents_see P bs) (λ P1 s1 rest q. tt)
extents_see P ((x, Some y) ∷ bs) = go (positive ((y -ℤ x) +ℤ pos 1)) (extents bs) (extents_see P bs)
  where
    go : (o : Option ℕ) (a : Act (List (ℤ × Option ℕ))) → Sees Any P a → Sees Any P (elim o [ None ↦ Fail (Undefined 4) | Some n ↦ and_then a (λ rest. Done ((x, Some n) ∷ rest)) ])
    go None a b = tt
    go (Some n) a b = bind Any Any P a (λ rest. Done ((x, Some n) ∷ rest)) b (λ P1 s1 rest q. tt)

filled_sees : (P : Locations) (star : ℕ) (es : List (ℤ × Option ℕ)) → Sees Any P (filled star es)
filled_sees P star [] = tt
filled_sees P star ((x, Some n) ∷ es) = bind Any Any P (filled star es) _ (filled_sees P star es) (λ P1 s1 rest q. tt)
filled_sees P star ((x, None) ∷ es) = go (nat_lt star 1) (filled star es) (filled_sees P star es)
  where
    go : (z : Bool) (a : Act (List Extent)) → Sees Any P a → Sees Any P (if z then Fail (Undefined 4) else and_then a (λ rest. Done (record { lower = x; size = star } ∷ rest)))
    go true a b = tt
    go false a b = bind Any Any P a (λ rest. Done (record { lower = x; size = star } ∷ rest)) b (λ P1 s1 rest q. tt)

dimensions_see : (f : Frame) (long : ℕ) (bs : List Bound) (P : Locations) → Knows f P → Sees Any P (dimensions f long bs)
dimensions_see f long bs P own =
    bind Any Any P (bounds_of f bs) _ (bounds_see f bs P own) (λ P1 s1 pairs q.
    bind Any Any P1 (extents pairs) _ (extents_see P1 pairs) (λ P2 s2 es r.
    bind Any Any P2 (filled (divide long (product es)) es) _ (filled_sees P2 (divide long (product es)) es) (λ P3 s3 shape t. go P3 shape (nat_lt long (total shape)))))
  where
    go : (P : Locations) (shape : List Extent) (z : Bool) → Sees Any P (if z then Fail (Undefined 3) else Done shape)
    go P shape true = tt
    go P shape false = tt

-- an entry changes no actual
abbrev pub HasActuals : List Interval → Locations → Frame → Type 0
HasActuals ds P g = g.actuals ≡ ds

pub entry_sees : (as_ : List DummyArray) (f : Frame) (P : Locations) → Knows f P → Sees (HasActuals f.actuals) P (entry f as_)
entry_sees [] f P own = refl
entry_sees (a ∷ as_) f P own =
    bind Any (HasActuals f.actuals) P (dimensions f (interval f (Dummy a.dummy) 0).length a.bounds) _ (dimensions_see f (interval f (Dummy a.dummy) 0).length a.bounds P own) (λ P1 s1 es q. entry_sees as_ (with_shape a.dummy es f) P1 (λ l e. s1 l (own l e)))
