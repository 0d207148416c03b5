-- What one turn of a unit does (ANSI X3.9-1978, sections 10 to 12 and 15).
use Rattle.std.specs.Prelude.{ℕ, zero, suc, ◌-◌, List, [], ◌∷◌, ◌++◌, Option, Some, None, Bool, true, false, cond, ℤ, pos, negsuc, ◌+ℤ◌, ◌-ℤ◌, int_div, slice_get, nat_eq, if◌then◌else◌, map}
use Rattle.std.specs.Fmt.{signed_decimal}
use Rattle.std.specs.Ordering.{int_eq}
use Rattle.run_model.specs.Storage.{Loc}
use Rattle.run_model.specs.Acts.{Act, Done, Say, Take, Ask, Fail, Ended, Undefined, Stuck, ◌>>=◌, ◌>>◌}
use Rattle.run_model.specs.Turns.{After, Again, Result}
use Rattle.f77_tree.specs.declared.unit.Ty.{Ty}
use Rattle.f77_tree.specs.declared.unit.Ty.TheVariants as ty
use Rattle.f77_tree.specs.declared.unit.Value.{Value}
use Rattle.f77_tree.specs.declared.unit.Value.TheVariants.{Integer, Logical}
use Rattle.f77_values.specs.Arithmetic.{wrap}
use Rattle.f77_flow.specs.Graph.{Point, At, Inside, Test, Advance}
use Rattle.f77_semantics.specs.Values.{stored}
use Rattle.f77_semantics.specs.Program.{Base, Term, Text, Variable, Element, Terms, End, ◌and◌, Statement, Assign, If, LogicalIf, ArithmeticIf, GoTo, ComputedGoTo, Do, Continue, Call, Return, Stop, Print, Read, NoStatement, Routine}
use Rattle.f77_semantics.specs.Expressions.{Frame, value, values, actuals, element, sequence, scalar, at, fetch, store}

-- the count that is left and the step of a DO
pub record Loop : Type 0 where
  pub count : ℕ
  pub step : ℤ

-- where an activation is, and its DOs by their statements
pub record Here : Type 0 where
  pub point : Point
  pub loops : ℕ → Loop

abbrev pub set_loop : ℕ → Loop → (ℕ → Loop) → ℕ → Loop
set_loop k l loops j = cond (nat_eq k j) l (loops j)

abbrev pub as_number : Value → Act ℤ
as_number (Integer x) = Done x
as_number (Logical b) = Fail Stuck

abbrev pub as_truth : Value → Act Bool
as_truth (Logical b) = Done b
as_truth (Integer x) = Fail Stuck

abbrev pub number : Frame → Term → Act ℤ
number f e = do
  x ← value f e
  as_number x

abbrev pub condition : Frame → Term → Act Bool
condition f e = do
  x ← value f e
  as_truth x

-- a target's subscripts are evaluated and compared
abbrev pub target : Frame → Term → Act Loc
target f (Variable ty b) = Done (scalar f b)
target f (Element ty a subscripts) = do
  is ← values f subscripts
  k ← element f a is
  Done (at (sequence f a) k)
target f _ = Fail Stuck

-- the text of an item: a number, a truth value, or a literal byte by byte
abbrev pub written : Value → List ℕ
written (Integer x) = signed_decimal x
written (Logical true) = 84 ∷ []
written (Logical false) = 70 ∷ []

-- all items of a PRINT, each with a blank before it
abbrev pub items : Frame → Terms → Act (List (List ℕ))
items f End = Done []
items f (Text bs and es) = do
  ps ← items f es
  Done ((32 ∷ []) ∷ map (λ b. b ∷ []) bs ++ ps)
items f (e and es) = do
  x ← value f e
  ps ← items f es
  Done ((32 ∷ []) ∷ written x ∷ ps)

abbrev pub say_all : List (List ℕ) → Act (Unit {0})
say_all [] = Say (10 ∷ []) (Done tt)
say_all (p ∷ ps) = Say p (say_all ps)

-- a record without items is one blank
abbrev pub say_record : List (List ℕ) → Act (Unit {0})
say_record [] = say_all ((32 ∷ []) ∷ [])
say_record (p ∷ ps) = say_all (p ∷ ps)

abbrev pub read_all : Frame → Terms → Act (Unit {0})
read_all f End = Done tt
read_all f (t and ts) = do
  l ← target f t
  x ← Take (λ x. Done x)
  store l (Integer x)
  read_all f ts

abbrev pub not_below_zero : ℤ → ℕ
not_below_zero (pos n) = n
not_below_zero (negsuc n) = 0

-- MAX((m2 - m1 + m3) / m3, 0), which wraps at each operator
abbrev pub trips : ℤ → ℤ → ℤ → ℕ
trips m1 m2 m3 = not_below_zero (wrap (int_div (wrap (wrap (m2 -ℤ m1) +ℤ m3)) m3))

abbrev pub by_sign : ℤ → ℕ → ℕ → ℕ → ℕ
by_sign (negsuc n) a b c = a
by_sign (pos zero) a b c = b
by_sign (pos (suc n)) a b c = c

-- the k-th label, counted from 1
abbrev pub chosen : List ℕ → ℤ → Option ℕ
chosen ls (pos (suc k)) = slice_get ls k
chosen ls _ = None

abbrev pub step_of : Frame → Option Term → Act ℤ
step_of f None = Done (pos 1)
step_of f (Some e) = number f e

abbrev pub to : Point → Here → Act (After Here)
to p s = Done (Again (record s { point = p }))

abbrev pub to_chosen : Option ℕ → Point → Here → Act (After Here)
to_chosen None p s = to p s
to_chosen (Some k) p s = to (At k) s

-- a function's result is read at its return
abbrev pub return : Frame → Option (Ty × Base) → Act (After Here)
return f None = Done (Result None)
return f (Some r) = do
  v ← fetch r.0 (scalar f r.1)
  Done (Result (Some (stored v)))

-- A DO with a count of 0 is left; else its range begins.
abbrev pub tested : Routine → ℕ → Here → Act (After Here)
tested u k s = elim (s.loops k).count [ zero ↦ to (u.leaving k) s | suc n ↦ to (At (u.below k)) s ]

-- statement number k
abbrev pub perform : Routine → Frame → Here → ℕ → Statement → Act (After Here)
perform u f s k (Assign t e) = do
  l ← target f t
  x ← value f e
  store l x
  to (u.after k) s
perform u f s k (If e otherwise) = do
  c ← condition f e
  to (At (if c then u.below k else otherwise)) s
perform u f s k (LogicalIf e inner) = do
  c ← condition f e
  to (if c then Inside k else u.after k) s
perform u f s k (ArithmeticIf e a b c) = do
  x ← number f e
  to (At (by_sign x a b c)) s
perform u f s k (GoTo l) = to (At l) s
perform u f s k (ComputedGoTo ls e) = do
  x ← number f e
  to_chosen (chosen ls x) (u.after k) s
perform u f s k (Do b e1 e2 e3) = do
  m1 ← number f e1
  m2 ← number f e2
  m3 ← step_of f e3
  if int_eq m3 (pos 0) then Fail (Undefined 6) else do
    store (scalar f b) (Integer m1)
    Done (Again (record { point = Test k; loops = set_loop k (record { count = trips m1 m2 m3; step = m3 }) s.loops }))
perform u f s k Continue = to (u.after k) s
perform u f s k (Call site es) = do
  ds ← actuals f site 0 es
  r ← Ask site ds (λ r. Done r)
  to (u.after k) s
perform u f s k Return = return f u.result
perform u f s k Stop = Fail (Ended 0)
perform u f s k (Print es) = do
  ps ← items f es
  say_record ps
  to (u.after k) s
perform u f s k (Read ts) = do
  read_all f ts
  to (u.after k) s
perform u f s k NoStatement = Fail Stuck

-- the statement of a logical IF
abbrev pub inner : Statement → Statement
inner (LogicalIf e s) = s
inner _ = NoStatement

-- A DO's variable is stepped, as it stands in its cell, and the DO is tested.
abbrev pub advance : Routine → Frame → Here → ℕ → Statement → Act (After Here)
advance u f s k (Do b e1 e2 e3) = do
  x ← fetch ty.Integer (scalar f b)
  n ← as_number x
  store (scalar f b) (Integer (wrap (n +ℤ (s.loops k).step)))
  tested u k (record s { loops = set_loop k (record { count = (s.loops k).count - 1; step = (s.loops k).step }) s.loops })
advance u f s k _ = Fail Stuck

abbrev pub statement : Routine → ℕ → Statement
statement u k = elim (slice_get u.statements k) [ None ↦ NoStatement | Some t ↦ t ]

-- one turn is one step
abbrev pub turn_at : Routine → Frame → Here → Point → Act (After Here)
turn_at u f s (At k) = perform u f s k (statement u k)
turn_at u f s (Inside k) = perform u f s k (inner (statement u k))
turn_at u f s (Test k) = tested u k s
turn_at u f s (Advance k) = advance u f s k (statement u k)

abbrev pub turn : Routine → Frame → Here → Act (After Here)
turn u f s = turn_at u f s s.point
