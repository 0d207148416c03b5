-- Small programs, computed: numbers, loops, calls and dummy arrays.
use Rattle.std.proofs.Common.{◌≡◌, ℕ, List, [], ◌∷◌, Some, None, negsuc, refl}
use Rattle.std.specs.Int.{int_wrap}
use Rattle.std.specs.Fmt.{decimal}
use Rattle.run_model.specs.Runs.{Going, Finished, UndefinedAt}
use Rattle.f77_tree.specs.declared.expr.Op.TheVariants.{Mul, Add, Lt}
use Rattle.f77_tree.specs.declared.unit.Ty.TheVariants as types
use Rattle.f77_tree.specs.declared.unit.Value.TheVariants.{Integer}
use Rattle.f77_names.specs.declared.intrinsics.Intrinsic.TheVariants.{Mod, Sign, Dim}
use Rattle.f77_flow.specs.Graph.{At, Advance}
use Rattle.f77_semantics.specs.Program.{Dummy, Common, AtEntry, Array, Term, Literal, Element, Whole, Reference, Apply, Paren, Binary, End, ◌and◌, Statement, Assign, ArithmeticIf, ComputedGoTo, Do, Continue, Call, Return, Stop, Print, Bound, DummyArray, Routine}
use Rattle.f77_semantics.specs.Units.{running}
use Rattle.f77_semantics.proofs.Examples.{printed, blank, line, int, i, j, var, array, points, main, sub, unit, alone, with_sub, block, adds_one, sets_one}

-- I = 1; DO 5 I = 2 * I, I + 5; 5 CONTINUE; PRINT *, I; END: both parts use the old I
abbrev old_parts : Routine
old_parts = record (unit main (Assign (var i) (int 1) ∷ Do i (Binary Mul (int 2) (var i)) (Binary Add (var i) (int 5)) None ∷ Continue ∷ Print (var i and End) ∷ Stop ∷ []) []) { after = points (At 1 ∷ At 2 ∷ Advance 1 ∷ []); leaving = points (At 1 ∷ At 3 ∷ []) }

old_parts_end : running (old_parts ∷ []) old_parts [] 50 ≡ Finished 0 (printed [] (blank ∷ decimal 7 ∷ line ∷ []))
unfolding int_wrap
old_parts_end = refl

-- DO 5 I = 1, 2, 0; 5 CONTINUE; END: a zero step
zero_step : alone (Do i (int 1) (int 2) (Some (int 0)) ∷ Continue ∷ Stop ∷ []) [] 9 ≡ UndefinedAt 1 6 []
unfolding int_wrap
zero_step = refl

-- DO 5 I = 0, 9223372036854775807; 5 CONTINUE; END: the count wraps, and there is no turn
abbrev wrapped_count : Routine
wrapped_count = record (unit main (Do i (int 0) (int 9223372036854775807) None ∷ Continue ∷ Stop ∷ []) []) { after = points (At 1 ∷ Advance 0 ∷ []); leaving = points (At 2 ∷ []) }

no_turn : running (wrapped_count ∷ []) wrapped_count [] 3 ≡ Finished 0 []
unfolding int_wrap
no_turn = refl

-- DO 5 I = 1, 3; DO 5 J = 2, 1; 5 PRINT *, 0; PRINT *, I, J; END: a count of 0 leads to the advance of the outer DO
abbrev no_trip : Routine
no_trip = record (unit main (Do i (int 1) (int 3) None ∷ Do j (int 2) (int 1) None ∷ Print (int 0 and End) ∷ Print (var i and var j and End) ∷ Stop ∷ []) []) { after = points (At 1 ∷ At 2 ∷ Advance 1 ∷ []); leaving = points (At 3 ∷ Advance 0 ∷ []) }

no_trip_ends : running (no_trip ∷ []) no_trip [] 13 ≡ Finished 0 (printed [] (blank ∷ decimal 4 ∷ blank ∷ decimal 2 ∷ line ∷ []))
unfolding int_wrap
no_trip_ends = refl

no_trip_goes : running (no_trip ∷ []) no_trip [] 12 ≡ Going (printed [] (blank ∷ decimal 4 ∷ blank ∷ decimal 2 ∷ line ∷ []))
unfolding int_wrap
no_trip_goes = refl

-- DO 5 I = 1, 2; DO 5 I = 5, 6; 5 PRINT *, I; END: one variable
abbrev shared : Routine
shared = record (unit main (Do i (int 1) (int 2) None ∷ Do i (int 5) (int 6) None ∷ Print (var i and End) ∷ Stop ∷ []) []) { after = points (At 1 ∷ At 2 ∷ Advance 1 ∷ []); leaving = points (At 3 ∷ Advance 0 ∷ []) }

shared_end : running (shared ∷ []) shared [] 100 ≡ Finished 0 (printed [] (blank ∷ decimal 5 ∷ line ∷ blank ∷ decimal 6 ∷ line ∷ blank ∷ decimal 5 ∷ line ∷ blank ∷ decimal 6 ∷ line ∷ []))
unfolding int_wrap
shared_end = refl

-- DO 5 I = 1, 1000; 5 CONTINUE; END: a count of steps
abbrev long : Routine
long = record (unit main (Do i (int 1) (int 1000) None ∷ Continue ∷ Stop ∷ []) []) { after = points (At 1 ∷ Advance 0 ∷ []); leaving = points (At 2 ∷ []) }

long_end : running (long ∷ []) long [] 2003 ≡ Finished 0 []
unfolding int_wrap
long_end = refl

-- IF (-2) 10, 20, 30; 10 GO TO (20, 30), 3; PRINT *, 1; 20 END; an index out of range goes on below
jumps : alone (ArithmeticIf (Literal (Integer (negsuc 1))) 1 3 3 ∷ ComputedGoTo (3 ∷ 3 ∷ []) (int 3) ∷ Print (int 1 and End) ∷ Stop ∷ []) [] 4 ≡ Finished 0 (printed [] (blank ∷ decimal 1 ∷ line ∷ []))
unfolding int_wrap
jumps = refl

-- PRINT *, DIM(9223372036854775805, -3), SIGN(5, 0), MOD(-7, 2): DIM compares and then wraps
intrinsics : alone (Assign (var i) (Apply Dim (int 9223372036854775805 and Literal (Integer (negsuc 2)) and End)) ∷ Assign (var i) (Binary Add (Binary Add (var i) (int 9223372036854775807)) (int 1)) ∷ Print (var i and Apply Sign (int 5 and int 0 and End) and Binary Mul (Apply Mod (Literal (Integer (negsuc 6)) and int 2 and End)) (Literal (Integer (negsuc 0))) and End) ∷ Stop ∷ []) [] 9 ≡ Finished 0 (printed [] (blank ∷ decimal 0 ∷ blank ∷ decimal 5 ∷ blank ∷ decimal 1 ∷ line ∷ []))
unfolding int_wrap
intrinsics = refl

-- PRINT *, -9223372036854775808 .LT. 1; END: the numbers are compared, not the sign of a difference
relation : alone (Print (Binary Lt (Literal (Integer (negsuc 9223372036854775807))) (int 1) and End) ∷ Stop ∷ []) [] 9 ≡ Finished 0 (printed [] (blank ∷ (84 ∷ []) ∷ line ∷ []))
unfolding int_wrap
relation = refl

-- I = 1; CALL S(I, I); PRINT *, I; END; SUBROUTINE S(M, N); M = 5; N = N + 1; END: one location under two names
abbrev two_dummies : Routine
two_dummies = unit sub (Assign (var (Dummy 0)) (int 5) ∷ Assign (var (Dummy 1)) (Binary Add (var (Dummy 1)) (int 1)) ∷ Return ∷ []) []

aliased : with_sub (Assign (var i) (int 1) ∷ Call 1 (var i and var i and End) ∷ Print (var i and End) ∷ Stop ∷ []) two_dummies 7 ≡ Finished 0 (printed [] (blank ∷ decimal 6 ∷ line ∷ []))
unfolding int_wrap
aliased = refl

-- I = 3; CALL S((I)); PRINT *, I; END; SUBROUTINE S(M); M = 1; END: a store to a fresh cell is lost
fresh_lost : with_sub (Assign (var i) (int 3) ∷ Call 1 (Paren (var i) and End) ∷ Print (var i and End) ∷ Stop ∷ []) sets_one 9 ≡ Finished 0 (printed [] (blank ∷ decimal 3 ∷ line ∷ []))
unfolding int_wrap
fresh_lost = refl

-- PRINT *, F(F(1)); END; INTEGER FUNCTION F(M); M = M + 1; F = M; END: two entries in one statement
two_entries : with_sub (Print (Reference 1 (Reference 2 (int 1 and End) and End) and End) ∷ Stop ∷ []) adds_one 8 ≡ Finished 0 (printed [] (blank ∷ decimal 3 ∷ line ∷ []))
unfolding int_wrap
two_entries = refl

-- CALL S; PRINT *, 1; END; SUBROUTINE S; STOP; END: the calling statement does nothing more
stop_below : with_sub (Call 1 End ∷ Print (int 1 and End) ∷ Stop ∷ []) (unit sub (Stop ∷ Return ∷ []) []) 9 ≡ Finished 0 []
unfolding int_wrap
stop_below = refl

-- dummy arrays
abbrev upper : Term → Bound
upper e = record { lower = None; upper = Some e }

abbrev star : Bound
star = record { lower = None; upper = None }

abbrev dummy : ℕ → List Bound → DummyArray
dummy k bounds = record { dummy = k; bounds = bounds }

abbrev dummy_of : ℕ → Array
dummy_of k = record { base = Dummy k; length = 0; bounds = AtEntry k }

abbrev taking : List DummyArray → List Statement → Routine
taking arrays ss = record (unit sub ss []) { dummy_arrays = arrays }

-- INTEGER K(2); CALL S(K, 3); END; SUBROUTINE S(M, N); INTEGER M(N); END: in the step of the call
too_long : with_sub (Call 1 (Whole (array i 2 2) and int 3 and End) ∷ Stop ∷ []) (taking (dummy 0 (upper (var (Dummy 1)) ∷ []) ∷ []) (Return ∷ [])) 1 ≡ UndefinedAt 1 3 []
unfolding int_wrap
too_long = refl

-- .. with INTEGER M(0:N) and N = 9223372036854775807 it is too long, and the extent is exact
exact_extent : with_sub (Call 1 (Whole (array i 2 2) and int 9223372036854775807 and End) ∷ Stop ∷ []) (taking (dummy 0 (record { lower = Some (int 0); upper = Some (var (Dummy 1)) } ∷ []) ∷ []) (Return ∷ [])) 1 ≡ UndefinedAt 1 3 []
unfolding int_wrap
exact_extent = refl

-- .. with N = 0 the extent is below 1, and it is looked for before the length
no_extent : with_sub (Call 1 (Whole (array i 2 2) and int 0 and End) ∷ Stop ∷ []) (taking (dummy 0 (upper (var (Dummy 1)) ∷ []) ∷ []) (Return ∷ [])) 1 ≡ UndefinedAt 1 4 []
unfolding int_wrap
no_extent = refl

-- COMMON IA(4), J; CALL S(IA(3), 2); END: an element gives the rest of its array, not of the block
rest_fits : with_sub (Call 1 (Element types.Integer (array (Common block 0) 4 4) (int 3 and End) and int 2 and End) ∷ Stop ∷ []) (taking (dummy 0 (upper (var (Dummy 1)) ∷ []) ∷ []) (Return ∷ [])) 3 ≡ Finished 0 []
unfolding int_wrap
rest_fits = refl

rest_ends : with_sub (Call 1 (Element types.Integer (array (Common block 0) 4 4) (int 3 and End) and int 3 and End) ∷ Stop ∷ []) (taking (dummy 0 (upper (var (Dummy 1)) ∷ []) ∷ []) (Return ∷ [])) 3 ≡ UndefinedAt 1 3 []
unfolding int_wrap
rest_ends = refl

-- INTEGER K(5); CALL S(K); END; SUBROUTINE S(M); INTEGER M(3, *); M(3, 1) = 1; M(3, 2) = 1; END: one column is left
last_extent : with_sub (Call 1 (Whole (array i 5 5) and End) ∷ Stop ∷ []) (taking (dummy 0 (upper (int 3) ∷ star ∷ []) ∷ []) (Assign (Element types.Integer (dummy_of 0) (int 3 and int 1 and End)) (int 1) ∷ Assign (Element types.Integer (dummy_of 0) (int 3 and int 2 and End)) (int 1) ∷ Return ∷ [])) 9 ≡ UndefinedAt 3 2 []
unfolding int_wrap
last_extent = refl

-- .. with INTEGER M(6, *) none is left: never cause 3
no_last_extent : with_sub (Call 1 (Whole (array i 5 5) and End) ∷ Stop ∷ []) (taking (dummy 0 (upper (int 6) ∷ star ∷ []) ∷ []) (Return ∷ [])) 9 ≡ UndefinedAt 1 4 []
unfolding int_wrap
no_last_extent = refl

-- INTEGER K(2); CALL S(K, 2); END; SUBROUTINE S(M, N); INTEGER M(N); N = 1; M(2) = 1; END: a later store changes no bound
bounds_stay : with_sub (Call 1 (Whole (array i 2 2) and int 2 and End) ∷ Stop ∷ []) (taking (dummy 0 (upper (var (Dummy 1)) ∷ []) ∷ []) (Assign (var (Dummy 1)) (int 1) ∷ Assign (Element types.Integer (dummy_of 0) (int 2 and End)) (int 1) ∷ Return ∷ [])) 5 ≡ Finished 0 []
unfolding int_wrap
bounds_stay = refl

-- INTEGER K(5); CALL A(K); END; SUBROUTINE A(M); INTEGER M(3); CALL B(M); M(4) = 1; END; SUBROUTINE B(N); INTEGER N(5); N(5) = 2; END:
-- a dummy array hands on what its actual gave, and its own subscripts keep to its own bounds
abbrev middle : Routine
middle = record (unit (65 ∷ []) (Call 1 (Whole (dummy_of 0) and End) ∷ Assign (Element types.Integer (dummy_of 0) (int 4 and End)) (int 1) ∷ Return ∷ []) (sub ∷ [])) { dummy_arrays = dummy 0 (upper (int 3) ∷ []) ∷ [] }

abbrev top : Routine
top = unit main (Call 1 (Whole (array i 5 5) and End) ∷ Stop ∷ []) ((65 ∷ []) ∷ [])

handed_on : running (top ∷ middle ∷ taking (dummy 0 (upper (int 5) ∷ []) ∷ []) (Assign (Element types.Integer (dummy_of 0) (int 5 and End)) (int 2) ∷ Return ∷ []) ∷ []) top [] 9 ≡ UndefinedAt 5 2 []
unfolding int_wrap
handed_on = refl
