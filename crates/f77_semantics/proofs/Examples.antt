-- Small programs, computed: their steps, cells and order of evaluation.
use Rattle.std.proofs.Common.{◌≡◌, ℕ, suc, List, [], ◌∷◌, ◌++◌, Some, None, true, false, pos, negsuc, ℤ, refl, slice_get}
use Rattle.std.specs.Int.{int_wrap}
use Rattle.std.specs.Fmt.{decimal}
use Rattle.run_model.specs.Runs.{Run, Going, Finished, UndefinedAt}
use Rattle.f77_tree.specs.declared.expr.Op.TheVariants.{Div, Add, Sub, Eq, And}
use Rattle.f77_tree.specs.declared.unit.Ty.TheVariants as types
use Rattle.f77_tree.specs.declared.unit.Value.TheVariants.{Integer, Logical}
use Rattle.f77_values.specs.Tables.{Name}
use Rattle.f77_flow.specs.Graph.{Point, At, Advance}
use Rattle.f77_semantics.specs.Program.{Base, Dummy, Own, Common, Known, Array, Term, Literal, Text, Variable, Element, Reference, Paren, Binary, End, ◌and◌, Statement, Assign, If, LogicalIf, Do, Continue, Call, Return, Stop, Print, Read, NoStatement, Routine}
use Rattle.f77_semantics.specs.Units.{running}

abbrev pub printed : List ℕ → List (List ℕ) → List ℕ
printed out [] = out
printed out (p ∷ ps) = printed (out ++ p) ps

abbrev pub blank : List ℕ
blank = 32 ∷ []

abbrev pub line : List ℕ
line = 10 ∷ []

abbrev pub int : ℕ → Term
int n = Literal (Integer (pos n))

abbrev pub i : Base
i = Own 0

abbrev pub j : Base
j = Own 1

abbrev pub var : Base → Term
var b = Variable types.Integer b

abbrev pub array : Base → ℕ → ℕ → Array
array b length upper = record { base = b; length = length; bounds = Known (record { lower = pos 1; size = upper } ∷ []) }

abbrev pub points : List Point → ℕ → Point
points ps k = elim (slice_get ps k) [ None ↦ At (suc k) | Some p ↦ p ]

abbrev pub straight : ℕ → Point
straight k = At (suc k)

abbrev pub main : Name
main = 77 ∷ []

abbrev pub sub : Name
sub = 83 ∷ []

abbrev pub unit : Name → List Statement → List Name → Routine
unit name ss callees = record { name = name; statements = ss; first = 0; below = λ k. suc k; after = straight; leaving = straight; callees = callees; dummy_arrays = []; result = None; kept = []; initial = [] }

-- a main program alone, and with a subprogram S that it calls at each site
abbrev pub alone : List Statement → List ℤ → ℕ → Run
alone ss input n = running (unit main ss [] ∷ []) (unit main ss []) input n

abbrev pub with_sub : List Statement → Routine → ℕ → Run
with_sub ss s n = running (unit main ss (sub ∷ sub ∷ sub ∷ []) ∷ s ∷ []) (unit main ss (sub ∷ sub ∷ sub ∷ [])) [] n

-- DO 5 I = 1, 1; 5 CONTINUE; END: two steps for the DO, one for each turn
abbrev one_turn : Routine
one_turn = record (unit main (Do i (int 1) (int 1) None ∷ Continue ∷ Stop ∷ []) []) { after = points (At 1 ∷ Advance 0 ∷ []); leaving = points (At 2 ∷ []) }

one_turn_ends : running (one_turn ∷ []) one_turn [] 5 ≡ Finished 0 []
unfolding int_wrap
one_turn_ends = refl

one_turn_goes : running (one_turn ∷ []) one_turn [] 4 ≡ Going []
unfolding int_wrap
one_turn_goes = refl

none_begins : running (one_turn ∷ []) one_turn [] 0 ≡ Going []
unfolding int_wrap
none_begins = refl

-- COMMON /C/ I; DO 5 I = 1, 2; 5 CALL S; END; SUBROUTINE S; LOGICAL L; COMMON /C/ L; L = .TRUE.; END:
-- types belong to cells, and the advance reads an INTEGER in the step of its test
abbrev pub block : Name
block = 67 ∷ []

abbrev retyped : Routine
retyped = record (unit main (Do (Common block 0) (int 1) (int 2) None ∷ Call 1 End ∷ Stop ∷ []) (sub ∷ [])) { after = points (At 1 ∷ Advance 0 ∷ []); leaving = points (At 2 ∷ []) }

abbrev retypes : Routine
retypes = unit sub (Assign (Variable types.Logical (Common block 0)) (Literal (Logical true)) ∷ Return ∷ []) []

retyped_ends : running (retyped ∷ retypes ∷ []) retyped [] 6 ≡ UndefinedAt 6 1 []
unfolding int_wrap
retyped_ends = refl

retyped_goes : running (retyped ∷ retypes ∷ []) retyped [] 5 ≡ Going []
unfolding int_wrap
retyped_goes = refl

-- PRINT *, F(1); END; INTEGER FUNCTION F(M); END: the result is read in the step of END
abbrev no_result : List Statement → Routine
no_result ss = record (unit sub ss []) { result = Some (types.Integer, i) }

end_reads : with_sub (Print (Reference 1 (int 1 and End) and End) ∷ Stop ∷ []) (no_result (Return ∷ [])) 9 ≡ UndefinedAt 2 1 []
unfolding int_wrap
end_reads = refl

-- .. with IF (.TRUE.) RETURN: two steps, and it is read in the second
return_reads : with_sub (Print (Reference 1 (int 1 and End) and End) ∷ Stop ∷ []) (no_result (LogicalIf (Literal (Logical true)) Return ∷ Return ∷ [])) 9 ≡ UndefinedAt 3 1 []
unfolding int_wrap
return_reads = refl

-- IF (.FALSE.) THEN; ELSE; END IF; END: END IF is a step, ELSE is none
else_ends : alone (If (Literal (Logical false)) 2 ∷ NoStatement ∷ Continue ∷ Stop ∷ []) [] 3 ≡ Finished 0 []
unfolding int_wrap
else_ends = refl

-- IF (.FALSE.) THEN; ELSE IF (.TRUE.) THEN; END IF; END: ELSE IF is a step
else_if_ends : alone (If (Literal (Logical false)) 1 ∷ If (Literal (Logical true)) 2 ∷ Continue ∷ Stop ∷ []) [] 4 ≡ Finished 0 []
unfolding int_wrap
else_if_ends = refl

-- PRINT *, F(1), F(2); END; INTEGER FUNCTION F(M); SAVE; IF (M .EQ. 1) F = 5; END: the result is kept
abbrev keeps_result : Routine
keeps_result = record (unit sub (LogicalIf (Binary Eq (var (Dummy 0)) (int 1)) (Assign (var i) (int 5)) ∷ Return ∷ []) []) { result = Some (types.Integer, i); kept = record { from = 0; length = 1 } ∷ [] }

result_kept : with_sub (Print (Reference 1 (int 1 and End) and Reference 2 (int 2 and End) and End) ∷ Stop ∷ []) keeps_result 20 ≡ Finished 0 (printed [] (blank ∷ decimal 5 ∷ blank ∷ decimal 5 ∷ line ∷ []))
unfolding int_wrap
result_kept = refl

-- .. without SAVE it is undefined at the second entry
result_lost : with_sub (Print (Reference 1 (int 1 and End) and Reference 2 (int 2 and End) and End) ∷ Stop ∷ []) (record keeps_result { kept = [] }) 20 ≡ UndefinedAt 6 1 []
unfolding int_wrap
result_lost = refl

-- INTEGER K(2); DATA K(1) /4/; PRINT *, K(1); PRINT *, K(2); END: what DATA doesn't give begins undefined
abbrev half : Routine
half = record (unit main (Print (Element types.Integer (array i 2 2) (int 1 and End) and End) ∷ Print (Element types.Integer (array i 2 2) (int 2 and End) and End) ∷ Stop ∷ []) []) { kept = record { from = 0; length = 2 } ∷ []; initial = (Own 0, Integer (pos 4)) ∷ [] }

half_given : running (half ∷ []) half [] 9 ≡ UndefinedAt 2 1 (printed [] (blank ∷ decimal 4 ∷ line ∷ []))
unfolding int_wrap
half_given = refl

-- COMMON /C/ I; PRINT *, I; END; BLOCK DATA; COMMON /C/ I; DATA I /7/; END: a unit that is never entered
abbrev gives : Routine
gives = record (unit sub [] []) { initial = (Common block 0, Integer (pos 7)) ∷ [] }

block_given : with_sub (Print (var (Common block 0) and End) ∷ Stop ∷ []) gives 9 ≡ Finished 0 (printed [] (blank ∷ decimal 7 ∷ line ∷ []))
unfolding int_wrap
block_given = refl

-- CALL S(I); PRINT *, I; END; SUBROUTINE S(M); M = 1; END: passing reads nothing
abbrev pub sets_one : Routine
sets_one = unit sub (Assign (var (Dummy 0)) (int 1) ∷ Return ∷ []) []

passing : with_sub (Call 1 (var i and End) ∷ Print (var i and End) ∷ Stop ∷ []) sets_one 9 ≡ Finished 0 (printed [] (blank ∷ decimal 1 ∷ line ∷ []))
unfolding int_wrap
passing = refl

-- .. CALL S((I)) reads
reading : with_sub (Call 1 (Paren (var i) and End) ∷ Stop ∷ []) sets_one 9 ≡ UndefinedAt 1 1 []
unfolding int_wrap
reading = refl

-- INTEGER K(2); I = 0; PRINT *, 7, K(3), 1 / I; END: an element is compared before the next item, and nothing is printed
subscript : alone (Assign (var i) (int 0) ∷ Print (int 7 and Element types.Integer (array (Own 1) 2 2) (int 3 and End) and Binary Div (int 1) (var i) and End) ∷ Stop ∷ []) [] 5 ≡ UndefinedAt 2 2 []
unfolding int_wrap
subscript = refl

-- I = 3; PRINT *, I + F(I), F((I)), I; END; INTEGER FUNCTION F(M); M = M + 1; F = M; END: operands are read in their turn
abbrev pub adds_one : Routine
adds_one = record (unit sub (Assign (var (Dummy 0)) (Binary Add (var (Dummy 0)) (int 1)) ∷ Assign (var i) (var (Dummy 0)) ∷ Return ∷ []) []) { result = Some (types.Integer, i) }

in_turn : with_sub (Assign (var i) (int 3) ∷ Print (Binary Add (var i) (Reference 1 (var i and End)) and Reference 2 (Paren (var i) and End) and var i and End) ∷ Stop ∷ []) adds_one 20 ≡ Finished 0 (printed [] (blank ∷ decimal 7 ∷ blank ∷ decimal 5 ∷ blank ∷ decimal 4 ∷ line ∷ []))
unfolding int_wrap
in_turn = refl

-- INTEGER K(2); I = 1; K(I) = F(I); PRINT *, K(1); END: the target is fixed before the value
target_first : with_sub (Assign (var i) (int 1) ∷ Assign (Element types.Integer (array (Own 1) 2 2) (var i and End)) (Reference 1 (var i and End)) ∷ Print (Element types.Integer (array (Own 1) 2 2) (int 1 and End) and End) ∷ Stop ∷ []) adds_one 20 ≡ Finished 0 (printed [] (blank ∷ decimal 2 ∷ line ∷ []))
unfolding int_wrap
target_first = refl

-- PRINT *, .FALSE. .AND. L(1); END; LOGICAL FUNCTION L(M); PRINT *, M; L = .TRUE.; END:
-- both sides are evaluated, and the function's record comes first
abbrev prints_true : Routine
prints_true = record (unit sub (Print (var (Dummy 0) and End) ∷ Assign (Variable types.Logical i) (Literal (Logical true)) ∷ Return ∷ []) []) { result = Some (types.Logical, i) }

both_sides : with_sub (Print (Binary And (Literal (Logical false)) (Reference 1 (int 1 and End)) and End) ∷ Stop ∷ []) prints_true 9 ≡ Finished 0 (printed [] (blank ∷ decimal 1 ∷ line ∷ blank ∷ (70 ∷ []) ∷ line ∷ []))
unfolding int_wrap
both_sides = refl

-- PRINT *, J / 0; END and PRINT *, 1 / 0 + J; END, with J undefined: the order decides the cause
reads_first : alone (Print (Binary Div (var j) (int 0) and End) ∷ Stop ∷ []) [] 9 ≡ UndefinedAt 1 1 []
unfolding int_wrap
reads_first = refl

divides_first : alone (Print (Binary Add (Binary Div (int 1) (int 0)) (var j) and End) ∷ Stop ∷ []) [] 9 ≡ UndefinedAt 1 5 []
unfolding int_wrap
divides_first = refl

-- READ *, I; PRINT *, I; READ *, J; PRINT *, J; END, with one integer
reads : alone (Read (var i and End) ∷ Print (var i and End) ∷ Read (var j and End) ∷ Print (var j and End) ∷ Stop ∷ []) (pos 8 ∷ []) 50 ≡ Finished 3 (printed [] (blank ∷ decimal 8 ∷ line ∷ []))
unfolding int_wrap
reads = refl

-- PRINT *, .TRUE., 'IT''S'; PRINT *; PRINT *, ''; END: the last two records are one blank
texts : alone (Print (Literal (Logical true) and Text (73 ∷ 84 ∷ 39 ∷ 83 ∷ []) and End) ∷ Print End ∷ Print (Text [] and End) ∷ Stop ∷ []) [] 9 ≡ Finished 0 (printed [] (blank ∷ (84 ∷ []) ∷ blank ∷ (73 ∷ []) ∷ (84 ∷ []) ∷ (39 ∷ []) ∷ (83 ∷ []) ∷ line ∷ blank ∷ line ∷ blank ∷ line ∷ []))
unfolding int_wrap
texts = refl

-- I = -9223372036854775807 - 1; I = I / (-1) - 1; PRINT *, I; END: arithmetic wraps
wraps : alone (Assign (var i) (Binary Div (Literal (Integer (negsuc 9223372036854775807))) (Literal (Integer (negsuc 0)))) ∷ Assign (var i) (Binary Sub (var i) (int 1)) ∷ Print (var i and End) ∷ Stop ∷ []) [] 4 ≡ Finished 0 (printed [] (blank ∷ decimal 9223372036854775807 ∷ line ∷ []))
unfolding int_wrap
wraps = refl
