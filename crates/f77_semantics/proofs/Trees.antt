-- Names and sites of trees, computed layer by layer.
use Rattle.std.proofs.Common.{Option, None, negsuc, ◌≡◌, ℕ, List, [], ◌∷◌, cond, true, false, Some, pos, refl}
use Rattle.f77_tree.specs.declared.expr.Expr.{Expr, out-roll-Expr, roll-Expr, fold-roll-Expr}
use Rattle.f77_tree.specs.declared.expr.Expr.TheFolds.{map-Expr}
use Rattle.f77_tree.specs.declared.expr.Expr.TheOpen.{Expr-F}
use Rattle.f77_tree.specs.declared.expr.Op.TheVariants.{Add}
use Rattle.f77_tree.specs.declared.form.Form.{Form, out-Form, roll-Form}
use Rattle.f77_tree.specs.declared.form.Form.TheOpen.{Form-F}
use Rattle.f77_tree.specs.declared.unit.Stmt.{Stmt}
use Rattle.f77_tree.specs.declared.unit.Ty.TheVariants as types
use Rattle.f77_tree.specs.declared.unit.Value.{Value}
use Rattle.f77_tree.specs.declared.unit.Value.TheVariants.{Integer}
use Rattle.f77_values.specs.Tables.{Name, name_eq, Told}
use Rattle.f77_values.specs.Constants.{value_step}
use Rattle.f77_semantics.specs.Program.{Own, Common, Known, Literal, Variable, Reference, Binary, End, ◌and◌, Statement, Assign, LogicalIf, ArithmeticIf, Do, Call, Return, Stop}
use Rattle.f77_semantics.specs.Terms.{Meant, Function, constant_in, Resolved, step, resolved}
use Rattle.f77_semantics.specs.Terms as names
use Rattle.f77_semantics.specs.Resolve.{statement_of}
use Rattle.f77_semantics.specs.Data.{form_gives}
use denote.Hole as hole

-- what a tree is looked up to, layer by layer
pub layer : (meant : Name → Meant) (y : Expr-F Expr) → resolved meant (roll-Expr y) ≡ step meant (map-Expr Expr Resolved (resolved meant) y)
unfolding resolved
layer meant y = fold-roll-Expr Resolved (step meant) y

pub constant_layer : (named : Told Value) (y : Expr-F Expr) → constant_in named (roll-Expr y) ≡ value_step named (map-Expr Expr (Option Value) (constant_in named) y)
unfolding constant_in
constant_layer named y = fold-roll-Expr (Option Value) (value_step named) y

abbrev int : ℕ → Expr
int n = roll-Expr (Expr-F.Int (pos n))

abbrev f : Name
f = 70 ∷ []

abbrev i : Name
i = 73 ∷ []

abbrev known : Name → Meant
known n = cond (name_eq f n) Function (names.Variable types.Integer (Own 0))

-- F(1, F(I)) + F(2): a function's site stands before those of its actuals
example : (resolved known (roll-Expr (Expr-F.Binary Add (roll-Expr (Expr-F.Apply f (int 1 ∷ roll-Expr (Expr-F.Apply f (roll-Expr (Expr-F.Scalar i) ∷ [])) ∷ []))) (roll-Expr (Expr-F.Apply f (int 2 ∷ [])))))).term 1
    ≡ Binary Add
    (Reference 1 (Literal (Integer (pos 1)) and Reference 2 (Variable types.Integer (Own 0) and End) and End))
    (Reference 3 (Literal (Integer (pos 2)) and End))
example = simp (layer known) refl

-- a name with a list by what it stands for, and a constant
abbrev call : List Expr → Expr
call es = roll-Expr (Expr-F.Apply f es)

abbrev name : Expr
name = roll-Expr (Expr-F.Scalar i)

-- text: 10 CONTINUE; the statement; 20 END
abbrev text : List Stmt
text = record { label = 10; line = 1; form = roll-Form Form-F.Continue } ∷ record { label = 0; line = 2; form = roll-Form Form-F.Continue } ∷ record { label = 20; line = 3; form = roll-Form Form-F.End } ∷ []

-- Statement 1 of a main program, whose first site is 4.
abbrev main_statement : Form-F Form → Statement
main_statement form = statement_of known true text 1 4 form

-- I = F(I): the target's sites come first
assignment : main_statement (Form-F.Assign name (call (name ∷ []))) ≡ Assign (Variable types.Integer (Own 0)) (Reference 4 (Variable types.Integer (Own 0) and End))
assignment = simp (layer known) refl

-- DO 20 I = F(1), F(2), F(3)
loop : main_statement (Form-F.Do 20 i (call (int 1 ∷ [])) (call (int 2 ∷ [])) (Some (call (int 3 ∷ []))))
    ≡ Do (Own 0) (Reference 4 (Literal (Integer (pos 1)) and End)) (Reference 5 (Literal (Integer (pos 2)) and End)) (Some (Reference 6 (Literal (Integer (pos 3)) and End)))
loop = simp (layer known) refl

-- CALL S(F(I), 1): the callee's name stands before those in its actuals
called : main_statement (Form-F.Call (83 ∷ []) (call (name ∷ []) ∷ int 1 ∷ [])) ≡ Call 4 (Reference 5 (Variable types.Integer (Own 0) and End) and Literal (Integer (pos 1)) and End)
called = simp (layer known) refl

-- IF (F(I)) 10, 20, 10 and IF (F(I)) GO TO 20, by the numbers of the statements
three_ways : main_statement (Form-F.ArithmeticIf (call (name ∷ [])) 10 20 10) ≡ ArithmeticIf (Reference 4 (Variable types.Integer (Own 0) and End)) 0 2 0
unfolding out-Form hole.Carrier.out roll-Form hole.Carrier.roll
three_ways = simp (layer known) refl

guarded : main_statement (Form-F.LogicalIf (call (name ∷ [])) (roll-Form (Form-F.Assign name (call [])))) ≡ LogicalIf (Reference 4 (Variable types.Integer (Own 0) and End)) (Assign (Variable types.Integer (Own 0)) (Reference 5 End))
unfolding out-Form hole.Carrier.out roll-Form hole.Carrier.roll
guarded = simp (layer known) refl

-- END is STOP in a main program and RETURN elsewhere.
main_end : main_statement Form-F.End ≡ Stop
main_end = refl

sub_end : statement_of known false text 1 4 Form-F.End ≡ Return
sub_end = refl

-- DATA K, I / 2*4, N /, J(2, 1) / -1 /, with INTEGER K(2), J(2, 2) and PARAMETER (N = 3)
abbrev data_names : Name → Meant
data_names n = cond (name_eq n (75 ∷ [])) (names.AnArray types.Integer (record { base = Own 1; length = 2; bounds = Known (record { lower = pos 1; size = 2 } ∷ []) }))
    (cond (name_eq n (74 ∷ [])) (names.AnArray types.Integer (record { base = Common (67 ∷ []) 5; length = 4; bounds = Known (record { lower = pos 1; size = 2 } ∷ record { lower = pos 1; size = 2 } ∷ []) })) (names.Variable types.Integer (Own 0)))

abbrev data_constants : Told Value
data_constants = (78 ∷ [], Integer (pos 3)) ∷ []

given : form_gives data_constants data_names (Form-F.DataRuns
    ((roll-Expr (Expr-F.Scalar (75 ∷ [])) ∷ name ∷ [], record { repeat = Some (int 2); value = int 4 } ∷ record { repeat = None; value = roll-Expr (Expr-F.Scalar (78 ∷ [])) } ∷ [])
    ∷ (roll-Expr (Expr-F.Apply (74 ∷ []) (int 2 ∷ int 1 ∷ [])) ∷ [], record { repeat = None; value = roll-Expr (Expr-F.Int (negsuc 0)) } ∷ [])
    ∷ []))
    ≡ (Own 1, Integer (pos 4)) ∷ (Own 2, Integer (pos 4)) ∷ (Own 0, Integer (pos 3)) ∷ (Common (67 ∷ []) 6, Integer (negsuc 0)) ∷ []
given = simp (constant_layer data_constants, out-roll-Expr) refl
