-- The forms of thin statements, as relations between trees and what programs are made of.
use Rattle.std.specs.Prelude.{◌≡◌, ℕ, ℤ, pos, Bool, true, false, ◌&&◌, nat_le, List, [], ◌∷◌, ◌++◌}
use Rattle.std.specs.List.{AllZip}
use Rattle.f77_tree.specs.declared.expr.Op.{Op}
use Rattle.f77_tree.specs.declared.expr.Op.TheVariants as op
use Rattle.f77_tree.specs.declared.expr.Expr.{Expr}
use Rattle.f77_tree.specs.declared.expr.Expr.TheVariants as e
use Rattle.f77_tree.specs.declared.form.Form.{Form}
use Rattle.f77_tree.specs.declared.form.Form.TheVariants as form
use Rattle.thin_form.specs.declared.statement.Sign.{Sign}
use Rattle.thin_form.specs.declared.statement.Sign.TheVariants.{Plus, Minus}
use Rattle.thin_form.specs.declared.statement.Addend.{Addend}
use Rattle.thin_form.specs.declared.statement.Term.{Term}
use Rattle.thin_form.specs.declared.statement.Term.TheVariants.{Variable, Integer}
use Rattle.thin_form.specs.declared.statement.Item.{Item}
use Rattle.thin_form.specs.declared.statement.Item.TheVariants as kind
use Rattle.thin_form.specs.declared.statement.Statement.{Statement}
use Rattle.thin_form.specs.declared.statement.Statement.TheVariants.{Assign, Print, End}

-- The name begins with a letter from I to N, as those of INTEGER variables do where no type is given.
abbrev pub is_integer_name : List ℕ → Bool
is_integer_name [] = false
is_integer_name (first ∷ others) = nat_le 73 first && nat_le first 78

-- not below 0
pub record IsNatural (value : ℤ) : Type 0 where
  pub n : ℕ
  pub is : value ≡ pos n

-- a term is such a name, or an integer
pub data IsTermOf (tree : Expr) (term : Term) : Type 0 where
  variable : (name : List ℕ) → tree ≡ e.Scalar name → is_integer_name name ≡ true → term ≡ Variable name → IsTermOf tree term
  integer : (value : ℤ) → tree ≡ e.Int value → IsNatural value → term ≡ Integer value → IsTermOf tree term

abbrev pub op_of : Sign → Op
op_of Plus = op.Add
op_of Minus = op.Sub

-- a term, or terms joined by `+` and `-` from the left
pub data IsSumOf : Expr → Term → List Addend → Type 0 where
  alone : {tree : Expr} {first : Term} {more : List Addend} → IsTermOf tree first → more ≡ [] → IsSumOf tree first more
  joined : {tree a b : Expr} {first : Term} {before more : List Addend} (last : Addend) →
      tree ≡ e.Binary (op_of last.sign) a b → IsSumOf a first before → IsTermOf b last.term → more ≡ before ++ last ∷ [] → IsSumOf tree first more

-- an item is a term or a literal
pub data IsItemOf (tree : Expr) (item : Item) : Type 0 where
  value : (term : Term) → IsTermOf tree term → item ≡ kind.Value term → IsItemOf tree item
  literal : (bytes : List ℕ) → tree ≡ e.Text bytes → item ≡ kind.Text bytes → IsItemOf tree item

-- an assignment of a sum to a variable
pub record IsAssignmentOf (target value : Expr) (statement : Statement) : Type 0 where
  pub name : List ℕ
  pub variable : target ≡ e.Scalar name
  pub integer : is_integer_name name ≡ true
  pub first : Term
  pub more : List Addend
  pub sum : IsSumOf value first more
  pub made : statement ≡ Assign name first more

-- The tree is an assignment, a PRINT of items or END.
pub data IsStatementOf (tree : Form) (statement : Statement) : Type 0 where
  assign : (target value : Expr) → tree ≡ form.Assign target value → IsAssignmentOf target value statement → IsStatementOf tree statement
  print : (trees : List Expr) (items : List Item) → tree ≡ form.Print trees → AllZip IsItemOf trees items → statement ≡ Print items → IsStatementOf tree statement
  end : tree ≡ form.End → statement ≡ End → IsStatementOf tree statement
