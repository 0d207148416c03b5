-- Units with their names, labels and sites looked up.
use Rattle.std.specs.Prelude.{ℕ, List, Option, ℤ}
use Rattle.f77_tree.specs.declared.expr.Op.{Op}
use Rattle.f77_tree.specs.declared.unit.Ty.{Ty}
use Rattle.f77_tree.specs.declared.unit.Value.{Value}
use Rattle.f77_names.specs.declared.intrinsics.Intrinsic.{Intrinsic}
use Rattle.f77_values.specs.Tables.{Name}
use Rattle.f77_flow.specs.Graph.{Point}
-- Where names stand is a type of the code: a dummy by position, the local area or a COMMON block from an offset on; an array's bounds,
-- known, or fixed at the entry for a dummy, and its length, which is that of one that is no dummy; the local cells with SAVE or DATA.
pub use Rattle.f77_semantics.specs.declared.storage.Base.{Base}
pub use Rattle.f77_semantics.specs.declared.storage.Base.TheVariants.{Dummy, Own, Common}
pub use Rattle.f77_semantics.specs.declared.storage.Extent.{Extent}
pub use Rattle.f77_semantics.specs.declared.storage.Bounds.{Bounds}
pub use Rattle.f77_semantics.specs.declared.storage.Bounds.TheVariants.{Known, AtEntry}
pub use Rattle.f77_semantics.specs.declared.storage.Array.{Array}
pub use Rattle.f77_semantics.specs.declared.storage.Kept.{Kept}

-- A site is a reference or a CALL, by its number.
mutual
  pub data Term : Type 0 where
    Literal : Value → Term
    Text : List ℕ → Term
    Variable : Ty → Base → Term
    Element : Ty → Array → Terms → Term
    Whole : Array → Term
    Reference : (site : ℕ) → Terms → Term
    Apply : Intrinsic → Terms → Term
    Paren : Term → Term
    Negative : Term → Term
    Plus : Term → Term
    Not : Term → Term
    Binary : Op → Term → Term → Term
    NoTerm : Term  -- what no accepted unit has

  pub data Terms : Type 0 where
    End : Terms
    ◌and◌ : Term → Terms → Terms

infixr 60 ◌and◌
-- Statements. A jump's target, and where a false IF goes, is the number of a statement.
pub data Statement : Type 0 where
  Assign : (target value : Term) → Statement
  If : (condition : Term) → (otherwise : ℕ) → Statement
  LogicalIf : (condition : Term) → Statement → Statement
  ArithmeticIf : Term → (negative zero positive : ℕ) → Statement
  GoTo : ℕ → Statement
  ComputedGoTo : List ℕ → Term → Statement
  Do : (variable : Base) → (first last : Term) → (step : Option Term) → Statement
  Continue : Statement
  Call : (site : ℕ) → Terms → Statement
  Return : Statement
  Stop : Statement
  Print : Terms → Statement
  Read : Terms → Statement
  NoStatement : Statement  -- what no run comes to

-- the bounds of a dimension of a dummy array: a lower bound, or 1; an upper bound, or `*`
pub record Bound : Type 0 where
  pub lower : Option Term
  pub upper : Option Term

pub record DummyArray : Type 0 where
  pub dummy : ℕ
  pub bounds : List Bound

-- A unit. Statements are numbered from 0, sites from 1.
pub record Routine : Type 0 where
  pub name : Name
  pub statements : List Statement
  pub first : ℕ  -- the first executable statement
  pub below : ℕ → ℕ  -- what begins behind a statement where no DO ends; of a DO or a block IF, its range or arm
  pub after : ℕ → Point  -- what follows a statement that doesn't jump
  pub leaving : ℕ → Point  -- what follows a DO that is left
  pub callees : List Name  -- the callee of each site
  pub dummy_arrays : List DummyArray
  pub result : Option (Ty × Base)  -- a function's result variable
  pub kept : List Kept  -- the local cells with SAVE or DATA
  pub initial : List (Base × Value)  -- what DATA gives, unit by unit
