-- Names and sites of a unit's expressions, looked up. All is said of units with faults too: what no accepted unit has is no term, at
-- which a run would be stuck.
use Rattle.std.specs.Prelude.{ℕ, suc, ◌+◌, List, [], ◌∷◌, Option, Some, None, pos, unwrap_or, map}
use Rattle.f77_tree.specs.declared.expr.Expr.{Expr, fold-Expr}
use Rattle.f77_tree.specs.declared.expr.Expr.TheOpen.{Expr-F}
use Rattle.f77_tree.specs.declared.unit.Ty.{Ty}
use Rattle.f77_tree.specs.declared.unit.Value.{Value}
use Rattle.f77_tree.specs.declared.unit.Value.TheVariants.{Integer, Logical}
use Rattle.f77_names.specs.declared.intrinsics.Intrinsic.{Intrinsic}
use Rattle.f77_names.specs.declared.roles.Role.{Role}
use Rattle.f77_names.specs.declared.roles.Role.TheVariants as role
use Rattle.f77_store.specs.declared.storage.Area.{Area}
use Rattle.f77_store.specs.declared.storage.Area.TheVariants as area
use Rattle.f77_store.specs.declared.storage.Slot.{Slot}
use Rattle.f77_values.specs.Tables.{Name, Told}
use Rattle.f77_values.specs.Constants.{value_of}
use Rattle.f77_values.specs.Sizes as sizes
use Rattle.f77_names.specs.Intrinsics.{intrinsic_of}
use Rattle.f77_semantics.specs.Program as program
use Rattle.f77_semantics.specs.Program.{Base, Extent, Bounds, Array, Term, Terms}

-- what a name of a unit stands for
pub data Meant : Type 0 where
  Constant : Value → Meant
  Variable : Ty → Base → Meant
  AnArray : Ty → Array → Meant
  Function : Meant
  AnIntrinsic : Intrinsic → Meant
  Unknown : Meant

-- the value of a constant expression, under the named constants of the unit
unfoldable pub constant_in : Told Value → Expr → Option Value
constant_in named e = value_of named e

-- where a slot stands
abbrev pub base_at : Area → ℕ → Base
base_at (area.Dummy k) from = program.Dummy k
base_at area.Local from = program.Own from
base_at (area.Common block) from = program.Common block from

abbrev pub base_of : Slot → Base
base_of s = base_at s.area s.from

-- a dimension with constant bounds, under the named constants of the unit
abbrev pub extent_of : Told Value → Option Expr × Option Expr → Extent
extent_of named bound = record { lower = unwrap_or (sizes.lower named bound.0) (pos 1); size = unwrap_or (sizes.extent named bound) 0 }

-- the bounds of a dummy array are those of its entry
abbrev pub bounds_at : Told Value → sizes.Bounds → Area → Bounds
bounds_at named bounds (area.Dummy k) = program.AtEntry k
bounds_at named bounds _ = program.Known (map (extent_of named) bounds)

abbrev pub array_of : Told Value → sizes.Bounds → Slot → Array
array_of named bounds s = record { base = base_of s; length = s.size; bounds = bounds_at named bounds s.area }

abbrev pub intrinsic_meant : Option Intrinsic → Meant
intrinsic_meant None = Unknown
intrinsic_meant (Some i) = AnIntrinsic i

-- a name by its role and its slot
abbrev pub meant_as : Told Value → Name → Role → Option Slot → Meant
meant_as named name (role.Constant v) slot = Constant v
meant_as named name role.Intrinsic slot = intrinsic_meant (intrinsic_of name)
meant_as named name role.Function slot = Function
meant_as named name (role.Array bounds) (Some s) = AnArray s.ty (array_of named bounds s)
meant_as named name role.Scalar (Some s) = Variable s.ty (base_of s)
meant_as named name _ _ = Unknown

-- a term, given the number of its first site, and how many sites it has
pub record Resolved : Type 0 where
  pub sites : ℕ
  pub term : ℕ → Term

abbrev pub sites_in : Resolved → ℕ
sites_in r = r.sites

abbrev pub term_from : ℕ → Resolved → Term
term_from s r = r.term s

abbrev pub sites_of : List Resolved → ℕ
sites_of [] = 0
sites_of (r ∷ rs) = r.sites + sites_of rs

abbrev pub terms_of : List Resolved → ℕ → Terms
terms_of [] s = program.End
terms_of (r ∷ rs) s = program.◌and◌ (r.term s) (terms_of rs (s + r.sites))

abbrev pub plain : Term → Resolved
plain t = record { sites = 0; term = λ s. t }

abbrev pub over : (Term → Term) → Resolved → Resolved
over g r = record { sites = r.sites; term = λ s. g (r.term s) }

-- a name without a list
abbrev pub bare : Meant → Term
bare (Constant v) = program.Literal v
bare (Variable ty b) = program.Variable ty b
bare (AnArray ty a) = program.Whole a
bare _ = program.NoTerm

-- A name with a list. A function's name stands before its actuals, so its site comes first.
abbrev pub applied : Meant → List Resolved → Resolved
applied (AnArray ty a) rs = record { sites = sites_of rs; term = λ s. program.Element ty a (terms_of rs s) }
applied (AnIntrinsic i) rs = record { sites = sites_of rs; term = λ s. program.Apply i (terms_of rs s) }
applied Function rs = record { sites = suc (sites_of rs); term = λ s. program.Reference s (terms_of rs (suc s)) }
applied _ rs = record { sites = sites_of rs; term = λ s. program.NoTerm }

module _ (meant : Name → Meant) where
  abbrev pub step : Expr-F Resolved → Resolved
  step (Expr-F.Int x) = plain (program.Literal (Integer x))
  step (Expr-F.Truth b) = plain (program.Literal (Logical b))
  step (Expr-F.Text bytes) = plain (program.Text bytes)
  step (Expr-F.Scalar name) = plain (bare (meant name))
  step (Expr-F.Apply name list) = applied (meant name) list
  step (Expr-F.Paren e) = over program.Paren e
  step (Expr-F.Neg e) = over program.Negative e
  step (Expr-F.Plus e) = over program.Plus e
  step (Expr-F.Not e) = over program.Not e
  step (Expr-F.Binary op a b) = record { sites = a.sites + b.sites; term = λ s. program.Binary op (a.term s) (b.term (s + a.sites)) }

  -- an expression, looked up
  unfoldable pub resolved : Expr → Resolved
  resolved e = fold-Expr Resolved step e
