-- Items and constants of DATA in number and type (ANSI X3.9-1978, section 9.2). The first stand for elements and the last are repeated,
-- so each is a run: so many of one type. A run of a number that isn't known has at least one, and hides what stands behind it.
use Rattle.std.specs.Prelude.{ℕ, Bool, true, false, not, ◌&&◌, ◌||◌, ◌==◌, Option, Some, None, List, [], ◌∷◌, length, fold, flat_map, ℤ, pos, replicate}
use Rattle.std.specs.List.{list_any, zip}
use Rattle.f77_tree.specs.declared.expr.Expr.{Expr, out-Expr}
use Rattle.f77_tree.specs.declared.expr.Expr.TheOpen.{Expr-F}
use Rattle.f77_tree.specs.declared.form.DataConst.{DataConst}
use Rattle.f77_tree.specs.declared.unit.Ty.{Ty}
use Rattle.f77_tree.specs.declared.unit.Ty.TheVariants as ty
use Rattle.f77_tree.specs.declared.unit.Value.{Value}
use Rattle.f77_tree.specs.declared.unit.Value.TheVariants.{Integer}
use Rattle.f77_names.specs.declared.facts.Facts.{Facts}
use Rattle.f77_values.specs.Tables.{Told, what}
use Rattle.f77_values.specs.Constants.{value_of}
use Rattle.f77_values.specs.Sizes.{between, times}
use Rattle.f77_names.specs.Roles.{type_of}
use Rattle.check_data.specs.declared.measures.Measured.{Measured}
use Rattle.check_data.specs.declared.runs.Run.{Run}
use Rattle.check_data.specs.declared.runs.Runs.{Runs}

-- ---- what a run is

-- the number of an array's elements, exact however large it is, where all its bounds are constant
abbrev pub with_extent : Option ℕ → Option ℤ × Option ℤ → Option ℕ
with_extent size side = times size (between side.0 side.1)

abbrev pub size_of : List (Option ℤ × Option ℤ) → Option ℕ
size_of sides = fold with_extent (Some 1) sides

-- an array by its name stands for all its elements
abbrev pub size_in : Option Measured → Option ℕ
size_in None = Some 1
size_in (Some array) = size_of array.sides

abbrev pub item_count : Told Measured → Expr-F Expr → Option ℕ
item_count measures (Expr-F.Scalar name) = size_in (what measures name)
item_count measures _ = Some 1

abbrev pub item_type : Facts → Expr-F Expr → Option Ty
item_type f (Expr-F.Scalar name) = type_of f name
item_type f (Expr-F.Apply name list) = type_of f name
item_type f _ = None

abbrev pub count_of : Option Value → Option ℕ
count_of (Some (Integer (pos n))) = Some n
count_of _ = None

-- a constant stands as often as its repeat says
abbrev pub constant_count : Told Value → Option Expr → Option ℕ
constant_count named None = Some 1
constant_count named (Some e) = count_of (value_of named e)

abbrev pub constant_type : Facts → Expr-F Expr → Option Ty
constant_type f (Expr-F.Int n) = Some ty.Integer
constant_type f (Expr-F.Truth b) = Some ty.Logical
constant_type f (Expr-F.Scalar name) = type_of f name
constant_type f _ = None

-- ---- runs behind each other

abbrev pub none : Runs
none = record { runs = []; all = true }

-- a run more, unless one before it hides it
abbrev pub added : Option ℕ → Option Ty → Runs → Runs
added (Some n) t rest = record { runs = record { count = n; ty = t } ∷ rest.runs; all = rest.all }
added None t rest = record { runs = record { count = 1; ty = t } ∷ []; all = false }

abbrev pub item_runs : Facts → Told Measured → List Expr → Runs
item_runs f measures [] = none
item_runs f measures (e ∷ es) = added (item_count measures (out-Expr e)) (item_type f (out-Expr e)) (item_runs f measures es)

abbrev pub constant_runs : Facts → Told Value → List DataConst → Runs
constant_runs f named [] = none
constant_runs f named (c ∷ cs) = added (constant_count named c.repeat) (constant_type f (out-Expr c.value)) (constant_runs f named cs)

-- ---- one by one

abbrev pub all_of : Run → List (Option Ty)
all_of run = replicate run.count run.ty

-- the types, one for each element or constant
abbrev pub types : List Run → List (Option Ty)
types runs = flat_map all_of runs

abbrev pub clash : Option Ty → Option Ty → Bool
clash (Some ty.Integer) (Some ty.Logical) = true
clash (Some ty.Logical) (Some ty.Integer) = true
clash _ _ = false

-- Two that go together have different types, or where all are known there are more of one kind.
abbrev pub unlike : Bool → List (Option Ty) → List (Option Ty) → Bool
unlike all xs ys = list_any (λ pair. clash pair.0 pair.1) (zip xs ys) || (all && not (length xs == length ys))

abbrev pub differ : Runs → Runs → Bool
differ items constants = unlike (items.all && constants.all) (types items.runs) (types constants.runs)
