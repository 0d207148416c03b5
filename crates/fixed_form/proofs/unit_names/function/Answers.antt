use Rattle.std.proofs.Common.{refl, codes, []}
use Rattle.fixed_form.specs.UnitNames.{untyped, integer, logical, real, double_precision}
use Rattle.fixed_form.proofs.HeadNames.{function_any, function_by}
use Rattle.fixed_form.proofs.unit_names.function.Goals as goal

pub returns-in-Some : goal.returns-in-Some
returns-in-Some c = function_by [] (untyped refl) (rw c.as_slice.ensures at (c.in-Some.ensures {u = tt}))

pub returns-in-Some-function_after : goal.returns-in-Some-function_after
returns-in-Some-function_after c = function_by (codes "INTEGER") (integer refl) (rw c.as_slice-2.ensures at (c.in-Some-function_after.ensures {u = tt}))

pub returns-in-Some-function_after-2 : goal.returns-in-Some-function_after-2
returns-in-Some-function_after-2 c = function_by (codes "LOGICAL") (logical refl) (rw c.as_slice-3.ensures at (c.in-Some-function_after-2.ensures {u = tt}))

pub returns-in-Some-function_after-3 : goal.returns-in-Some-function_after-3
returns-in-Some-function_after-3 c = function_by (codes "REAL") (real refl) (rw c.as_slice-4.ensures at (c.in-Some-function_after-3.ensures {u = tt}))

pub returns-in-Some-function_after-4 : goal.returns-in-Some-function_after-4
returns-in-Some-function_after-4 c = function_by (codes "DOUBLEPRECISION") (double_precision refl) (rw c.as_slice-5.ensures at (c.in-Some-function_after-4.ensures {u = tt}))

pub returns : goal.returns
returns c =
    function_any c.function_after-6.result (rw c.as_slice.ensures at (c.in_default.ensures {u = tt})) (rw c.as_slice-2.ensures at (c.in_default-function_after.ensures {u = tt}))
    (rw c.as_slice-3.ensures at (c.in_default-function_after-2.ensures {u = tt})) (rw c.as_slice-4.ensures at (c.in_default-function_after-3.ensures {u = tt}))
    (rw c.as_slice-5.ensures at (c.in_default-function_after-4.ensures {u = tt})) (rw c.as_slice-6.ensures at c.function_after-6.ensures)
