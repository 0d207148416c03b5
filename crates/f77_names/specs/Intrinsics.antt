-- The names of intrinsic functions (ANSI X3.9-1978, section 15.10), as far as they are on INTEGER.
use Rattle.std.specs.Prelude.{Bool, ◌||◌, Option, Some, None, if◌then◌else◌, codes}
use Rattle.std.specs.Str.{bytes_eq}
use Rattle.f77_names.specs.declared.intrinsics.Intrinsic.{Intrinsic}
use Rattle.f77_names.specs.declared.intrinsics.Intrinsic.TheVariants.{Abs, Mod, Sign, Dim, Max, Min}
use Rattle.f77_values.specs.Tables.{Name}

abbrev pub is_either : Name → Name → Name → Bool
is_either name one other = bytes_eq name one || bytes_eq name other

abbrev pub intrinsic_of : Name → Option Intrinsic
intrinsic_of name =
    if is_either name (codes "ABS") (codes "IABS") then Some Abs
    else (if bytes_eq name (codes "MOD") then Some Mod
    else (if is_either name (codes "SIGN") (codes "ISIGN") then Some Sign
    else (if is_either name (codes "DIM") (codes "IDIM") then Some Dim
    else (if is_either name (codes "MAX") (codes "MAX0") then Some Max
    else (if is_either name (codes "MIN") (codes "MIN0") then Some Min
    else None)))))
