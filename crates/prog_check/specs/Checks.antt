-- What a site, a COMMON block and a dummy may not be in a program (ANSI X3.9-1978, sections 8.3, 15.5, 15.6, 15.9 and 18.1).
use Rattle.std.specs.Prelude.{ℕ, List, [], ◌∷◌, Option, Some, None, Bool, true, false, not, ◌&&◌, ◌||◌, ◌==◌, is_some, length}
use Rattle.std.specs.List.{list_any, zip}
use Rattle.f77_tree.specs.declared.unit.Ty.{Ty}
use Rattle.f77_tree.specs.declared.unit.Ty.TheVariants.{Integer, Logical}
use Rattle.f77_tree.specs.declared.unit.UnitKind.{UnitKind}
use Rattle.f77_tree.specs.declared.unit.UnitKind.TheVariants as kind
use Rattle.prog_texts.specs.declared.mentions.Wanted.{Wanted}
use Rattle.prog_texts.specs.declared.mentions.Wanted.TheVariants.{Subroutine, Function}
use Rattle.prog_texts.specs.declared.mentions.Actual.{Actual}
use Rattle.prog_texts.specs.declared.mentions.Site.{Site as CallSite}
use Rattle.prog_texts.specs.declared.mentions.Mention.{Mention}
use Rattle.prog_texts.specs.declared.mentions.Mention.TheVariants.{Site, Block, DummyProcedure}
use Rattle.prog_texts.specs.declared.signatures.Dummy.{Dummy}
use Rattle.prog_texts.specs.declared.signatures.Shape.{Shape}
use Rattle.prog_texts.specs.declared.signatures.Shape.TheVariants as shape
use Rattle.prog_texts.specs.declared.signatures.Signature.{Signature}
use Rattle.prog_check.specs.declared.checks.Check.{Check}
use Rattle.prog_check.specs.declared.checks.Check.TheVariants as check
use Rattle.prog_texts.specs.Signatures.{Signatures, unit_of}

-- ---- types

abbrev pub is_other : Ty → Ty → Bool
is_other Integer Logical = true
is_other Logical Integer = true
is_other _ _ = false

-- What has no type differs from none.
abbrev pub differs : Option Ty → Option Ty → Bool
differs (Some a) (Some b) = is_other a b
differs _ _ = false

-- ---- actuals

-- A scalar takes no array, and an array takes an array or an element of one.
abbrev pub is_misshapen : Shape → Actual → Bool
is_misshapen shape.Scalar a = a.is_array
is_misshapen shape.Array a = not (a.is_array || a.is_element)
is_misshapen shape.Procedure a = false

-- The type of a name of EXTERNAL or INTRINSIC isn't compared.
abbrev pub is_mistyped : Dummy → Actual → Bool
is_mistyped d a = not a.is_procedure && differs d.ty a.ty

abbrev pub is_misfit : Dummy × Actual → Bool
is_misfit pair = is_mistyped pair.0 pair.1 || is_misshapen pair.0.shape pair.1

-- an actual that doesn't fit the dummy in its place
abbrev pub has_misfit : List Dummy → List Actual → Bool
has_misfit dummies actuals = list_any is_misfit (zip dummies actuals)

-- ---- callees

abbrev pub is_subroutine : UnitKind → Bool
is_subroutine kind.Subroutine = true
is_subroutine _ = false

abbrev pub is_function : UnitKind → Bool
is_function kind.Function = true
is_function _ = false

-- something other than what the site wants
abbrev pub is_wrong_callee : Wanted → Signature → Bool
is_wrong_callee Subroutine u = not (is_subroutine u.kind)
is_wrong_callee (Function ty) u = not (is_function u.kind) || differs u.result ty

abbrev pub miscounts : CallSite → Option Signature → Bool
miscounts s None = false
miscounts s (Some u) = not (length s.actuals == length u.dummies)

abbrev pub misfits : CallSite → Option Signature → Bool
misfits s None = false
misfits s (Some u) = has_misfit u.dummies s.actuals

abbrev pub misuses : CallSite → Option Signature → Bool
misuses s None = false
misuses s (Some u) = is_wrong_callee s.wanted u

abbrev pub passes_procedure : CallSite → Bool
passes_procedure s = list_any (λ a. a.is_procedure) s.actuals

-- ---- the faults of a site

abbrev pub site_shows : Check → Signatures → CallSite → Bool
site_shows check.BlockName all s = false
site_shows check.Callee all s = not (is_some (unit_of all s.callee))
site_shows check.Count all s = miscounts s (unit_of all s.callee)
site_shows check.Actual all s = misfits s (unit_of all s.callee)
site_shows check.Kind all s = misuses s (unit_of all s.callee)
site_shows check.Procedure all s = passes_procedure s

-- a unit and a COMMON block share a name
abbrev pub block_shows : Check → Signatures → List ℕ → Bool
block_shows check.BlockName all name = is_some (unit_of all name)
block_shows _ all name = false

abbrev pub dummy_shows : Check → Bool
dummy_shows check.Procedure = true
dummy_shows _ = false

abbrev pub shows : Check → Signatures → Mention → Bool
shows c all (Site s) = site_shows c all s
shows c all (Block name line) = block_shows c all name
shows c all (DummyProcedure line) = dummy_shows c

abbrev pub line_of : Mention → ℕ
line_of (Site s) = s.line
line_of (Block name line) = line
line_of (DummyProcedure line) = line

-- the number of the fault
abbrev pub number_of : Check → ℕ
number_of check.BlockName = 29
number_of check.Callee = 30
number_of check.Count = 31
number_of check.Actual = 32
number_of check.Kind = 33
number_of check.Procedure = 35
