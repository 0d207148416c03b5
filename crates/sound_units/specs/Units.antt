-- What a unit reads, writes and calls at most: everything of its own, and what its sites pass.
use Rattle.std.specs.Prelude.{ℕ, true, not, List, [], ◌∷◌, ◌++◌, Option, Some, None, length, replicate}
use Rattle.f77_tree.specs.declared.unit.Stmt.{Stmt}
use Rattle.f77_tree.specs.declared.unit.Ty.{Ty}
use Rattle.f77_tree.specs.declared.unit.Unit.{Unit as SourceUnit}
use Rattle.f77_names.specs.declared.facts.Facts.{Facts}
use Rattle.f77_values.specs.Tables.{Name}
use Rattle.f77_names.specs.Occurrences.{in_statement}
use Rattle.f77_names.specs.Roles.{facts, type_of}
use Rattle.f77_store.specs.Layouts.{slots, callees, callees_with}
use Rattle.f77_semantics.specs.Program.{Terms, End, Statement}
use Rattle.f77_semantics.specs.Terms.{Meant}
use Rattle.f77_semantics.specs.Effects.{Effects}
use Rattle.f77_semantics.specs.Source.{meant_in, is_main, routine}
use Rattle.sound_units.specs.Sites.{site_at, calls_of}

-- what the names of a unit stand for
abbrev pub meant_of : SourceUnit → Name → Meant
meant_of u = meant_in (facts u) (slots u)

-- A statement that is no statement of a run passes nothing at its sites.
abbrev pub filled : ℕ → List Terms → List Terms
filled n [] = replicate n End
filled n (es ∷ all) = es ∷ all

abbrev pub sites_in : Facts → Stmt → ℕ
sites_in f st = length (callees_with f (in_statement st))

-- what each site passes, statement by statement
abbrev pub passed_by : Facts → List Stmt → List Statement → List Terms
passed_by f [] ts = []
passed_by f (st ∷ sts) [] = []
passed_by f (st ∷ sts) (t ∷ ts) = filled (sites_in f st) (calls_of t) ++ passed_by f sts ts

abbrev pub passed : SourceUnit → List Terms
passed u = passed_by (facts u) u.statements (routine u).statements

abbrev pub actuals_at : Option Terms → Terms
actuals_at None = End
actuals_at (Some es) = es

-- the type that a site wants is that of the callee's name
abbrev pub type_at : Facts → Option Name → Option Ty
type_at f None = None
type_at f (Some name) = type_of f name

abbrev pub effects : SourceUnit → Effects
effects u = record {
  used = λ item. true;
  assigned = λ item. true;
  sites = length (callees u);
  actuals = λ s. actuals_at (site_at (passed u) s);
  type_of = λ s. type_at (facts u) (site_at (callees u) s);
  arrays = (routine u).dummy_arrays;
  returns = not (is_main u.kind);
}
