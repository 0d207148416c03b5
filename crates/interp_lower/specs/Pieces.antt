-- The steps of the parts of statements, under what the names of a unit stand for. A part's steps depend on the number of its first site.
use Rattle.std.specs.Prelude.{ℕ, ◌+◌, List, [], ◌∷◌, ◌++◌, Option, Some, None, pos, map}
use Rattle.f77_tree.specs.declared.expr.Expr.{Expr}
use Rattle.f77_tree.specs.declared.unit.Ty.{Ty}
use Rattle.f77_tree.specs.declared.unit.Value.TheVariants.{Integer}
use Rattle.f77_values.specs.Tables.{Name}
use Rattle.f77_semantics.specs.Program as program
use Rattle.f77_semantics.specs.Program.{End, ◌and◌}
use Rattle.f77_semantics.specs.Terms.{Meant, Constant, Variable, AnArray, resolved, applied, sites_of, sites_in, term_from, terms_of}
use Rattle.f77_semantics.specs.Resolve.{loop, term, sites, optional}
use Rattle.f77_semantics.specs.Source.{bound_of}
use Rattle.f77_semantics.specs.declared.storage.Array.{Array}
use Rattle.interp_code.specs.declared.step.Step.{Step}
use Rattle.interp_code.specs.declared.step.Step.TheVariants.{Aim, Fetch, Hold, Load, Locate, Number, Open, Pass, PassWhole, Push, Wrong}
use Rattle.interp_code.specs.Code.{code, codes, passes, aim, shows, reads}
use Rattle.interp_code.specs.Entries.{bounds_code}

-- ---- a name without a list

abbrev pub bare_step : Meant → Step
bare_step (Constant v) = Push v
bare_step (Variable ty b) = Fetch ty b
bare_step _ = Wrong

abbrev pub aim_step : Meant → Step
aim_step (Variable ty b) = Aim b
aim_step _ = Wrong

abbrev pub held_steps : (site position : ℕ) → Step → List Step
held_steps site position value = value ∷ Hold site position ∷ []

abbrev pub bare_actual_steps : (site position : ℕ) → Meant → List Step
bare_actual_steps site position (Variable ty b) = Pass b ∷ []
bare_actual_steps site position (AnArray ty a) = PassWhole a ∷ []
bare_actual_steps site position m = held_steps site position (bare_step m)

-- an element, behind its subscripts
abbrev pub element_steps : Ty → Array → List Step
element_steps ty a = Locate a ∷ Load ty ∷ []

module _ (meant : Name → Meant) where
  abbrev pub bare_steps : Name → List Step
  bare_steps name = bare_step (meant name) ∷ []

  abbrev pub bare_target_steps : Name → List Step
  bare_target_steps name = aim_step (meant name) ∷ []

  -- ---- sites

  unfoldable pub site_count : Expr → ℕ
  site_count e = sites_in (resolved meant e)

  unfoldable pub site_total : List Expr → ℕ
  site_total es = sites_of (map (resolved meant) es)

  unfoldable pub applied_sites : Meant → List Expr → ℕ
  applied_sites m es = sites_in (applied m (map (resolved meant) es))

  -- ---- values

  unfoldable pub value_steps : Expr → ℕ → List Step
  value_steps e s = code (term_from s (resolved meant e)) []

  unfoldable pub values_steps : List Expr → ℕ → List Step
  values_steps es s = codes (terms_of (map (resolved meant) es) s) []

  -- a name with a list, by what it stands for
  unfoldable pub applied_steps : Meant → List Expr → ℕ → List Step
  applied_steps m es s = code (term_from s (applied m (map (resolved meant) es))) []

  -- ---- actual arguments of a site

  unfoldable pub actual_steps : (site position : ℕ) → Expr → ℕ → List Step
  actual_steps site position e s = passes site position (term_from s (resolved meant e) and End) []

  unfoldable pub actuals_steps : (site position : ℕ) → List Expr → ℕ → List Step
  actuals_steps site position es s = passes site position (terms_of (map (resolved meant) es) s) []

  unfoldable pub listed_actual_steps : (site position : ℕ) → Meant → List Expr → ℕ → List Step
  listed_actual_steps site position m es s = passes site position (term_from s (applied m (map (resolved meant) es)) and End) []

  -- ---- targets, and items of PRINT and READ

  unfoldable pub target_steps : Expr → ℕ → List Step
  target_steps e s = aim (term_from s (resolved meant e)) []

  unfoldable pub listed_target_steps : Meant → List Expr → ℕ → List Step
  listed_target_steps m es s = aim (term_from s (applied m (map (resolved meant) es))) []

  unfoldable pub targets_steps : List Expr → ℕ → List Step
  targets_steps es s = reads (terms_of (map (resolved meant) es) s) []

  unfoldable pub item_steps : Expr → ℕ → List Step
  item_steps e s = shows (term_from s (resolved meant e) and End) []

  unfoldable pub items_steps : List Expr → ℕ → List Step
  items_steps es s = shows (terms_of (map (resolved meant) es) s) []

  -- ---- DO

  -- a number, which is 1 where there is none

  abbrev pub step_steps : Option Expr → ℕ → List Step
  step_steps None s = Push (Integer (pos 1)) ∷ []
  step_steps (Some e) s = value_steps e s ++ Number ∷ []

  -- the first and the last value, and the step, each a number
  abbrev pub loop_steps : (first last : Expr) → Option Expr → ℕ → List Step
  loop_steps first last step s = (value_steps first s ++ Number ∷ []) ++ ((value_steps last (s + site_count first) ++ Number ∷ []) ++ step_steps step (s + (site_count first + site_count last)))

  abbrev pub do_loop : Name → (first last : Expr) → Option Expr → ℕ → program.Statement
  do_loop name first last step s = loop (meant name) (term meant first s) (term meant last (s + sites meant first)) (optional meant step (s + (sites meant first + sites meant last)))

  -- ---- the bounds of dummy arrays

  -- A mark stands for `*`.
  abbrev pub upper_steps : Option Expr → List Step
  upper_steps None = Open ∷ []
  upper_steps (Some e) = value_steps e 1 ++ Number ∷ []

  abbrev pub bound_steps : Option Expr × Option Expr → List Step
  bound_steps bound = step_steps bound.0 1 ++ upper_steps bound.1

  unfoldable pub bounds_steps : List (Option Expr × Option Expr) → List Step
  bounds_steps bounds = bounds_code (map (bound_of meant) bounds)
