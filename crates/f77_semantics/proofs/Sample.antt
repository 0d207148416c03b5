-- The premises of the law that nothing is stuck are met by a program with an array, a call, a function and a power.
use Rattle.std.proofs.Common.{◌≡◌, ◌⊎◌, ℕ, zero, suc, ◌<◌, [], ◌∷◌, Bool, true, false, cond, None, Some, pos, inl, inr, refl, arith}
use Rattle.f77_tree.specs.declared.expr.Op.TheVariants.{Pow, Add}
use Rattle.f77_tree.specs.declared.unit.Ty.TheVariants as types
use Rattle.f77_values.specs.Tables.{Name, name_eq}
use Rattle.f77_semantics.specs.Program.{Dummy, Own, Array, Terms, Element, Reference, Binary, End, ◌and◌, Assign, Call, Return, Stop, Print, Routine}
use Rattle.f77_semantics.specs.Statements.{statement}
use Rattle.f77_semantics.specs.Units.{Program, named, callee}
use Rattle.f77_semantics.specs.Effects.{Items, Effects, HasSite, StatementOk, InnerOk, UnitOk, ProgramOk, type_of_result}
use Rattle.f77_semantics.proofs.Examples.{int, i, var, array, main, sub, unit}

abbrev function : Name
function = 70 ∷ []

abbrev k2 : Array
k2 = array (Own 1) 2 2

-- INTEGER K(2); CALL S(I, K(2)); PRINT *, K(I) + F(I ** 2); END
abbrev main_actuals : Terms
main_actuals = var i and Element types.Integer k2 (int 2 and End) and End

abbrev function_actuals : Terms
function_actuals = Binary Pow (var i) (int 2) and End

abbrev main_unit : Routine
main_unit = unit main (Call 1 main_actuals ∷ Print (Binary Add (Element types.Integer k2 (var i and End)) (Reference 2 function_actuals) and End) ∷ Stop ∷ []) (sub ∷ function ∷ [])

-- SUBROUTINE S(M, N); M = 1; N = M; END
abbrev sub_unit : Routine
sub_unit = unit sub (Assign (var (Dummy 0)) (int 1) ∷ Assign (var (Dummy 1)) (var (Dummy 0)) ∷ Return ∷ []) []

-- INTEGER FUNCTION F(M); F = M; END
abbrev function_unit : Routine
function_unit = record (unit function (Assign (var i) (var (Dummy 0)) ∷ Return ∷ []) []) { result = Some (types.Integer, i) }

abbrev by_name : {A : Type 0} → A → A → A → Name → A
by_name m s f q = cond (name_eq main q) m (cond (name_eq sub q) s (cond (name_eq function q) f m))

every : Items
every x = true

abbrev main_effects : Effects
main_effects = record { used = every; assigned = every; sites = 2; actuals = λ s. elim s [ suc (suc zero) ↦ function_actuals | _ ↦ main_actuals ]; type_of = λ s. elim s [ suc (suc zero) ↦ Some types.Integer | _ ↦ None ]; arrays = []; returns = false }

abbrev leaf_effects : Effects
leaf_effects = record { used = every; assigned = every; sites = 0; actuals = λ s. End; type_of = λ s. None; arrays = []; returns = true }

abbrev effects : Name → Effects
effects = by_name main_effects leaf_effects leaf_effects

abbrev rank : Name → ℕ
rank = by_name 1 0 0

main_ok : UnitOk main_unit main_effects
unfolding every
main_ok = record { arrays = refl; first = tt; each = each; inner = inner; entry = tt }
  where
    each : (k : ℕ) → StatementOk main_unit main_effects k (statement main_unit k)
    each zero = ((omega arith, omega arith), refl, (tt, (record { extents = record { lower = pos 1; size = 2 } ∷ []; are = refl; fits = omega arith }, (refl, tt), tt)), tt)
    each (suc zero) = (((types.Integer, (refl, (refl, record { extents = record { lower = pos 1; size = 2 } ∷ []; are = refl; fits = omega arith }, (λ k lt. refl), ((refl, tt, (λ k lt. refl)), tt)), (refl, (omega arith, omega arith), refl, ((types.Integer, (refl, (refl, tt, (λ k lt. refl)), refl, (2, refl, omega arith))), tt)), tt)), tt), tt)
    each (suc (suc zero)) = tt
    each (suc (suc (suc k))) = tt

    inner : (k : ℕ) → InnerOk main_unit main_effects k (statement main_unit k)
    inner zero = tt
    inner (suc zero) = tt
    inner (suc (suc zero)) = tt
    inner (suc (suc (suc k))) = tt

sub_ok : UnitOk sub_unit leaf_effects
unfolding every
sub_ok = record { arrays = refl; first = tt; each = each; inner = inner; entry = tt }
  where
    each : (k : ℕ) → StatementOk sub_unit leaf_effects k (statement sub_unit k)
    each zero = ((refl, refl), (types.Integer, refl), tt)
    each (suc zero) = ((refl, refl), (types.Integer, (refl, refl, refl)), tt)
    each (suc (suc zero)) = (refl, tt)
    each (suc (suc (suc k))) = tt

    inner : (k : ℕ) → InnerOk sub_unit leaf_effects k (statement sub_unit k)
    inner zero = tt
    inner (suc zero) = tt
    inner (suc (suc zero)) = tt
    inner (suc (suc (suc k))) = tt

function_ok : UnitOk function_unit leaf_effects
unfolding every
function_ok = record { arrays = refl; first = tt; each = each; inner = inner; entry = tt }
  where
    each : (k : ℕ) → StatementOk function_unit leaf_effects k (statement function_unit k)
    each zero = ((tt, (λ k lt. refl)), (types.Integer, (refl, refl, refl)), tt)
    each (suc zero) = (refl, (tt, (λ k lt. refl)))
    each (suc (suc k)) = tt

    inner : (k : ℕ) → InnerOk function_unit leaf_effects k (statement function_unit k)
    inner zero = tt
    inner (suc zero) = tt
    inner (suc (suc k)) = tt

abbrev units : Program
units = named (main_unit ∷ sub_unit ∷ function_unit ∷ []) main_unit

-- what holds of the three units holds of each name's
at_each : (P : Routine → Effects → ℕ → Type 0) → P main_unit main_effects 1 → P sub_unit leaf_effects 0 → P function_unit leaf_effects 0 → (q : Name) → P (units q) (effects q) (rank q)
at_each P m s f q = go (name_eq main q) (name_eq sub q) (name_eq function q)
  where
    go : (a b c : Bool) → P (cond a main_unit (cond b sub_unit (cond c function_unit main_unit))) (cond a main_effects (cond b leaf_effects (cond c leaf_effects main_effects))) (cond a 1 (cond b 0 (cond c 0 1)))
    go true b c = m
    go false true c = s
    go false false true = f
    go false false false = m

abbrev SiteAt : Routine → Effects → ℕ → ℕ → Type 0
SiteAt u e r s = (rank (callee u s) < r) × ((e.type_of s ≡ None) ⊎ (type_of_result (units (callee u s)).result ≡ e.type_of s))

abbrev Sites : Routine → Effects → ℕ → Type 0
Sites u e r = (s : ℕ) → HasSite e s → SiteAt u e r s

main_sites : Sites main_unit main_effects 1
main_sites zero h = absurd (omega (arith, h.0))
main_sites (suc zero) h = (omega arith, inl refl)
main_sites (suc (suc zero)) h = (omega arith, inr refl)
main_sites (suc (suc (suc s))) h = absurd (omega (arith, h.1))

leaf_sites : (u : Routine) → Sites u leaf_effects 0
leaf_sites u s h = absurd (omega (arith, h.0, h.1))

sample_ok : ProgramOk units effects rank
sample_ok = record { each = at_each (λ u e r. UnitOk u e) main_ok sub_ok function_ok; sites = λ q s h. let o : SiteAt (units q) (effects q) (rank q) s = at_each Sites main_sites (leaf_sites sub_unit) (leaf_sites function_unit) q s h in record { below = o.0; typed = o.1 } }
