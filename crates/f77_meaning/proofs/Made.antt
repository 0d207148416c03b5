-- The procedures of units, as they are made.
use Rattle.std.proofs.Common.{◌≡◌, ℕ, suc, ◌+◌, ◌<◌, List, [], ◌∷◌, ◌++◌, Bool, length, map, take, get_or, refl, sym, ap, ◌∙◌, subst}
use Rattle.std.proofs.lemmas.List.{map_more}
use Rattle.f77_tree.specs.declared.unit.Stmt.{Stmt}
use Rattle.f77_tree.specs.declared.unit.Unit.{Unit as SourceUnit}
use Rattle.f77_names.specs.declared.facts.Facts.{Facts}
use Rattle.f77_values.specs.Tables.{Name}
use Rattle.f77_names.specs.Occurrences.{in_statement}
use Rattle.f77_store.specs.Layouts.{callees_with, layout_of}
use Rattle.f77_names.specs.Roles.{facts}
use Rattle.f77_flow.specs.Blocks as blocks
use Rattle.interp_cells.specs.Rows.{is_marked}
use Rattle.f77_semantics.specs.Program.{Routine}
use Rattle.f77_semantics.specs.Terms.{Meant}
use Rattle.f77_semantics.specs.Resolve.{statements_from}
use Rattle.f77_semantics.specs.Source.{is_main, meant_in, routine}
use Rattle.f77_semantics.specs.Units.{is_kept}
use Rattle.interp_turns.specs.Flows.{Follows}
use Rattle.interp_lower.specs.Routines.{dummy_of}
use Rattle.interp_lower.specs.Units.{StandsFor}
use Rattle.interp_calls.specs.declared.procedure.Procedure.{Procedure}
use Rattle.interp_calls.specs.Procedures.{IsUnit, AreUnits}
use Rattle.f77_meaning.specs.Marks.{is_dimensioned}
use Rattle.f77_meaning.proofs.Marking.{dimensioned_is}

statement_each : (meant : Name → Meant) (f : Facts) (main : Bool) (all : List Stmt) (k s : ℕ) (sts : List Stmt) → length (statements_from meant f main all k s sts) ≡ length sts
statement_each meant f main all k s [] = refl
statement_each meant f main all k s (st ∷ sts) = ap suc (statement_each meant f main all (suc k) (s + length (callees_with f (in_statement st))) sts)

pub lines_are : (u : SourceUnit) → length (routine u).statements ≡ length u.statements
lines_are u = statement_each (meant_in (facts u) (layout_of u).slots) (facts u) (is_main u.kind) u.statements 0 1 u.statements

pub flows : (u : SourceUnit) (statements : List Stmt) → statements ≡ u.statements → Follows (routine u) statements
flows u statements e = subst (λ (s : List Stmt). Follows (routine u) s) (sym e) (record { below = λ k. refl; after = λ k. refl; leaving = λ d. refl })

pub one_more : (find : Name → ℕ) (ps : List Procedure) (us : List Routine) (p : Procedure) (u : Routine) → AreUnits find ps us → IsUnit find p u → AreUnits find (ps ++ p ∷ []) (us ++ u ∷ [])
one_more find [] [] p u are is = (is, tt)
one_more find [] (v ∷ us) p u are is = elim are [ ]
one_more find (q ∷ ps) [] p u are is = elim are [ ]
one_more find (q ∷ ps) (v ∷ us) p u are is = (are.0, one_more find ps us p u are.1 is)

pub made_more : (find : Name → ℕ) (units : List SourceUnit) (i : ℕ) (u : SourceUnit) (ps qs : List Procedure) (p : Procedure) → i < length units → u ≡ get_or units i u → qs ≡ ps ++ p ∷ [] → AreUnits find ps (map routine (take i units)) → IsUnit find p (routine u) → AreUnits find qs (map routine (take (i + 1) units))
made_more find units i u ps qs p l e pushed are is =
    let more : map routine (take (i + 1) units) ≡ map routine (take i units) ++ routine u ∷ [] =
    map_more routine units i u l ∙ ap (λ (v : SourceUnit). map routine (take i units) ++ routine v ∷ []) (sym e) in
    subst (λ (us : List Routine). AreUnits find qs us) (sym more)
    (subst (λ (rs : List Procedure). AreUnits find rs (map routine (take i units) ++ routine u ∷ [])) (sym pushed) (one_more find ps (map routine (take i units)) p (routine u) are is))

-- a procedure by its parts
pub is_unit : (find : Name → ℕ) (p : Procedure) (u : Routine) → StandsFor p.routine u → Follows u p.control.statements.now → u.first ≡ blocks.first p.control.statements.now → length u.statements ≡ length p.control.statements.now
    → ((k : ℕ) → is_marked p.kept.items k ≡ is_kept p.routine.cells.kept k) → ((j : ℕ) → is_marked p.arrays.items j ≡ is_dimensioned (map dummy_of p.routine.dummy_arrays) j) → p.own ≡ find p.routine.name → p.callees.items ≡ map find p.routine.callees → IsUnit find p u
is_unit find p u stands follows first lines kept arrays own callees = record {
  stands = stands;
  follows = follows;
  first = first;
  lines = lines;
  kept = λ k. kept k ∙ ap (λ ks. is_kept ks k) stands.kept;
  arrays = λ j. arrays j ∙ (ap (λ as_. is_dimensioned as_ j) stands.dummy_arrays ∙ dimensioned_is u.dummy_arrays j);
  own = own ∙ ap find stands.name;
  callees = callees ∙ ap (map find) stands.callees;
}
