-- A program without READ doesn't depend on its input.
use Rattle.std.proofs.Common.{◌≡◌, ℕ, zero, suc, ◌+◌, List, [], ◌∷◌, length, Option, Some, None, Bool, true, false, cond, ◌||◌, if◌then◌else◌, ℤ, refl, sym, ap, ◌∙◌, map, slice_get}
use Rattle.std.specs.List.{list_any}
use Rattle.run_model.specs.Acts.{Spent, Ended, Undefined, Stuck, Outcome, Fine, Stop, Answer}
use Rattle.run_model.specs.Runs.{answer}
use Rattle.f77_tree.specs.declared.form.Form.{Form, out-Form}
use Rattle.f77_tree.specs.declared.form.Form.TheOpen.{Form-F}
use Rattle.f77_tree.specs.declared.unit.Stmt.{Stmt}
use Rattle.f77_tree.specs.declared.unit.Unit.{Unit as SourceUnit}
use Rattle.f77_names.specs.declared.facts.Facts.{Facts}
use Rattle.f77_values.specs.Tables.{Name, name_eq}
use Rattle.f77_store.specs.Layouts.{callees_with, layout_of}
use Rattle.f77_names.specs.Occurrences.{in_statement}
use Rattle.f77_names.specs.Roles as roles
use Rattle.f77_flow.specs.Labels.{target}
use Rattle.f77_semantics.specs.Program as program
use Rattle.f77_semantics.specs.Program.{Term, Statement, Routine}
use Rattle.f77_semantics.specs.Statements.{statement}
use Rattle.f77_semantics.specs.Terms.{Meant, Variable}
use Rattle.f77_semantics.specs.Resolve.{loop, term, sites, optional, simple, statement_of, statements_from}
use Rattle.f77_semantics.specs.Units.{named, fresh_world, running}
use Rattle.f77_semantics.specs.Source.{meant_in, is_main, main_of, routine, with_main, Source}
use Rattle.run_laws.specs.Laws.{is_read, has_read, unit_reads}
use Rattle.run_laws.proofs.Blind.{ReadsNot, alone, on, meaning_on}

-- ---- from trees to statements

-- what two flags together deny, each denies
neither : (a b : Bool) → (a || b) ≡ false → (a ≡ false) × (b ≡ false)
neither true b e = let z : true ≡ false = e in cc
neither false b e = (refl, e)

module _ (meant : Name → Meant) (main : Bool) where
  simple_reads_not : (to : ℕ → ℕ) (s : ℕ) (form : Form-F Form) → is_read form ≡ false → ReadsNot (simple meant main to s form)
  simple_reads_not to s (Form-F.Read es) e = let z : true ≡ false = e in cc
  simple_reads_not to s Form-F.End e = go main
    where
      go : (b : Bool) → ReadsNot (if b then program.Stop else program.Return)
      go true = tt
      go false = tt
  simple_reads_not to s form e = tt

  loop_reads_not : (m : Meant) (a b : Term) (c : Option Term) → ReadsNot (loop m a b c)
  loop_reads_not (Variable ty base) a b c = tt
  loop_reads_not m a b c = tt

  statement_reads_not : (all : List Stmt) (k s : ℕ) (form : Form-F Form) → has_read form ≡ false → ReadsNot (statement_of meant main all k s form)
  statement_reads_not all k s (Form-F.BlockIf e) r = tt
  statement_reads_not all k s (Form-F.ElseIf e) r = tt
  statement_reads_not all k s (Form-F.LogicalIf e i) r =
      let inner = simple meant main (target all) (s + sites meant e) (out-Form i) in
      alone inner (simple_reads_not (target all) (s + sites meant e) (out-Form i) r)
  statement_reads_not all k s (Form-F.Do label name a b c) r = loop_reads_not (meant name) (term meant a s) (term meant b (s + sites meant a)) (optional meant c (s + (sites meant a + sites meant b)))
  statement_reads_not all k s Form-F.EndIf r = tt
  statement_reads_not all k s form r = simple_reads_not (target all) s form r

  statements_read_not : (facts : Facts) (all : List Stmt) (k s : ℕ) (sts : List Stmt) → list_any (λ s. has_read (out-Form s.form)) sts ≡ false → (j : ℕ) → ReadsNot (elim (slice_get (statements_from meant facts main all k s sts) j) [ None ↦ program.NoStatement | Some t ↦ t ])
  statements_read_not facts all k s [] e j = tt
  statements_read_not facts all k s (st ∷ sts) e zero = statement_reads_not all k s (out-Form st.form) (neither (has_read (out-Form st.form)) _ e).0
  statements_read_not facts all k s (st ∷ sts) e (suc j) = statements_read_not facts all (suc k) (s + length (callees_with facts (in_statement st))) sts (neither (has_read (out-Form st.form)) _ e).1 j

routine_reads_not : (u : SourceUnit) → unit_reads u ≡ false → (k : ℕ) → ReadsNot (statement (routine u) k)
routine_reads_not u e k = statements_read_not (meant_in (roles.facts u) (layout_of u).slots) (is_main u.kind) (roles.facts u) u.statements 0 1 u.statements e k

abbrev Quiet : Routine → Type 0
Quiet r = (k : ℕ) → ReadsNot (statement r k)

named_reads_not : (units : List SourceUnit) (other : Routine) → list_any unit_reads units ≡ false → Quiet other → (q : Name) → Quiet (named (map routine units) other q)
named_reads_not [] other e o q = o
named_reads_not (u ∷ us) other e o q = go (name_eq u.name q) (named_reads_not us other (neither (unit_reads u) _ e).1 o q)
  where
    go : (b : Bool) → Quiet (named (map routine us) other q) → Quiet (cond b (routine u) (named (map routine us) other q))
    go true ih = routine_reads_not u (neither (unit_reads u) _ e).0
    go false ih = ih

-- The main program is one of the units.
main_reads_not : (units : List SourceUnit) (main : SourceUnit) → list_any unit_reads units ≡ false → main_of units ≡ Some main → unit_reads main ≡ false
main_reads_not [] main e is = let z : None ≡ Some main = is in cc
main_reads_not (u ∷ us) main e is = go (is_main u.kind) is (main_reads_not us main (neither (unit_reads u) _ e).1)
  where
    go : (b : Bool) → cond b (Some u) (main_of us) ≡ Some main → (main_of us ≡ Some main → unit_reads main ≡ false) → unit_reads main ≡ false
    go true is ih = let z : u ≡ main = cc in sym (ap unit_reads z) ∙ (neither (unit_reads u) (list_any unit_reads us) e).0
    go false is ih = ih is

-- ---- runs

answer_on : (input : List ℤ) (n : ℕ) (o : Outcome Answer) → answer n (on input o) ≡ answer n o
answer_on input n (Fine x v) = refl
answer_on input n (Stop Spent v) = refl
answer_on input n (Stop (Ended k) v) = refl
answer_on input n (Stop (Undefined c) v) = refl
answer_on input n (Stop Stuck v) = refl

running_alike : (us : List Routine) (main : Routine) → ((q : Name) → Quiet (named us main q)) → (a b : List ℤ) (n : ℕ) → running us main a n ≡ running us main b n
running_alike us main quiet a b n = sym (ap (answer n) (meaning_on b (named us main) quiet (length us) main.name [] (fresh_world us a n)) ∙ answer_on b n _)

pub source_alike : (units : List SourceUnit) → list_any unit_reads units ≡ false → (a b : List ℤ) (n : ℕ) → Source units a n ≡ Source units b n
source_alike units e a b n = go (main_of units) refl
  where
    go : (main : Option SourceUnit) → main_of units ≡ main → with_main (map routine units) main a n ≡ with_main (map routine units) main b n
    go None is = refl
    go (Some main) is = running_alike (map routine units) (routine main) (named_reads_not units (routine main) e (routine_reads_not main (main_reads_not units main e is))) a b n
