-- The statements of a unit, each with those behind it, gone through from the first on.
use Rattle.std.proofs.Common.{◌≡◌, ℕ, zero, suc, ◌+◌, ◌<◌, ◌≤◌, ◌==◌, Bool, true, false, List, [], ◌∷◌, ◌++◌, length, take, drop, get_or, Some, None, refl, sym, ap, ◌∙◌, subst, arith, length-drop}
use Rattle.std.specs.List.{All, AllZip}
use Rattle.std.proofs.lemmas.List.Elements.{All-nil, All-push}
use Rattle.std.specs.Prelude.{IfSome}
use Rattle.std.specs.declared.option.Option.{Option}
use Rattle.std.proofs.Math.Seq.{split_at}
use Rattle.std.proofs.lemmas.Bool.Decides.{nat_tests}
use Rattle.f77_tree.specs.declared.fault.SourceFault.{SourceFault}
use Rattle.fixed_form.specs.declared.reader.Line.{Line}
use Rattle.fixed_form.specs.declared.reader.UnitText.{UnitText}
use Rattle.f77_parse.specs.Shown.{IsLast}
use Rattle.thin_form.specs.declared.statement.Statement.{Statement}
use Rattle.thin_form.specs.Lacks.{Lacks}
use Rattle.thin_form.specs.Programs.{IsPlainOrEnd}
use Rattle.thin_form.proofs.Zips.{zip_more, zip_whole}
use Rattle.thin_text.specs.Thin.{Standing, standing, IsThinLine, fault_at}
use Rattle.thin_text.specs.Progress.{IsUnitFault, KnowsLine}

standing_length : (lines : List Line) → length (standing lines) ≡ length lines
standing_length [] = refl
standing_length (line ∷ lines) = ap suc (standing_length lines)

abbrev standing_at : List Line → ℕ → Line → Standing
standing_at lines k line = record { line = line; behind = drop (suc k) lines }

standing_is : (lines : List Line) (k : ℕ) (line : Line) (d : Standing) → k < length lines → line ≡ get_or lines k line → standing_at lines k line ≡ get_or (standing lines) k d
standing_is [] k line d l h = absurd (omega arith)
standing_is (x ∷ lines) zero line d l h = ap (λ y. record { line = y; behind = lines }) h
standing_is (x ∷ lines) (suc k) line d l h = standing_is lines k line d (omega arith) h

none_left : (lines : List Line) (k : ℕ) → length lines ≤ k → drop k lines ≡ []
none_left [] zero l = refl
none_left [] (suc k) l = refl
none_left (x ∷ lines) zero l = absurd (omega arith)
none_left (x ∷ lines) (suc k) l = none_left lines k (omega arith)

-- The last statement is the one with none behind it.
last_is : (lines : List Line) (k : ℕ) (last : Bool) → k < length lines → last ≡ (k + 1 == length lines) → IsLast last (drop (suc k) lines)
last_is lines k true l e = let s : k + 1 ≡ length lines = grind (arith, nat_tests) in none_left lines (suc k) (omega (arith, s))
last_is lines k false l e = λ h. let d = length-drop (suc k) lines in let z = ap length h in let n : k + 1 ≡ length lines = omega (arith, d, z, l) in absurd (grind (arith, nat_tests))

thin_more : (lines : List Line) (k : ℕ) (line : Line) (body : List Statement) (statement : Statement) → k < length lines → line ≡ get_or lines k line → AllZip IsThinLine (take k (standing lines)) body →
    IsThinLine (standing_at lines k line) statement → AllZip IsThinLine (take (k + 1) (standing lines)) (body ++ statement ∷ [])
thin_more lines k line body statement l h all thin =
    let n = standing_length lines in
    zip_more IsThinLine (standing lines) k (standing_at lines k line) body statement (omega (arith, n, l)) (standing_is lines k line (standing_at lines k line) l h) all thin

thin_whole : (lines : List Line) (k : ℕ) (body : List Statement) → length lines ≤ k → AllZip IsThinLine (take k (standing lines)) body → AllZip IsThinLine (standing lines) body
thin_whole lines k body l all = let n = standing_length lines in zip_whole IsThinLine (standing lines) k body (omega (arith, n, l)) all

breaks_at : (fault : SourceFault) (unit : UnitText) (k : ℕ) (line : Line) (body : List Statement) → k < length unit.statements → line ≡ get_or unit.statements k line → AllZip IsThinLine (take k (standing unit.statements)) body →
    Lacks (IsThinLine (standing_at unit.statements k line)) → fault ≡ fault_at unit.name line → IsUnitFault fault unit
breaks_at fault unit k line body l h all none told =
    let n = standing_length unit.statements in
    let at = standing_at unit.statements k line in
    record {
      before = take k (standing unit.statements);
      first = at;
      after = drop (suc k) (standing unit.statements);
      cut = split_at (standing unit.statements) k at (omega (arith, n, l)) ∙ ap (λ s. take k (standing unit.statements) ++ s ∷ drop (suc k) (standing unit.statements)) (sym (standing_is unit.statements k line at l h));
      body = body;
      thin = all;
      not = none;
      told = told;
    }

-- ---- statements so far

pub record Gone (lines : List Line) (k : ℕ) (body : List Statement) : Type 0 where
  pub thin : AllZip IsThinLine (take k (standing lines)) body
  pub plain : All IsPlainOrEnd body

pub gone_start : (lines : List Line) (body : List Statement) → body ≡ [] → Gone lines 0 body
gone_start lines body e = subst (Gone lines 0) (sym e) (record { thin = tt; plain = All-nil IsPlainOrEnd })

known_some : (at : Standing) (found : Option Statement) (s : Statement) → found ≡ Some s → KnowsLine at found → IsThinLine at s
known_some at None s e h = absurd (cc)
known_some at (Some t) s e h = let is : t ≡ s = cc in subst (IsThinLine at) is h

known_none : (at : Standing) (found : Option Statement) → found ≡ None → KnowsLine at found → Lacks (IsThinLine at)
known_none at None e h = h
known_none at (Some t) e h = absurd (cc)

plain_some : (found : Option Statement) (s : Statement) → found ≡ Some s → IfSome found IsPlainOrEnd → IsPlainOrEnd s
plain_some None s e h = absurd (cc)
plain_some (Some t) s e h = let is : t ≡ s = cc in subst IsPlainOrEnd is h

-- what is known of the statement at an index
abbrev Knows : List Line → ℕ → Line → Option Statement → Type 0
Knows lines k line found = (behind : List Line) → IsLast (k + 1 == length lines) behind → KnowsLine (record { line = line; behind = behind }) found

pub gone_more : (lines : List Line) (k : ℕ) (line : Line) (body next : List Statement) (found : Option Statement) (s : Statement) → k < length lines → line ≡ get_or lines k line → Gone lines k body →
    Knows lines k line found → IfSome found IsPlainOrEnd → found ≡ Some s → next ≡ body ++ s ∷ [] → Gone lines (k + 1) next
gone_more lines k line body next found s l h gone knows plain e is =
    let thin = known_some (standing_at lines k line) found s e (knows (drop (suc k) lines) (last_is lines k (k + 1 == length lines) l refl)) in
    subst (Gone lines (k + 1)) (sym is) (record { thin = thin_more lines k line body s l h gone.thin thin; plain = All-push IsPlainOrEnd body s gone.plain (plain_some found s e plain) })

pub broken : (fault : SourceFault) (unit : UnitText) (lines : List Line) → lines ≡ unit.statements → (k : ℕ) (line : Line) (body : List Statement) (found : Option Statement) → k < length lines → line ≡ get_or lines k line → Gone lines k body →
    Knows lines k line found → found ≡ None → fault ≡ fault_at unit.name line → IsUnitFault fault unit
broken fault unit lines same k line body found l h gone knows e told =
    let none = known_none (standing_at lines k line) found e (knows (drop (suc k) lines) (last_is lines k (k + 1 == length lines) l refl)) in
    breaks_at fault unit k line body (subst (λ xs. k < length xs) same l) (subst (λ xs. line ≡ get_or xs k line) same h) (subst (λ xs. AllZip IsThinLine (take k (standing xs)) body) same gone.thin)
    (subst (λ xs. Lacks (IsThinLine (standing_at xs k line))) same none) told

pub gone_whole : (unit : UnitText) (lines : List Line) → lines ≡ unit.statements → (k : ℕ) (body : List Statement) → length lines ≤ k → Gone lines k body → AllZip IsThinLine (standing unit.statements) body
gone_whole unit lines same k body l gone = subst (λ xs. AllZip IsThinLine (standing xs) body) same (thin_whole lines k body l gone.thin)
