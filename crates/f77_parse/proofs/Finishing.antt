-- All statements of a unit, from the first on.
use Rattle.std.proofs.Common.{◌≡◌, ℕ, zero, suc, ◌+◌, ◌<◌, ◌≤◌, Bool, true, false, List, [], ◌∷◌, ◌++◌, length, take, drop, get_or, Some, None, refl, sym, ap, ◌∙◌, subst, arith, length-append, drop-cons}
use Rattle.std.specs.List.{AllZip}
use Rattle.std.proofs.lemmas.List.{append-nil, take_more, take_all}
use Rattle.std.proofs.lemmas.List.Elements.{All-nil}
use Rattle.f77_tree.specs.Ends.{IsNoEnd, EndsOnce}
use Rattle.f77_tree.specs.declared.fault.Refused.{Refused}
use Rattle.f77_tree.specs.declared.fault.Refused.TheVariants.{Fault, OutOfMemory}
use Rattle.f77_tree.specs.declared.unit.Stmt.{Stmt}
use Rattle.f77_tree.specs.declared.unit.Unit.{Unit as SourceUnit}
use Rattle.f77_tree.specs.declared.unit.UnitKind.{UnitKind}
use Rattle.fixed_form.specs.declared.reader.Line.{Line}
use Rattle.fixed_form.specs.declared.reader.UnitText.{UnitText}
use Rattle.f77_forms.specs.Forms.{HasForm}
use Rattle.f77_parse.specs.declared.class.Class.{Class}
use Rattle.fault_marks.specs.declared.marks.Mark.{Mark}
use Rattle.f77_parse.specs.declared.unit.Progress.{Progress}
use Rattle.f77_parse.specs.Statements.{HasHead, EndsUnit}
use Rattle.f77_parse.specs.Order.{HasClass}
use Rattle.fault_marks.specs.Earliest.{Earliest}
use Rattle.f77_parse.specs.Limits.{CountTokens}
use Rattle.fault_marks.specs.Marks.{IsFirst}
use Rattle.f77_parse.specs.Parsed.{IsStatement, IsUnit, IsFaultless}
use Rattle.fault_marks.specs.Refusals.{RefusesMark}
use Rattle.f77_parse.specs.Progress.{Among, Clean, Stands}
use Rattle.f77_parse.specs.Shown.{IsLast}
use Rattle.f77_parse.specs.UnitFaults.{Shows, UnitShows, Explains}
use Rattle.fault_marks.proofs.Firsts.{mapped}
use Rattle.f77_parse.proofs.Endings.{end_form}

-- ---- the first and the next statement

never_empty : {A : Type 0} (front : List A) (x : A) (behind : List A) → [] ≡ front ++ x ∷ behind → ⊥
never_empty front x behind e = let l = ap length e in absurd (omega (arith, l, length-append front (x ∷ behind)))

no_class : (such : Class → Bool) → HasClass such [] → ⊥
no_class such h = never_empty h.front h.line h.behind h.cut

pub stands_start : (kind : UnitKind) (after : List Line) → Stands [] after (record { statements = []; context = record { kind = kind; first = true; declared = false; executed = false }; tokens = 0; fault = None })
stands_start kind after = record {
  knows = record { first = refl; declared = no_class _; executed = no_class _ };
  total = 0;
  counted = record { counts = []; each = tt; total = refl };
  tokens = refl;
  fault = λ m a. never_empty a.front a.line a.more a.cut;
  clean = λ none. record { parsed = tt; goes_on = λ more. All-nil IsNoEnd; closed = λ front last e. absurd (never_empty front last [] e); within = omega arith };
}

more_behind : (front : List Line) (last : Line) → front ++ last ∷ [] ≡ [] → ⊥
more_behind front last e = never_empty front last [] (sym e)

pub stands_more : (front : List Line) (last : Line) (i : ℕ) (x : Line) (p next : Progress) → i < length front → x ≡ get_or front i x → Stands (take i front) (drop i front ++ last ∷ []) p →
    ((before after : List Line) → IsLast false after → Stands before (x ∷ after) p → Stands (before ++ x ∷ []) after next) → Stands (take (i + 1) front) (drop (i + 1) front ++ last ∷ []) next
stands_more front last i x p next l e s step =
    let one : suc i ≡ i + 1 = omega arith in
    let rest : drop i front ≡ x ∷ drop (i + 1) front = drop-cons front i x l ∙ (ap (λ y. y ∷ drop (suc i) front) (sym e) ∙ ap (λ n. x ∷ drop n front) one) in
    let cut : take (i + 1) front ≡ take i front ++ x ∷ [] = take_more front i x l ∙ ap (λ y. take i front ++ y ∷ []) (sym e) in
    subst (λ b. Stands b (drop (i + 1) front ++ last ∷ []) next) (sym cut)
    (step (take i front) (drop (i + 1) front ++ last ∷ []) (more_behind (drop (i + 1) front) last) (subst (λ r. Stands (take i front) (r ++ last ∷ []) p) rest s))

drop_none : {A : Type 0} (i : ℕ) (xs : List A) → length xs ≤ i → drop i xs ≡ []
drop_none zero [] l = refl
drop_none zero (x ∷ xs) l = absurd (omega arith)
drop_none (suc i) [] l = refl
drop_none (suc i) (x ∷ xs) l = drop_none i xs (omega arith)

pub stands_last : (lines front : List Line) (last : Line) (i : ℕ) (p next : Progress) → lines ≡ front ++ last ∷ [] → length front ≤ i → Stands (take i front) (drop i front ++ last ∷ []) p →
    ((before after : List Line) → IsLast true after → Stands before (last ∷ after) p → Stands (before ++ last ∷ []) after next) → Stands lines [] next
stands_last lines front last i p next cut l s step =
    let none : drop i front ≡ [] = drop_none i front l in
    subst (λ ls. Stands ls [] next) (sym cut)
    (step front [] refl (subst (λ b. Stands b (last ∷ []) p) (take_all i front l) (subst (λ r. Stands (take i front) (r ++ last ∷ []) p) none s)))

-- ---- faults

unit_among : (u : UnitText) (kind : UnitKind) (names : List (List ℕ)) → HasHead u.statements kind names → (m : Mark) → Among kind u.statements [] m → UnitShows u m
unit_among u kind names head m a = record {
  kind = kind;
  names = names;
  head = head;
  before = a.front;
  line = a.line;
  behind = a.more;
  cut = a.cut;
  shows = subst (λ b. Shows kind a.front a.line b m) (append-nil a.more) a.shows;
}

among_unit : (u : UnitText) (kind : UnitKind) → ((k : UnitKind) (names : List (List ℕ)) → HasHead u.statements k names → k ≡ kind) → (m : Mark) → UnitShows u m → Among kind u.statements [] m
among_unit u kind only m s = record {
  front = s.before;
  line = s.line;
  more = s.behind;
  cut = s.cut;
  shows = subst (λ b. Shows kind s.before s.line b m) (sym (append-nil s.behind)) (subst (λ k. Shows k s.before s.line s.behind m) (only s.kind s.names s.head) s.shows);
}

pub earliest_of_unit : (u : UnitText) (kind : UnitKind) (names : List (List ℕ)) → HasHead u.statements kind names → ((k : UnitKind) (all : List (List ℕ)) → HasHead u.statements k all → k ≡ kind) → (p : Progress) → p.context.kind ≡ kind → Stands u.statements [] p → Earliest (UnitShows u) p.fault
earliest_of_unit u kind names head only p same s =
    mapped (Among kind u.statements []) (UnitShows u) p.fault (unit_among u kind names head) (among_unit u kind only) (subst (λ k. Earliest (Among k u.statements []) p.fault) same s.fault)

pub explains : (e : Refused) (u : UnitText) (mark : Mark) → RefusesMark e u.name mark → IsFirst (UnitShows u) mark → Explains e u
explains (Fault fault) u mark told first = record { mark = mark; first = first; told = told }
explains OutOfMemory u mark told first = tt

-- ---- the tree

zip_last : (front : List Line) (last : Line) (statements : List Stmt) → AllZip IsStatement (front ++ last ∷ []) statements → (before : List Stmt) × ((s : Stmt) × ((statements ≡ before ++ s ∷ []) × IsStatement last s))
zip_last [] last [] z = absurd z
zip_last [] last (s ∷ []) z = ([], (s, (refl, z.0)))
zip_last [] last (s ∷ t ∷ rest) z = absurd z.1
zip_last (x ∷ front) last [] z = absurd z
zip_last (x ∷ front) last (s ∷ statements) z = let h = zip_last front last statements z.1 in (s ∷ h.0, (h.1.0, (ap (λ xs. s ∷ xs) h.1.1.0, h.1.1.1)))

pub ends_once : (u : UnitText) (unit : SourceUnit) (total : ℕ) → EndsUnit u → Clean u.statements [] total unit.statements → EndsOnce unit
ends_once u unit total e c =
    let h = zip_last e.front e.last unit.statements (subst (λ ls. AllZip IsStatement ls unit.statements) e.cut c.parsed) in
    record { front = h.0; last = h.1.0; ends = h.1.1.0; end = end_form h.1.0.form (subst (λ t. HasForm t h.1.0.form) e.end h.1.1.1.form); before = c.closed h.0 h.1.0 h.1.1.0 }

-- ---- the end

-- all statements of a unit have been gone through
pub record Finished (u : UnitText) (kind : UnitKind) (names : List (List ℕ)) (p : Progress) : Type 0 where
  pub head : HasHead u.statements kind names
  pub only : (k : UnitKind) (all : List (List ℕ)) → HasHead u.statements k all → k ≡ kind
  pub same : p.context.kind ≡ kind
  pub stands : Stands u.statements [] p

pub finished : (u : UnitText) (lines front : List Line) (last : Line) (i : ℕ) (kind : UnitKind) (names : List (List ℕ)) (p next : Progress) → lines ≡ u.statements → lines ≡ front ++ last ∷ [] → length front ≤ i →
    HasHead lines kind names → ((k : UnitKind) (all : List (List ℕ)) → HasHead lines k all → k ≡ kind) → p.context.kind ≡ kind → next.context.kind ≡ p.context.kind → Stands (take i front) (drop i front ++ last ∷ []) p →
    ((before after : List Line) → IsLast true after → Stands before (last ∷ after) p → Stands (before ++ last ∷ []) after next) → Finished u kind names next
finished u lines front last i kind names p next same cut l head only k g s step = record {
  head = subst (λ ls. HasHead ls kind names) same head;
  only = λ m all h. only m all (subst (λ ls. HasHead ls m all) (sym same) h);
  same = g ∙ k;
  stands = subst (λ ls. Stands ls [] next) same (stands_last lines front last i p next cut l s step);
}

pub finished_fault : (e : Refused) (u : UnitText) (kind : UnitKind) (names : List (List ℕ)) (p : Progress) (mark : Mark) → Finished u kind names p → p.fault ≡ Some mark → RefusesMark e u.name mark → Explains e u
finished_fault e u kind names p mark f is told = explains e u mark told (subst (Earliest (UnitShows u)) is (earliest_of_unit u kind names f.head f.only p f.same f.stands))

pub finished_faultless : (u : UnitText) (kind : UnitKind) (names : List (List ℕ)) (p : Progress) → Finished u kind names p → p.fault ≡ None → IsFaultless u
finished_faultless u kind names p f is = record { none = subst (Earliest (UnitShows u)) is (earliest_of_unit u kind names f.head f.only p f.same f.stands) }

pub finished_few : (u : UnitText) (kind : UnitKind) (names : List (List ℕ)) (p : Progress) → Finished u kind names p → p.fault ≡ None → p.tokens ≤ 20000
finished_few u kind names p f is = let w = (f.stands.clean is).within in omega (arith, w, f.stands.tokens)

pub finished_unit : (u : UnitText) (kind : UnitKind) (names : List (List ℕ)) (p : Progress) (name : List ℕ) → Finished u kind names p → p.fault ≡ None → name ≡ u.name → IsUnit u (record { kind = kind; name = name; dummies = names; statements = p.statements; tokens = p.tokens })
finished_unit u kind names p name f is named =
    let w = (f.stands.clean is).within in
    let tokens : f.stands.total ≡ p.tokens = omega (arith, w, f.stands.tokens) in
    record { head = f.head; name = named; statements = (f.stands.clean is).parsed; tokens = subst (CountTokens u.statements) tokens f.stands.counted }

pub finished_ends : (u : UnitText) (kind : UnitKind) (names : List (List ℕ)) (p : Progress) (name : List ℕ) → EndsUnit u → Finished u kind names p → p.fault ≡ None → EndsOnce (record { kind = kind; name = name; dummies = names; statements = p.statements; tokens = p.tokens })
finished_ends u kind names p name e f is = ends_once u (record { kind = kind; name = name; dummies = names; statements = p.statements; tokens = p.tokens }) f.stands.total e (f.stands.clean is)
