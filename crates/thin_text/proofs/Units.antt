-- Thin statements of units, in their places.
use Rattle.std.proofs.Common.{◌≡◌, ℕ, suc, true, false, List, [], ◌∷◌, ◌++◌, map, length, length-append, sym, ap, ◌∙◌, refl, subst, rules, arith, append_assoc}
use Rattle.std.specs.Prelude.{codes}
use Rattle.std.specs.List.{All, AllZip}
use Rattle.std.proofs.lemmas.List.{map-append}
use Rattle.std.proofs.lemmas.List.Elements.{All-nil, All-cons}
use Rattle.f77_tree.specs.declared.fault.SourceFault.{SourceFault}
use Rattle.f77_tree.specs.declared.form.Form.{Form, the_lemmas}
use Rattle.f77_tree.specs.declared.form.Form.TheVariants as form
use Rattle.fixed_form.specs.declared.reader.Line.{Line}
use Rattle.fixed_form.specs.declared.reader.UnitText.{UnitText}
use Rattle.f77_forms.specs.Forms.{HasForm}
use Rattle.f77_parse.specs.Statements.{EndsUnit}
use Rattle.thin_form.specs.declared.statement.Statement.{Statement}
use Rattle.thin_form.specs.declared.statement.Statement.TheVariants.{Assign, Print, End}
use Rattle.thin_form.specs.Forms.{IsStatementOf, assign, print, end}
use Rattle.thin_form.specs.Programs.{IsPlain, IsPlainOrEnd, IsProgram}
use Rattle.thin_text.specs.Thin.{Standing, standing, IsThinLine, Placed, placed_from, IsThinPlaced, IsThinFault}
use Rattle.thin_text.specs.Progress.{IsUnitFault, IsFirstFault}

-- ---- programs

-- a tree that is END makes END, and no other does
ends : (tree : Form) (s : Statement) → tree ≡ form.End → IsStatementOf tree s → s ≡ End
ends tree s e (assign target value f a) = let z : form.End ≡ form.Assign target value = sym e ∙ f in absurd (search (rules, the_lemmas))
ends tree s e (print trees items f i m) = let z : form.End ≡ form.Print trees = sym e ∙ f in absurd (search (rules, the_lemmas))
ends tree s e (end f m) = m

plain : (tree : Form) (s : Statement) → (tree ≡ form.End → ⊥) → IsStatementOf tree s → IsPlainOrEnd s → IsPlain s
plain tree (Assign target first more) no_end t p = p
plain tree (Print items) no_end t p = p
plain tree End no_end (assign target value f a) p = let z : End ≡ Assign a.name a.first a.more = a.made in absurd (cc)
plain tree End no_end (print trees items f i m) p = let z : End ≡ Print items = m in absurd (cc)
plain tree End no_end (end f m) p = absurd (no_end f)

-- the statements in front of END, and END
record Split (body : List Statement) : Type 0 where
  pub before : List Statement
  pub ends : body ≡ before ++ End ∷ []
  pub plain : All IsPlain before

all_head : {X : Type 0} (P : X → Type 0) (x : X) (xs : List X) → All P (x ∷ xs) → P x
all_head P x xs h = h 0 x (omega arith)

all_rest : {X : Type 0} (P : X → Type 0) (x : X) (xs : List X) → All P (x ∷ xs) → All P xs
all_rest P x xs h = λ k d l. h (suc k) d (omega arith)

never_empty : {X : Type 0} (xs : List X) (x : X) → xs ++ x ∷ [] ≡ [] → ⊥
never_empty xs x e = let l = ap length e in absurd (omega (arith, l, length-append xs (x ∷ [])))

split : ((f : Form) → HasForm (codes "END") f → f ≡ form.End) → (front : List Line) (last : Line) (body : List Statement) → last.text ≡ codes "END" →
    AllZip IsThinLine (standing (front ++ last ∷ [])) body → All IsPlainOrEnd body → Split body
split only [] last [] e z p = absurd z
split only [] last (s ∷ []) e z p =
    let h : HasForm (codes "END") z.0.form = subst (λ text. HasForm text z.0.form) e z.0.has.has in
    record { before = []; ends = ap (λ x. x ∷ []) (ends z.0.form s (only z.0.form h) z.0.thin); plain = All-nil IsPlain }
split only [] last (s ∷ t ∷ body) e z p = absurd z.1
split only (x ∷ front) last [] e z p = absurd z
split only (x ∷ front) last (s ∷ body) e z p =
    let rest = split only front last body e z.1 (all_rest IsPlainOrEnd s body p) in
    record {
      before = s ∷ rest.before;
      ends = ap (λ b. s ∷ b) rest.ends;
      plain = All-cons IsPlain s rest.before (plain z.0.form s (λ f. never_empty front last (z.0.has.ends f)) z.0.thin (all_head IsPlainOrEnd s body p)) rest.plain;
    }

pub program : ((f : Form) → HasForm (codes "END") f → f ≡ form.End) → (unit : UnitText) (body : List Statement) → EndsUnit unit → AllZip IsThinLine (standing unit.statements) body → All IsPlainOrEnd body → IsProgram body
program only unit body e z p =
    let s = split only e.front e.last body e.end (subst (λ xs. AllZip IsThinLine (standing xs) body) e.cut z) p in
    record { front = s.before; ends = s.ends; plain = s.plain }

-- ---- faults

abbrev opened : List ℕ → Standing → Placed
opened name s = record { unit = name; opening = true; at = s }

all_placed : (name : List ℕ) (before : List Standing) (body : List Statement) → AllZip IsThinLine before body → All IsThinPlaced (map (opened name) before)
all_placed name [] body z = All-nil IsThinPlaced
all_placed name (x ∷ before) [] z = absurd z
all_placed name (x ∷ before) (s ∷ body) z =
    All-cons IsThinPlaced (opened name x) (map (opened name) before) (record { opening = refl; statement = s; thin = z.0 }) (all_placed name before body z.1)

unit_fault : (fault : SourceFault) (unit : UnitText) (others : List UnitText) → IsUnitFault fault unit → IsThinFault fault (unit ∷ others)
unfolding placed_from
unit_fault fault unit others f = record {
  before = map (opened unit.name) f.before;
  first = opened unit.name f.first;
  after = map (opened unit.name) f.after ++ placed_from false others;
  cut = ap (λ xs. map (opened unit.name) xs ++ placed_from false others) f.cut ∙ (ap (λ xs. xs ++ placed_from false others) (map-append (opened unit.name) f.before (f.first ∷ f.after)) ∙ append_assoc (map (opened unit.name) f.before) (opened unit.name f.first ∷ map (opened unit.name) f.after) (placed_from false others));
  thin = all_placed unit.name f.before f.body f.thin;
  not = λ p. f.not.not p.statement p.thin;
  told = f.told;
}

pub first_fault : (fault : SourceFault) (units : List UnitText) (unit : UnitText) (others : List UnitText) → units ≡ unit ∷ others → IsUnitFault fault unit → IsThinFault fault units
first_fault fault units unit others cut h = subst (IsThinFault fault) (sym cut) (unit_fault fault unit others h)

next_fault : (fault : SourceFault) (unit next : UnitText) (others : List UnitText) (body : List Statement) → AllZip IsThinLine (standing unit.statements) body → IsFirstFault fault next → IsThinFault fault (unit ∷ next ∷ others)
unfolding placed_from
next_fault fault unit next others body z f = record {
  before = map (opened unit.name) (standing unit.statements);
  first = record { unit = next.name; opening = false; at = record { line = f.first; behind = f.behind } };
  after = map (λ s. record { unit = next.name; opening = false; at = s }) (standing f.behind) ++ placed_from false others;
  cut = ap (λ xs. map (opened unit.name) (standing unit.statements) ++ (map (λ s. record { unit = next.name; opening = false; at = s }) (standing xs) ++ placed_from false others)) f.cut;
  thin = all_placed unit.name (standing unit.statements) body z;
  not = λ p. let w : false ≡ true = p.opening in absurd (cc);
  told = f.told;
}

pub second_fault : (fault : SourceFault) (units : List UnitText) (unit next : UnitText) (others rest : List UnitText) (body : List Statement) → units ≡ unit ∷ others → others ≡ next ∷ rest →
    AllZip IsThinLine (standing unit.statements) body → IsFirstFault fault next → IsThinFault fault units
second_fault fault units unit next others rest body cut more z h = subst (IsThinFault fault) (sym (cut ∙ ap (λ us. unit ∷ us) more)) (next_fault fault unit next rest body z h)

-- a unit that ends has a statement
pub has_statement : (unit : UnitText) → EndsUnit unit → unit.statements ≡ [] → ⊥
has_statement unit e h = never_empty e.front e.last (sym e.cut ∙ h)

-- ---- lists

pub first_of : {X : Type 0} (P : X → Type 0) (xs : List X) (x : X) (rest : List X) → xs ≡ x ∷ rest → All P xs → P x
first_of P xs x rest cut h = all_head P x rest (subst (All P) cut h)

pub rest_of : {X : Type 0} (P : X → Type 0) (xs : List X) (x : X) (rest : List X) → xs ≡ x ∷ rest → All P xs → All P rest
rest_of P xs x rest cut h = all_rest P x rest (subst (All P) cut h)

pub alone : {X : Type 0} (xs : List X) (x : X) (rest : List X) → xs ≡ x ∷ rest → length rest ≡ 0 → xs ≡ x ∷ []
alone xs x [] cut none = cut
alone xs x (y ∷ rest) cut none = absurd (omega (arith, none))
