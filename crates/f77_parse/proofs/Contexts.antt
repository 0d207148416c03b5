-- The order of statements by the context of a statement.
use Rattle.std.proofs.Common.{◌≡◌, Bool, true, false, not, ◌||◌, ◌&&◌, List, [], ◌∷◌, ◌++◌, Some, None, refl, sym, ap, ◌∙◌, subst, ◌⊎◌, inl, inr, length, length-append, append_assoc, arith, rules}
use Rattle.std.specs.Bool.{MatchBool}
use Rattle.std.specs.declared.option.Option.{Option}
use Rattle.f77_tree.specs.declared.form.Form.{Form, the_lemmas}
use Rattle.f77_tree.specs.declared.form.Form.TheVariants as f
use Rattle.f77_tree.specs.declared.unit.UnitKind.{UnitKind}
use Rattle.f77_tree.specs.declared.unit.UnitKind.TheVariants as unit
use Rattle.fixed_form.specs.declared.reader.Line.{Line}
use Rattle.f77_forms.specs.Forms.{HasForm}
use Rattle.f77_parse.specs.declared.class.Class.{Class}
use Rattle.f77_parse.specs.declared.class.Class.TheVariants as class
use Rattle.f77_parse.specs.declared.context.Context.{Context}
use Rattle.f77_parse.specs.Statements.{class_of, has_return, HasFormAt}
use Rattle.f77_parse.specs.Order.{is_specification, bars_implicit, is_executable, bars_block_data, HasClass, BreaksOrder, late_head, late_implicit, late_specification, in_block_data, in_main}
use Rattle.f77_parse.specs.Context.{is_head, is_implicit, is_block_data, is_main, breaks_order, behind, Tells, Knows}
use Rattle.f77_parse.specs.Shown.{KnowsForm}
use Rattle.f77_parse.proofs.Deciding.{false_true, told, decides_not, decides_and, decides_or, decides}

-- ---- tests

head_told : (c : Class) → MatchBool (is_head c) (c ≡ class.Head) (c ≡ class.Head → ⊥)
head_told class.Head = refl
head_told class.Implicit = λ e. cc
head_told class.Parameter = λ e. cc
head_told class.Data = λ e. cc
head_told class.Procedures = λ e. cc
head_told class.Declaration = λ e. cc
head_told class.Executable = λ e. cc
head_told class.End = λ e. cc

implicit_told : (c : Class) → MatchBool (is_implicit c) (c ≡ class.Implicit) (c ≡ class.Implicit → ⊥)
implicit_told class.Head = λ e. cc
implicit_told class.Implicit = refl
implicit_told class.Parameter = λ e. cc
implicit_told class.Data = λ e. cc
implicit_told class.Procedures = λ e. cc
implicit_told class.Declaration = λ e. cc
implicit_told class.Executable = λ e. cc
implicit_told class.End = λ e. cc

block_told : (k : UnitKind) → MatchBool (is_block_data k) (k ≡ unit.BlockData) (k ≡ unit.BlockData → ⊥)
block_told unit.Main = λ e. cc
block_told unit.Subroutine = λ e. cc
block_told unit.Function = λ e. cc
block_told unit.BlockData = refl

main_told : (k : UnitKind) → MatchBool (is_main k) (k ≡ unit.Main) (k ≡ unit.Main → ⊥)
main_told unit.Main = refl
main_told unit.Subroutine = λ e. cc
main_told unit.Function = λ e. cc
main_told unit.BlockData = λ e. cc

-- ---- the order

abbrev Head : List Line → Form → Type 0
Head before form = (class_of form ≡ class.Head) × (before ≡ [] → ⊥)

abbrev Implicit : List Line → Form → Type 0
Implicit before form = (class_of form ≡ class.Implicit) × HasClass bars_implicit before

abbrev Specification : List Line → Form → Type 0
Specification before form = (is_specification (class_of form) ≡ true) × HasClass is_executable before

abbrev Block : UnitKind → Form → Type 0
Block kind form = (kind ≡ unit.BlockData) × (bars_block_data (class_of form) ≡ true)

abbrev Main : UnitKind → Form → Type 0
Main kind form = (kind ≡ unit.Main) × (has_return form ≡ true)

abbrev Broken : UnitKind → List Line → Form → Type 0
Broken kind before form = Head before form ⊎ (Implicit before form ⊎ (Specification before form ⊎ (Block kind form ⊎ Main kind form)))

broken : (kind : UnitKind) (before : List Line) (form : Form) → Broken kind before form → BreaksOrder kind before form
broken kind before form (inl h) = late_head h.0 h.1
broken kind before form (inr (inl h)) = late_implicit h.0 h.1
broken kind before form (inr (inr (inl h))) = late_specification h.0 h.1
broken kind before form (inr (inr (inr (inl h)))) = in_block_data h.0 h.1
broken kind before form (inr (inr (inr (inr h)))) = in_main h.0 h.1

breaks : (kind : UnitKind) (before : List Line) (form : Form) → BreaksOrder kind before form → Broken kind before form
breaks kind before form (late_head c n) = inl (c, n)
breaks kind before form (late_implicit c h) = inr (inl (c, h))
breaks kind before form (late_specification c h) = inr (inr (inl (c, h)))
breaks kind before form (in_block_data k b) = inr (inr (inr (inl (k, b))))
breaks kind before form (in_main k r) = inr (inr (inr (inr (k, r))))

pub order_told : (c : Context) (before : List Line) (form : Form) → Knows before c → MatchBool (breaks_order c form) (BreaksOrder c.kind before form) (BreaksOrder c.kind before form → ⊥)
order_told c before form k =
    let head = decides_and (is_head (class_of form)) (not c.first) (class_of form ≡ class.Head) (before ≡ [] → ⊥) (head_told (class_of form)) (decides_not c.first (before ≡ []) k.first) in
    let implicit = decides_and (is_implicit (class_of form)) c.declared (class_of form ≡ class.Implicit) (HasClass bars_implicit before) (implicit_told (class_of form)) k.declared in
    let specification = decides_and (is_specification (class_of form)) c.executed (is_specification (class_of form) ≡ true) (HasClass is_executable before) (told (is_specification (class_of form))) k.executed in
    let block = decides_and (is_block_data c.kind) (bars_block_data (class_of form)) (c.kind ≡ unit.BlockData) (bars_block_data (class_of form) ≡ true) (block_told c.kind) (told (bars_block_data (class_of form))) in
    let main = decides_and (is_main c.kind) (has_return form) (c.kind ≡ unit.Main) (has_return form ≡ true) (main_told c.kind) (told (has_return form)) in
    let fourth = decides_or (is_block_data c.kind && bars_block_data (class_of form)) (is_main c.kind && has_return form) (Block c.kind form) (Main c.kind form) block main in
    let third = decides_or (is_specification (class_of form) && c.executed) ((is_block_data c.kind && bars_block_data (class_of form)) || (is_main c.kind && has_return form)) (Specification before form) (Block c.kind form ⊎ Main c.kind form) specification fourth in
    let second = decides_or (is_implicit (class_of form) && c.declared) ((is_specification (class_of form) && c.executed) || ((is_block_data c.kind && bars_block_data (class_of form)) || (is_main c.kind && has_return form))) (Implicit before form)
    (Specification before form ⊎ (Block c.kind form ⊎ Main c.kind form)) implicit third in
    let first = decides_or (is_head (class_of form) && not c.first) ((is_implicit (class_of form) && c.declared) || ((is_specification (class_of form) && c.executed) || ((is_block_data c.kind && bars_block_data (class_of form)) || (is_main c.kind && has_return form)))) (Head before form)
    (Implicit before form ⊎ (Specification before form ⊎ (Block c.kind form ⊎ Main c.kind form))) head second in
    decides (breaks_order c form) (Broken c.kind before form) (BreaksOrder c.kind before form) (broken c.kind before form) (breaks c.kind before form) first

-- ---- one more statement

abbrev IsSuch : (Class → Bool) → Line → Type 0
IsSuch such line = (form : Form) × (HasForm line.text form × (such (class_of form) ≡ true))

longer : (such : Class → Bool) (before : List Line) (line : Line) → HasClass such before ⊎ IsSuch such line → HasClass such (before ++ line ∷ [])
longer such before line (inl h) = record {
  front = h.front;
  line = h.line;
  behind = h.behind ++ line ∷ [];
  cut = ap (λ ls. ls ++ line ∷ []) h.cut ∙ append_assoc h.front (h.line ∷ h.behind) (line ∷ []);
  form = h.form;
  has = h.has;
  is = h.is;
}
longer such before line (inr h) = record { front = before; line = line; behind = []; cut = refl; form = h.0; has = h.1.0; is = h.1.1 }

-- where a list with one more element is cut
pub data Cut {A : Type 0} (before : List A) (last : A) (front : List A) (x : A) (behind : List A) : Type 0 where
  at_last : front ≡ before → x ≡ last → behind ≡ [] → Cut before last front x behind
  earlier : (more : List A) → before ≡ front ++ x ∷ more → behind ≡ more ++ last ∷ [] → Cut before last front x behind

first_is : {A : Type 0} (x y : A) (xs ys : List A) → x ∷ xs ≡ y ∷ ys → x ≡ y
first_is x y xs ys e = cc

rest_is : {A : Type 0} (x y : A) (xs ys : List A) → x ∷ xs ≡ y ∷ ys → xs ≡ ys
rest_is x y xs ys e = cc

pub cut_of : {A : Type 0} (before : List A) (last : A) (front : List A) (x : A) (behind : List A) → before ++ last ∷ [] ≡ front ++ x ∷ behind → Cut before last front x behind
cut_of [] last [] x behind e = at_last refl (sym (first_is last x [] behind e)) (sym (rest_is last x [] behind e))
cut_of [] last (y ∷ front) x behind e = let l = ap length (rest_is last y [] (front ++ x ∷ behind) e) in absurd (omega (arith, l, length-append front (x ∷ behind)))
cut_of (b ∷ before) last [] x behind e = earlier before (ap (λ y. y ∷ before) (first_is b x (before ++ last ∷ []) behind e)) (sym (rest_is b x (before ++ last ∷ []) behind e))
cut_of (b ∷ before) last (y ∷ front) x behind e = go (cut_of before last front x behind (rest_is b y (before ++ last ∷ []) (front ++ x ∷ behind) e))
  where
    same : b ≡ y
    same = first_is b y (before ++ last ∷ []) (front ++ x ∷ behind) e

    go : Cut before last front x behind → Cut (b ∷ before) last (y ∷ front) x behind
    go (at_last f i n) = at_last (λ j. sym same j ∷ f j) i n
    go (earlier more f n) = earlier more (λ j. same j ∷ f j) n

shorter : (such : Class → Bool) (before : List Line) (line : Line) → HasClass such (before ++ line ∷ []) → HasClass such before ⊎ IsSuch such line
shorter such before line h = go (cut_of before line h.front h.line h.behind h.cut)
  where
    go : Cut before line h.front h.line h.behind → HasClass such before ⊎ IsSuch such line
    go (at_last f i n) = inr (h.form, (subst (λ x. HasForm x.text h.form) i h.has, h.is))
    go (earlier more f n) = inl (record { front = h.front; line = h.line; behind = more; cut = f; form = h.form; has = h.has; is = h.is })

class_end : class_of f.End ≡ class.End
class_end = search (rules, the_lemmas)

abbrev such_of : (Class → Bool) → Option Form → Bool
such_of such None = false
such_of such (Some form) = such (class_of form)

placed : (such : Class → Bool) → such class.End ≡ false → (after : List Line) (line : Line) (x : IsSuch such line) → HasFormAt after line.text x.0
placed such no_end after line x = record {
  has = x.1.0;
  ends = λ e. let w : false ≡ true = sym no_end ∙ (ap such (sym class_end) ∙ (ap (λ g. such (class_of g)) (sym e) ∙ x.1.1)) in absurd (false_true w);
}

-- the one form of a text, or none, decides; END is of no such class
such_told : (such : Class → Bool) → such class.End ≡ false → (after : List Line) (line : Line) (found : Option Form) → KnowsForm after line.text found → (test : Bool) → test ≡ such_of such found → MatchBool test (IsSuch such line) (IsSuch such line → ⊥)
such_told such no_end after line None k test e = subst (λ b. MatchBool b (IsSuch such line) (IsSuch such line → ⊥)) (sym e) (λ x. k.not x.0 (placed such no_end after line x))
such_told such no_end after line (Some form) k test e =
    subst (λ b. MatchBool b (IsSuch such line) (IsSuch such line → ⊥)) (sym e)
    (decides (such (class_of form)) (such (class_of form) ≡ true) (IsSuch such line) (λ h. (form, (k.is.has, h))) (λ x. subst (λ g. such (class_of g) ≡ true) (k.only x.0 (placed such no_end after line x)) x.1.1) (told (such (class_of form))))

or_false : (b : Bool) → b || false ≡ b
or_false true = refl
or_false false = refl

tells : (such : Class → Bool) → such class.End ≡ false → (after before : List Line) (line : Line) (found : Option Form) (was : Bool) → KnowsForm after line.text found → Tells was such before → Tells (was || such_of such found) such (before ++ line ∷ [])
tells such no_end after before line found was k t =
    decides (was || such_of such found) (HasClass such before ⊎ IsSuch such line) (HasClass such (before ++ line ∷ [])) (longer such before line) (shorter such before line)
    (decides_or was (such_of such found) (HasClass such before) (IsSuch such line) t (such_told such no_end after line found k (such_of such found) refl))

never_empty : (before : List Line) (line : Line) → before ++ line ∷ [] ≡ [] → ⊥
never_empty before line e = let l = ap length e in absurd (omega (arith, l, length-append before (line ∷ [])))

pub knows_behind : (after before : List Line) (line : Line) (found : Option Form) (c : Context) → KnowsForm after line.text found → Knows before c → Knows (before ++ line ∷ []) (behind c found)
knows_behind after before line None c k h = record {
  first = never_empty before line;
  declared = subst (λ b. Tells b bars_implicit (before ++ line ∷ [])) (or_false c.declared) (tells bars_implicit refl after before line None c.declared k h.declared);
  executed = subst (λ b. Tells b is_executable (before ++ line ∷ [])) (or_false c.executed) (tells is_executable refl after before line None c.executed k h.executed);
}
knows_behind after before line (Some form) c k h = record {
  first = never_empty before line;
  declared = tells bars_implicit refl after before line (Some form) c.declared k h.declared;
  executed = tells is_executable refl after before line (Some form) c.executed k h.executed;
}
