-- The head of a unit.
use Rattle.std.proofs.Common.{◌≡◌, ℕ, List, [], ◌∷◌, Ok, Err, refl, sym, ◌∙◌, subst, rules}
use Rattle.std.specs.Prelude.{IfOk}
use Rattle.std.specs.declared.result.Result.{Result}
use Rattle.std.specs.declared.option.Option.{Option}
use Rattle.f77_tree.specs.declared.form.Form.{Form, the_lemmas}
use Rattle.f77_tree.specs.declared.form.Form.TheVariants as f
use Rattle.f77_tree.specs.declared.form.TypeWord.{TypeWord}
use Rattle.f77_tree.specs.declared.unit.UnitKind.{UnitKind}
use Rattle.f77_tree.specs.declared.unit.UnitKind.TheVariants as unit
use Rattle.fixed_form.specs.declared.reader.Line.{Line}
use Rattle.form_parts.specs.Only.{Never, Sole}
use Rattle.f77_forms.specs.Forms.{HasForm}
use Rattle.f77_parse.specs.Statements.{HasHead, headed, headless}
use Rattle.f77_parse.specs.Progress.{TellsHead, of_head, of_none}

pub first_line : (x y : Line) (xs ys : List Line) → x ∷ xs ≡ y ∷ ys → x ≡ y
first_line x y xs ys e = cc

pub no_lines : (lines : List Line) → lines ≡ [] → HasHead lines unit.Main []
no_lines lines e = headless (λ first rest k word name names cut h. let z : [] ≡ first ∷ rest = sym e ∙ cut in cc) refl refl

pub no_lines_only : (lines : List Line) → lines ≡ [] → (kind : UnitKind) (names : List (List ℕ)) → HasHead lines kind names → kind ≡ unit.Main
no_lines_only lines e kind names (headed first rest word name cut h) = let z : [] ≡ first ∷ rest = sym e ∙ cut in absurd (cc)
no_lines_only lines e kind names (headless none k n) = k

-- a first statement without a form
pub formless_head : (lines : List Line) (first : Line) (rest : List Line) → lines ≡ first ∷ rest → Never HasForm first.text → HasHead lines unit.Main []
formless_head lines first rest cut none = headless (λ other more k word name names e h. none.not (f.Head k word name names) (subst (λ l. HasForm l.text (f.Head k word name names)) (first_line other first more rest (sym e ∙ cut)) h)) refl refl

pub formless_only : (lines : List Line) (first : Line) (rest : List Line) → lines ≡ first ∷ rest → Never HasForm first.text → (kind : UnitKind) (names : List (List ℕ)) → HasHead lines kind names → kind ≡ unit.Main
formless_only lines first rest cut none kind names (headed other more word name e h) = absurd (none.not (f.Head kind word name names) (subst (λ l. HasForm l.text (f.Head kind word name names)) (first_line other first more rest (sym e ∙ cut)) h))
formless_only lines first rest cut none kind names (headless no_head k n) = k

pub formed_head : (lines : List Line) (first : Line) (rest : List Line) (form : Form) → lines ≡ first ∷ rest → Sole HasForm first.text form → (kind : UnitKind) (names : List (List ℕ)) → TellsHead form kind names → HasHead lines kind names
formed_head lines first rest form cut sole kind names (of_head word name e) = headed first rest word name cut (subst (HasForm first.text) e sole.is)
formed_head lines first rest form cut sole kind names (of_none none k n) =
    headless (λ other more g word name all e h. none g word name all (sym (sole.only (f.Head g word name all) (subst (λ l. HasForm l.text (f.Head g word name all)) (first_line other first more rest (sym e ∙ cut)) h)))) k n

kinds_same : (k g : UnitKind) (word more : Option TypeWord) (name other : List ℕ) (all names : List (List ℕ)) → f.Head k word name all ≡ f.Head g more other names → k ≡ g
kinds_same k g word more name other all names e = search (rules, the_lemmas)

pub formed_only : (lines : List Line) (first : Line) (rest : List Line) (form : Form) → lines ≡ first ∷ rest → Sole HasForm first.text form → (kind : UnitKind) (names : List (List ℕ)) → TellsHead form kind names →
    (k : UnitKind) (all : List (List ℕ)) → HasHead lines k all → k ≡ kind
formed_only lines first rest form cut sole kind names (of_head word name e) k all (headed other more w n d h) =
    let same = sole.only (f.Head k w n all) (subst (λ l. HasForm l.text (f.Head k w n all)) (first_line other first more rest (sym d ∙ cut)) h) in
    kinds_same k kind w word n name all names (same ∙ e)
formed_only lines first rest form cut sole kind names (of_head word name e) k all (headless none m n) = absurd (none first rest kind word name names cut (subst (HasForm first.text) e sole.is))
formed_only lines first rest form cut sole kind names (of_none none m n) k all (headed other more w nm d h) =
    let same = sole.only (f.Head k w nm all) (subst (λ l. HasForm l.text (f.Head k w nm all)) (first_line other first more rest (sym d ∙ cut)) h) in
    absurd (none k w nm all (sym same))
formed_only lines first rest form cut sole kind names (of_none none m n) k all (headless no_head g l) = g ∙ sym m

-- ---- where the parts of the head were copied

pub copied_head : {E : Type 0} (lines : List Line) (first : Line) (rest : List Line) (form : Form) → lines ≡ first ∷ rest → Sole HasForm first.text form → (found : Result (UnitKind × List (List ℕ)) E) → IfOk found (λ x. TellsHead form x.0 x.1) → IfOk found (λ x. HasHead lines x.0 x.1)
copied_head lines first rest form cut sole (Ok x) h = formed_head lines first rest form cut sole x.0 x.1 h
copied_head lines first rest form cut sole (Err e) h = tt

pub copied_only : {E : Type 0} (lines : List Line) (first : Line) (rest : List Line) (form : Form) → lines ≡ first ∷ rest → Sole HasForm first.text form → (found : Result (UnitKind × List (List ℕ)) E) → IfOk found (λ x. TellsHead form x.0 x.1) →
    IfOk found (λ x. (kind : UnitKind) (names : List (List ℕ)) → HasHead lines kind names → kind ≡ x.0)
copied_only lines first rest form cut sole (Ok x) h = formed_only lines first rest form cut sole x.0 x.1 h
copied_only lines first rest form cut sole (Err e) h = tt
