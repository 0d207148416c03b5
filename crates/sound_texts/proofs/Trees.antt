-- The tree of a unit that was read, and that has no fault of its own, is one that a text gives.
use Rattle.std.proofs.Common.{◌≡◌, ℕ, zero, suc, ◌-◌, Bool, true, false, ◌&&◌, Some, List, [], ◌∷◌, ◌++◌, length, slice_get, refl, sym, ap, ◌∙◌, subst, ⊎_elim, arith, rules, ◌≤◌, ◌<◌, Option}
use Rattle.std.specs.Prelude.{codes}
use Rattle.std.specs.List.{AllZip}
use Rattle.std.proofs.lemmas.Bool.{cases_lt}
use Rattle.f77_tree.specs.declared.form.Form.{Form, roll-Form, out-Form, ind-Form, fold-roll-Form, the_lemmas}
use Rattle.f77_tree.specs.declared.form.Form.TheFolds.{map-Form}
use Rattle.f77_tree.specs.declared.form.Form.TheOpen.{Form-F}
use Rattle.f77_tree.specs.declared.form.Form.TheVariants as f
use Rattle.f77_tree.specs.declared.form.TypeWord.{TypeWord}
use Rattle.f77_tree.specs.declared.unit.Stmt.{Stmt}
use Rattle.f77_tree.specs.declared.unit.Unit.{Unit as SourceUnit}
use Rattle.f77_tree.specs.declared.unit.UnitKind.{UnitKind}
use Rattle.f77_tree.specs.declared.unit.UnitKind.TheVariants as kind
use Rattle.fixed_form.specs.declared.reader.Line.{Line}
use Rattle.fixed_form.specs.declared.reader.UnitText.{UnitText}
use Rattle.f77_forms.specs.Forms.{HasForm}
use Rattle.fault_marks.specs.declared.marks.Mark.{Mark}
use Rattle.f77_parse.specs.declared.class.Class.TheVariants as class
use Rattle.f77_parse.specs.Order.{in_main}
use Rattle.f77_parse.specs.Parsed.{IsStatement, IsUnit, IsFaultless}
use Rattle.f77_parse.specs.Statements.{EndsUnit, HasHead, headed, headless, class_of, has_return, return_step as parsed_step}
use Rattle.f77_parse.specs.UnitFaults.{order, dummies}
use Rattle.f77_semantics.specs.Source.{is_main}
use Rattle.sound_units.specs.Accepted.{IsTextOf}
use Rattle.sound_units.specs.Texts.{returns_in, return_step}
use Rattle.sound_units.proofs.Tables.{some_is}
use Rattle.sound_texts.proofs.Forms.{textual}

-- ---- RETURN, as the order of statements has it and as the meaning has it

abbrev Both : Type 0
Both = (form : Form) × (returns_in form ≡ has_return form)

same_layer : (y : Form-F Both) → return_step (map-Form Form Bool returns_in (map-Form Both Form (λ e. e.0) y)) ≡ parsed_step (map-Form Form Bool has_return (map-Form Both Form (λ e. e.0) y))
same_layer Form-F.Return = refl
same_layer (Form-F.LogicalIf test inner) = inner.1
same_layer _ = refl

abbrev Same : Form → Type 0
Same form = returns_in form ≡ has_return form

same_at : (y : Form-F Both) → Same (roll-Form (map-Form Both Form (λ e. e.0) y))
same_at y = fold-roll-Form Bool return_step (map-Form Both Form (λ e. e.0) y) ∙ (same_layer y ∙ sym (fold-roll-Form Bool parsed_step (map-Form Both Form (λ e. e.0) y)))

same_returns : (form : Form) → Same form
same_returns = ind-Form Same (λ x y is. subst (λ z. Same (roll-Form z)) is (same_at y))

-- ---- a statement in its place

record InPlace (lines : List Line) (s : Stmt) : Type 0 where
  before : List Line
  line : Line
  behind : List Line
  cut : lines ≡ before ++ line ∷ behind
  is : IsStatement line s

in_place : (lines : List Line) (all : List Stmt) → AllZip IsStatement lines all → (k : ℕ) (s : Stmt) → slice_get all k ≡ Some s → InPlace lines s
in_place [] [] h k s e = absurd (cc)
in_place [] (t ∷ all) h k s e = absurd h
in_place (l ∷ lines) [] h k s e = absurd h
in_place (l ∷ lines) (t ∷ all) h zero s e = record { before = []; line = l; behind = lines; cut = refl; is = subst (IsStatement l) (some_is t s e) h.0 }
in_place (l ∷ lines) (t ∷ all) h (suc k) s e =
    let r = in_place lines all h.1 k s e in
    record { before = l ∷ r.before; line = r.line; behind = r.behind; cut = ap (λ ls. l ∷ ls) r.cut; is = r.is }

-- ---- the last statement

record LastStatement (all : List Stmt) (line : Line) : Type 0 where
  last : Stmt
  stands : slice_get all (length all - 1) ≡ Some last
  is : IsStatement line last

behind_one : (t : Stmt) (all : List Stmt) (s : Stmt) → slice_get all (length all - 1) ≡ Some s → slice_get (t ∷ all) (length (t ∷ all) - 1) ≡ Some s
behind_one t [] s e = absurd (cc)
behind_one t (a ∷ all) s e =
    let i : length (t ∷ a ∷ all) - 1 ≡ suc (length (a ∷ all) - 1) = omega arith in
    ap (slice_get (t ∷ a ∷ all)) i ∙ e

last_of : (front : List Line) (line : Line) (all : List Stmt) → AllZip IsStatement (front ++ line ∷ []) all → LastStatement all line
last_of [] line [] h = absurd h
last_of [] line (s ∷ []) h = record { last = s; stands = refl; is = h.0 }
last_of [] line (s ∷ t ∷ all) h = absurd h.1
last_of (l ∷ front) line [] h = absurd h
last_of (l ∷ front) line (t ∷ all) h =
    let r = last_of front line all h.1 in
    record { last = r.last; stands = behind_one t all r.last r.stands; is = r.is }

-- ---- units

head_class : (k : UnitKind) (word : Option TypeWord) (name : List ℕ) (names : List (List ℕ)) → class_of (f.Head k word name names) ≡ class.Head
head_class k word name names = search (rules, the_lemmas)

end_class : class_of f.End ≡ class.End
end_class = search (rules, the_lemmas)

head_is_no_end : (k : UnitKind) (word : Option TypeWord) (name : List ℕ) (names : List (List ℕ)) → f.Head k word name names ≡ f.End → ⊥
head_is_no_end k word name names e = apart (ap class_of e)
  where
    heads : class.Head ≡ class.End → ⊥
    heads h = cc

    apart : class_of (f.Head k word name names) ≡ class_of f.End → ⊥
    apart h = heads (sym (head_class k word name names) ∙ (h ∙ end_class))

end_returns : has_return f.End ≡ false
end_returns = search (rules, the_lemmas)

end_is : out-Form f.End ≡ Form-F.End
end_is = search (rules, the_lemmas)

not_both : (b : Bool) → b ≡ true → b ≡ false → ⊥
not_both b h k = cc

-- RETURN in a main program would break the order of statements.
no_return : (u : UnitText) (unit : SourceUnit) → IsUnit u unit → IsFaultless u → unit.kind ≡ kind.Main → (s : Stmt) → InPlace u.statements s → (b : Bool) → has_return s.form ≡ b → b ≡ false
no_return u unit is faultless main s p false e = refl
no_return u unit is faultless main s p true e = absurd (faultless.none
    (record { line = p.line.line; number = 8; limit = 0 })
    (record {
      kind = unit.kind;
      names = unit.dummies;
      head = is.head;
      before = p.before;
      line = p.line;
      behind = p.behind;
      cut = p.cut;
      shows = order s.form (record { has = p.is.form; ends = λ h. absurd (not_both (has_return s.form) e (ap has_return h ∙ end_returns)) }) (in_main main e) (record { line_is = refl; number_is = refl; limit_is = refl });
    }))

returns_none : (k : UnitKind) (b : Bool) → (k ≡ kind.Main → b ≡ false) → (is_main k && b) ≡ false
returns_none kind.Main b h = h refl
returns_none kind.Subroutine b h = refl
returns_none kind.Function b h = refl
returns_none kind.BlockData b h = refl

-- ---- dummies

abbrev fault_of_dummies : Line → Mark
fault_of_dummies line = record { line = line.line; number = 37; limit = 63 }

few_in_head : (u : UnitText) (unit : SourceUnit) → IsFaultless u → (k : UnitKind) (names : List (List ℕ)) → HasHead u.statements k names → length names ≤ 63
few_in_head u unit faultless k names (headed first rest word name cut form) = ⊎_elim
    (λ (many : 63 < length names). absurd (faultless.none (fault_of_dummies first) (record {
      kind = k;
      names = names;
      head = headed first rest word name cut form;
      before = [];
      line = first;
      behind = rest;
      cut = cut;
      shows = dummies (f.Head k word name names) (record { has = form; ends = λ h. absurd (head_is_no_end k word name names h) })
          (record { kind = k; word = word; name = name; dummies = names; is = refl; passes = many })
          (record { line_is = refl; number_is = refl; limit_is = refl });
    })))
    (λ (few : length names ≤ 63). few)
    (cases_lt 63 (length names))
few_in_head u unit faultless k names (headless none kind_is none_is) = let e = ap length none_is in omega (arith, e)

pub tree_text : ((form : Form) → HasForm (codes "END") form → form ≡ f.End) → (u : UnitText) (unit : SourceUnit) → EndsUnit u → IsUnit u unit → IsFaultless u → IsTextOf unit
tree_text end_form u unit ends is faultless =
    let l = last_of ends.front ends.last unit.statements (subst (λ ls. AllZip IsStatement ls unit.statements) ends.cut is.statements) in record {
      last = l.last;
      stands = l.stands;
      dummies = few_in_head u unit faultless unit.kind unit.dummies is.head;
      end = ap out-Form (end_form l.last.form (subst (λ t. HasForm t l.last.form) ends.end l.is.form)) ∙ end_is;
      each = λ k s e.
          let p = in_place u.statements unit.statements is.statements k s e in
          let t = textual p.line.text s.form p.is.form in record {
            texts = t.texts;
            returns = returns_none unit.kind (returns_in s.form) (λ main. same_returns s.form ∙ no_return u unit is faultless main s p (has_return s.form) refl);
            guards = t.guards;
          };
    }
