-- What is known of the units that a text is read to.
use Rattle.std.proofs.Common.{◌≡◌, ℕ, suc, ◌-◌, ◌*◌, ◌≤◌, Bool, true, false, List, [], ◌∷◌, ◌++◌, ◌&&◌, length, map, cond, refl, sym, ap, ◌∙◌, subst, arith, length-append, length-drop, nat_le, eqb}
use Rattle.std.specs.Prelude.{flat_map, codes, slice_index}
use Rattle.std.specs.Str.{bytes_eq}
use Rattle.std.specs.List.{All}
use Rattle.std.proofs.lemmas.List.{append-nil, map-append}
use Rattle.std.proofs.lemmas.List.Elements.{All-nil, All-cons}
use Rattle.std.proofs.lemmas.Slice.Eq.{bytes_eq-Decides}
use Rattle.fixed_form.specs.declared.card.LineKind.TheVariants as kind
use Rattle.fixed_form.specs.declared.reader.UnitText.{UnitText}
use Rattle.fixed_form.specs.Lines.{Text}
use Rattle.fixed_form.specs.Cards.{columns, kept, inside_after, text_field, text_from, statement_text, is_comment, is_initial, is_label, label_field, is_blank, is_end, statement_kind, kind_of}
use Rattle.fixed_form.specs.Reading.{kind_at, field_at, Card, Group, fields_of, statement_of, IsStatement, IsUnit, Parts, statements_of, Reads}
use Rattle.fixed_form.proofs.Padding.{columns_long}
use Rattle.f77_parse.specs.Statements.{EndsUnit}

pub record IsGood (u : UnitText) : Type 0 where
  pub ends : EndsUnit u
  pub short : All (λ line. length line.text ≤ 1320) u.statements

-- ---- the END line

picked : (a b d g h : Bool) → cond a kind.Comment (cond b (cond d (cond g kind.End kind.Initial) kind.BadLabel) (cond h kind.Continuation kind.LabelledContinuation)) ≡ kind.End → g ≡ true
picked true b d g h e = absurd (cc)
picked false true true true h e = refl
picked false true true false h e = absurd (cc)
picked false true false g h e = absurd (cc)
picked false false d g true e = absurd (cc)
picked false false d g false e = absurd (cc)

end_is : (line : Text) → kind_at line ≡ kind.End → is_end (field_at line) ≡ true
unfolding kind_at kind_of statement_kind field_at
end_is line e = picked (is_comment (columns line)) (is_initial (slice_index (columns line) 5)) (is_label (label_field (columns line))) (is_end (text_field (columns line))) (is_blank (label_field (columns line))) e

same_text : (xs ys : List ℕ) → bytes_eq xs ys ≡ true → xs ≡ ys
same_text xs ys h = grind (arith, bytes_eq-Decides)

end_text : (field : Text) → is_end field ≡ true → statement_text field ≡ codes "END"
unfolding is_end
end_text field e = same_text (statement_text field) (codes "END") e

-- ---- how long texts are

outside : (blank small : Bool) (b : ℕ) → length (cond blank [] (cond small ((b - 32) ∷ []) (b ∷ []))) ≤ 1
outside true small b = omega arith
outside false true b = omega arith
outside false false b = omega arith

kept_short : (inside : Bool) (b : ℕ) → length (kept inside b) ≤ 1
kept_short true b = omega arith
kept_short false b = outside (eqb b 32) (nat_le 97 b && nat_le b 122) b

text_short : (inside : Bool) (bs : Text) → length (text_from inside bs) ≤ length bs
unfolding text_from
text_short inside [] = omega arith
text_short inside (b ∷ bs) =
    let k = kept_short inside b in
    let t = text_short (inside_after inside b) bs in
    let l = length-append (kept inside b) (text_from (inside_after inside b) bs) in
    omega (arith, k, t, l)

field_long : (line : Text) → length (field_at line) ≡ 66
unfolding field_at
field_long line = let c = columns_long line in let d = length-drop 6 (columns line) in omega (arith, c, d)

fields_long : (more : List Card) → length (flat_map (λ c. field_at c.line) more) ≡ 66 * length more
fields_long [] = refl
fields_long (c ∷ more) = let l = length-append (field_at c.line) (flat_map (λ c. field_at c.line) more) in let f = field_long c.line in let m = fields_long more in omega (arith, l, f, m)

group_short : (g : Group) → length g.more ≤ 19 → length (statement_of g).text ≤ 1320
unfolding statement_of
group_short g few =
    let t = text_short false (fields_of g) in
    let l = length-append (field_at g.first.line) (flat_map (λ c. field_at c.line) g.more) in
    let f = field_long g.first.line in
    let m = fields_long g.more in
    omega (arith, t, l, f, m, few)

-- ---- units

all_head : {X : Type 0} (P : X → Type 0) (x : X) (xs : List X) → All P (x ∷ xs) → P x
all_head P x xs h = h 0 x (omega arith)

all_rest : {X : Type 0} (P : X → Type 0) (x : X) (xs : List X) → All P (x ∷ xs) → All P xs
all_rest P x xs h = λ k d l. h (suc k) d (omega arith)

all_short : (gs : List Group) → All (λ g. length g.more ≤ 19) gs → All (λ line. length line.text ≤ 1320) (map statement_of gs)
all_short [] h = All-nil (λ line. length line.text ≤ 1320)
all_short (g ∷ gs) h = All-cons (λ line. length line.text ≤ 1320) (statement_of g) (map statement_of gs) (group_short g (all_head (λ g. length g.more ≤ 19) g gs h)) (all_short gs (all_rest (λ g. length g.more ≤ 19) g gs h))

few_groups : (body : List Group) (last : Group) → All IsStatement body → last.more ≡ [] → All (λ g. length g.more ≤ 19) (body ++ last ∷ [])
few_groups [] last h e = All-cons (λ g. length g.more ≤ 19) last [] (let l = ap length e in omega (arith, l)) (All-nil (λ g. length g.more ≤ 19))
few_groups (g ∷ body) last h e = All-cons (λ g. length g.more ≤ 19) g (body ++ last ∷ []) (all_head IsStatement g body h).few (few_groups body last (all_rest IsStatement g body h) e)

last_text : (last : Group) → kind_at last.first.line ≡ kind.End → last.more ≡ [] → (statement_of last).text ≡ codes "END"
unfolding statement_of
last_text last e alone =
    ap (λ more. statement_text (field_at last.first.line ++ flat_map (λ c. field_at c.line) more)) alone
    ∙ (ap statement_text (append-nil (field_at last.first.line)) ∙ end_text (field_at last.first.line) (end_is last.first.line e))

statements_are : (p : Parts) → statements_of p ≡ map statement_of (p.body ++ p.last ∷ [])
unfolding statements_of
statements_are p = refl

unit_good : (u : UnitText) (p : Parts) → u.statements ≡ statements_of p → IsUnit p.body p.last → IsGood u
unit_good u p e h = record {
  ends = record {
    front = map statement_of p.body;
    last = statement_of p.last;
    cut = e ∙ (statements_are p ∙ map-append statement_of p.body (p.last ∷ []));
    end = last_text p.last h.end h.alone;
  };
  short = subst (All (λ line. length line.text ≤ 1320)) (sym (e ∙ statements_are p)) (all_short (p.body ++ p.last ∷ []) (few_groups p.body p.last h.statements h.alone));
}

units_good : (found : List UnitText) (parts : List Parts) → map (λ u. u.statements) found ≡ map statements_of parts → All (λ p. IsUnit p.body p.last) parts → All IsGood found
units_good [] parts e h = All-nil IsGood
units_good (u ∷ found) [] e h = absurd (cc)
units_good (u ∷ found) (p ∷ parts) e h =
    let first : u.statements ≡ statements_of p = cc in
    let rest : map (λ u. u.statements) found ≡ map statements_of parts = cc in
    All-cons IsGood u found (unit_good u p first (all_head (λ p. IsUnit p.body p.last) p parts h)) (units_good found parts rest (all_rest (λ p. IsUnit p.body p.last) p parts h))

pub read_good : (lines : List Text) (found : List UnitText) → Reads lines found → All IsGood found
read_good lines found r = units_good found r.parts r.units r.each
