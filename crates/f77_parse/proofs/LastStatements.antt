-- The last statement of a unit.
use Rattle.std.proofs.Common.{◌≡◌, ℕ, Bool, true, false, List, [], ◌∷◌, ◌++◌, length, sym, ap, ◌∙◌, arith, length-append}
use Rattle.std.specs.Bool.{MatchBool}
use Rattle.std.specs.Prelude.{codes}
use Rattle.std.specs.Str.{bytes_eq}
use Rattle.std.proofs.lemmas.Slice.Eq.{bytes_eq-Decides}
use Rattle.fixed_form.specs.declared.reader.Line.{Line}
use Rattle.fixed_form.specs.declared.reader.UnitText.{UnitText}
use Rattle.f77_parse.specs.Statements.{EndsUnit}

same_last : {A : Type 0} (xs ys : List A) (x y : A) → xs ++ x ∷ [] ≡ ys ++ y ∷ [] → x ≡ y
same_last [] [] x y e = cc
same_last [] (b ∷ ys) x y e = let l = ap length e in absurd (omega (arith, l, length-append ys (y ∷ [])))
same_last (a ∷ xs) [] x y e = let l = ap length e in absurd (omega (arith, l, length-append xs (x ∷ [])))
same_last (a ∷ xs) (b ∷ ys) x y e = let rest : xs ++ x ∷ [] ≡ ys ++ y ∷ [] = cc in same_last xs ys x y rest

pub ends_is : (u : UnitText) (front : List Line) (last : Line) (b : Bool) → u.statements ≡ front ++ last ∷ [] → MatchBool b (last.text ≡ codes "END") (last.text ≡ codes "END" → ⊥) → MatchBool b (EndsUnit u) (EndsUnit u → ⊥)
ends_is u front last true cut e = record { front = front; last = last; cut = cut; end = e }
ends_is u front last false cut e = λ h. e (ap (λ (l : Line). l.text) (same_last front h.front last h.last (sym cut ∙ h.cut)) ∙ h.end)

pub never_ends : (u : UnitText) → length u.statements ≡ 0 → EndsUnit u → ⊥
never_ends u e h = let l = ap length h.cut in absurd (omega (arith, e, l, length-append h.front (h.last ∷ [])))

pub spelled : (b : Bool) (xs ys : List ℕ) → b ≡ bytes_eq xs ys → MatchBool b (xs ≡ ys) (xs ≡ ys → ⊥)
spelled true xs ys e = grind (arith, bytes_eq-Decides)
spelled false xs ys e = λ h. absurd (grind (arith, bytes_eq-Decides))
