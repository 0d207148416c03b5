-- The form of END.
use Rattle.std.proofs.Common.{◌≡◌, ℕ, ◌<◌, List, [], ◌∷◌, ◌++◌, length, get_or, Some, None, sym, ap, subst, arith, length-append}
use Rattle.std.specs.Prelude.{codes}
use Rattle.std.specs.declared.option.Option.{Option}
use Rattle.f77_tree.specs.declared.form.Form.{Form}
use Rattle.f77_tree.specs.declared.form.Form.TheVariants as f
use Rattle.f77_tree.specs.declared.form.TypeWord.{TypeWord}
use Rattle.f77_tree.specs.declared.form.TypeWord.TheVariants as ty
use Rattle.form_kinds.specs.declared.keywords.Keyword.TheVariants as word
use Rattle.form_kinds.specs.declared.statement_kinds.StatementKind.{StatementKind}
use Rattle.form_kinds.specs.declared.statement_kinds.StatementKind.TheVariants as kind
use Rattle.form_parts.specs.Answers.{InTokens}
use Rattle.f77_forms.specs.Forms.{HasForm, plain, logical_if, KindForm, IsWorded, head, by_word, WordForm}
use Rattle.f77_forms.specs.HeadForms.{IsHeadForm, IsSubroutine, IsBlock, type_spelling, program, subroutine, function, block, bare, listed, named, nameless}
use Rattle.form_kinds.specs.Keywords.{behind}
use Rattle.form_kinds.specs.StatementKinds.{IsKind, closed_if, open_if, equated, worded}

abbrev end_text : List ℕ
end_text = codes "END"

first_is : (x y : ℕ) (xs ys : List ℕ) → x ∷ xs ≡ y ∷ ys → x ≡ y
first_is x y xs ys e = cc

differ : (x y : ℕ) → x ≡ y → (x < y → ⊥)
differ x y e l = absurd (omega (arith, e, l))

no_equals : (before behind : List ℕ) → end_text ≡ before ++ 61 ∷ behind → ⊥
no_equals [] behind e = let h : 69 ≡ 61 = first_is 69 61 _ behind e in absurd (omega (arith, h))
no_equals (a ∷ []) behind e = let h = ap (λ xs. get_or xs 1 0) e in absurd (omega (arith, h))
no_equals (a ∷ b ∷ []) behind e = let h = ap (λ xs. get_or xs 2 0) e in absurd (omega (arith, h))
no_equals (a ∷ b ∷ d ∷ before) behind e = let l = ap length e in absurd (omega (arith, l, length-append before (61 ∷ behind)))

end_kind : (k : StatementKind) → IsKind end_text k → k ≡ kind.Worded
end_kind k (closed_if condition behind i e) = let h = ap (λ xs. get_or xs 0 0) i.cut in absurd (omega (arith, h))
end_kind k (open_if inside e n g) = let h = ap (λ xs. get_or xs 0 0) e in absurd (omega (arith, h))
end_kind k (equated before behind l o a) = absurd (no_equals before behind o.cut)
end_kind k (worded l n e) = e

no_subroutine : (form : Form) → IsSubroutine end_text form → ⊥
no_subroutine form (bare name e n g) = let h = ap (λ xs. get_or xs 0 0) e in absurd (omega (arith, h))
no_subroutine form (listed rest parts e l g) = let h = ap (λ xs. get_or xs 0 0) e in absurd (omega (arith, h))

no_function : (typed : Option TypeWord) (rest : List ℕ) → end_text ≡ type_spelling typed ++ (codes "FUNCTION" ++ rest) → ⊥
no_function None rest e = let h = ap (λ xs. get_or xs 0 0) e in absurd (omega (arith, h))
no_function (Some ty.Integer) rest e = let h = ap (λ xs. get_or xs 0 0) e in absurd (omega (arith, h))
no_function (Some ty.Logical) rest e = let h = ap (λ xs. get_or xs 0 0) e in absurd (omega (arith, h))
no_function (Some ty.Real) rest e = let h = ap (λ xs. get_or xs 0 0) e in absurd (omega (arith, h))
no_function (Some ty.DoublePrecision) rest e = let h = ap (λ xs. get_or xs 0 0) e in absurd (omega (arith, h))
no_function (Some ty.Complex) rest e = let h = ap (λ xs. get_or xs 0 0) e in absurd (omega (arith, h))

no_block : (form : Form) → IsBlock end_text form → ⊥
no_block form (named name e n g) = let h = ap (λ xs. get_or xs 0 0) e in absurd (omega (arith, h))
no_block form (nameless e g) = let h = ap (λ xs. get_or xs 0 0) e in absurd (omega (arith, h))

no_head : (form : Form) → IsHeadForm end_text form → ⊥
no_head form (program p) = let h = ap (λ xs. get_or xs 0 0) p.cut in absurd (omega (arith, h))
no_head form (subroutine s) = no_subroutine form s
no_head form (function f) = no_function f.typed f.rest f.cut
no_head form (block b) = no_block form b

worded_end : (form : Form) → IsWorded end_text form → form ≡ f.End
worded_end form (head h) = absurd (no_head form h)
worded_end form (by_word w none e in_tokens) =
    let z : Some word.End ≡ Some w = e in
    let same : word.End ≡ w = cc in
    (subst (λ w. InTokens (WordForm w) (behind w end_text) form) (sym same) in_tokens).is.made

plain_end : (form : Form) (k : StatementKind) → k ≡ kind.Worded → KindForm k end_text form → form ≡ f.End
plain_end form k e h = worded_end form (subst (λ k. KindForm k end_text form) e h)

pub end_form : (form : Form) → HasForm end_text form → form ≡ f.End
end_form form (plain p) = plain_end form p.kind (end_kind p.kind p.is_kind) p.is
end_form form (logical_if k l) = let z : kind.LogicalIf ≡ kind.Worded = end_kind kind.LogicalIf k in absurd (cc)
