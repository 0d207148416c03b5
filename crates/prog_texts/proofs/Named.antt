-- The units by their names, one step on.
use Rattle.std.proofs.Common.{◌≡◌, ℕ, suc, ◌+◌, ◌<◌, List, [], ◌∷◌, ◌++◌, length, drop, get_or, map, fold, ap, sym, ◌∙◌, append_assoc, add-one}
use Rattle.std.proofs.lemmas.List.{drop_more}
use Rattle.f77_tree.specs.declared.unit.Unit.{Unit}
use Rattle.f77_values.specs.Tables.{with_pair, with_told}
use Rattle.prog_texts.specs.Mentions.{mentions}
use Rattle.prog_texts.specs.declared.mentions.Mention.{Mention}
use Rattle.prog_texts.specs.Signatures.{Signatures, named_from, signature}

pub named_more : (units : List Unit) (i : ℕ) (u : Unit) (old new all : Signatures) → i < length units → u ≡ get_or units i u → new ≡ with_told old u.name (signature u i)
    → fold with_pair old (named_from i (drop i units)) ≡ all → fold with_pair new (named_from (i + 1) (drop (i + 1) units)) ≡ all
named_more units i u old new all h e n a =
    ap (λ x. fold with_pair x (named_from (i + 1) (drop (i + 1) units))) n
    ∙ (ap (λ k. fold with_pair (with_told old u.name (signature u i)) (named_from k (drop (i + 1) units))) (add-one i)
    ∙ (ap (λ us. fold with_pair old (named_from i us)) (sym (drop_more units i u h ∙ ap (λ x. x ∷ drop (i + 1) units) (sym e)))
    ∙ a))

pub texts_more : (units : List Unit) (i : ℕ) (u : Unit) (old new all : List (List Mention)) → i < length units → u ≡ get_or units i u → new ≡ old ++ mentions u ∷ []
    → old ++ map mentions (drop i units) ≡ all → new ++ map mentions (drop (i + 1) units) ≡ all
texts_more units i u old new all h e n a =
    ap (λ x. x ++ map mentions (drop (i + 1) units)) n
    ∙ (append_assoc old (mentions u ∷ []) (map mentions (drop (i + 1) units))
    ∙ (ap (λ us. old ++ map mentions us) (sym (drop_more units i u h ∙ ap (λ x. x ∷ drop (i + 1) units) (sym e)))
    ∙ a))
