-- A text is too deep where its tokens are refused with fault 11, and nowhere else.
use Rattle.std.proofs.Common.{◌≡◌, ℕ, ◌≤◌, List, [], ◌∷◌, ◌++◌, map, refl, sym, ap, ◌∙◌, subst, arith}
use Rattle.f77_tree.specs.declared.fault.SourceFault.{SourceFault}
use Rattle.f77_tree.specs.declared.fault.Place.{Place}
use Rattle.f77_expr.specs.Spelling.{Text}
use Rattle.f77_expr.specs.Depth.{deepest}
use Rattle.f77_expr.specs.Kinds.{Tokens}
use Rattle.f77_expr.specs.Laws.{PiecesAreUnique}
use Rattle.f77_expr.specs.Lexing.{Piece, Good, Large, Unclosed, Has, Lexes, tokens_of, WhyNoTokens, open_literal, large_integer, too_deep, no_token, IsNoText}
use Rattle.f77_forms.specs.TooDeep.{IsTooDeep}

good_tokens : (ts : Tokens) → tokens_of (map Good ts) ≡ ts
good_tokens [] = refl
good_tokens (t ∷ ts) = ap (λ xs. t ∷ xs) (good_tokens ts)

pub no_deep_tokens : PiecesAreUnique → (text : Text) (ts : Tokens) → Lexes text ts → deepest ts ≤ 100 → IsTooDeep text → ⊥
no_deep_tokens unique text ts lexes shallow d =
    let same : deepest (tokens_of d.all) ≡ deepest ts = ap (λ all. deepest (tokens_of all)) (unique text d.all (map Good ts) d.pieces lexes) ∙ ap deepest (good_tokens ts) in
    omega (arith, same, shallow, d.deep)

pub deep_text : (fault : SourceFault) (at : Place) (text : Text) → IsNoText fault at text → fault.number ≡ 11 → IsTooDeep text
deep_text fault at text h eleven = go h.why
  where
    go : WhyNoTokens fault at h.all → IsTooDeep text
    go (open_literal i has) = let z : 11 ≡ 10 = sym eleven ∙ i.number_is in absurd (cc)
    go (large_integer i lacks has) = let z : 11 ≡ 9 = sym eleven ∙ i.number_is in absurd (cc)
    go (too_deep i closed small deep) = record { all = h.all; pieces = h.pieces; closed = closed; small = small; deep = deep }
    go (no_token i closed small shallow has) = let z : 11 ≡ 6 = sym eleven ∙ i.number_is in absurd (cc)

other_why : (fault : SourceFault) (at : Place) (text : Text) (all : List Piece) → (fault.number ≡ 11 → ⊥) → WhyNoTokens fault at all → (d : IsTooDeep text) → d.all ≡ all → ⊥
other_why fault at text all other (open_literal i has) d same = d.closed.not (subst (λ all. Has Unclosed all) (sym same) has)
other_why fault at text all other (large_integer i lacks has) d same = d.small.not (subst (λ all. Has Large all) (sym same) has)
other_why fault at text all other (too_deep i closed small deep) d same = other i.number_is
other_why fault at text all other (no_token i closed small shallow has) d same = let e = ap (λ all. deepest (tokens_of all)) same in omega (arith, e, shallow, d.deep)

pub other_text : PiecesAreUnique → (fault : SourceFault) (at : Place) (text : Text) → IsNoText fault at text → (fault.number ≡ 11 → ⊥) → IsTooDeep text → ⊥
other_text unique fault at text h other d = other_why fault at text h.all other h.why d (unique text d.all h.all d.pieces h.pieces)
