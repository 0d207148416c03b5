-- Words between dots.
use Rattle.std.proofs.Common.{◌≡◌, ℕ, zero, suc, ◌+◌, ◌<◌, ◌≤◌, Bool, true, false, if◌then◌else◌, [], ◌∷◌, ◌++◌, length, take, drop, get_or, ap, sym, ◌∙◌, subst, refl, arith, length-append, length-drop, append_assoc, codes, ◌⊎◌, ⊎_elim, inl, inr}
use Rattle.std.specs.List.{list_all}
use Rattle.std.specs.Str.{bytes_eq}
use Rattle.std.proofs.Math.Seq.{take-append_seam, drop-append_seam}
use Rattle.std.proofs.lemmas.Slice.Eq.{bytes_eq-Decides}
use Rattle.f77_tree.specs.Names.{is_word}
use Rattle.f77_expr.specs.declared.token.Token.TheVariants as t
use Rattle.f77_expr.specs.declared.token.Kind.{Kind}
use Rattle.f77_expr.specs.declared.token.Kind.TheVariants as k
use Rattle.f77_expr.specs.declared.fronts.Sort.TheVariants as s
use Rattle.f77_expr.specs.declared.fronts.Part.TheVariants as p
use Rattle.f77_expr.specs.Kinds.{dot_kind}
use Rattle.f77_expr.specs.Spelling.{Text, dot_word}
use Rattle.f77_expr.specs.Lexing.{Piece, Good, good}
use Rattle.f77_expr.specs.Runs.{IsRun}
use Rattle.f77_expr.specs.Fronts.{Begins}
use Rattle.f77_expr.proofs.Classes.{false_true}
use Rattle.f77_expr.proofs.RunLengths.{run_is}
use Rattle.f77_expr.proofs.Spellings.{Dotted, dot_piece}
use Rattle.f77_expr.proofs.Beginnings.{begins_spelled, begins_strange}

by_bool : (t : Bool) → (t ≡ true) ⊎ (t ≡ false)
by_bool true = inl refl
by_bool false = inr refl

-- bytes of which one is no letter are none of these words
miss : (w c : Text) → list_all is_word w ≡ false → list_all is_word c ≡ true → bytes_eq w c ≡ false
miss w c h e =
    ⊎_elim
    (λ yes. let same : w ≡ c = grind (arith, bytes_eq-Decides) in absurd (false_true h (ap (list_all is_word) same ∙ e)))
    (λ no. no)
    (by_bool (bytes_eq w c))

skip : {test : Bool} (x y : Kind) → test ≡ false → (if test then x else y) ≡ y
skip x y h = ap (λ t. if t then x else y) h

unknown : (w : Text) → list_all is_word w ≡ false → dot_kind w ≡ k.Other
unknown w h =
    skip k.Eq _ (miss w (codes "EQ") h refl) ∙ (skip k.Ne _ (miss w (codes "NE") h refl) ∙ (skip k.Lt _ (miss w (codes "LT") h refl) ∙ (skip k.Le _ (miss w (codes "LE") h refl) ∙ (skip k.Gt _ (miss w (codes "GT") h refl) ∙ (skip k.Ge _ (miss w (codes "GE") h refl) ∙ (skip k.Not _ (miss w (codes "NOT") h refl) ∙ (skip k.And _ (miss w (codes "AND") h refl) ∙ (skip k.Or _ (miss w (codes "OR") h refl) ∙ (skip k.Eqv _ (miss w (codes "EQV") h refl) ∙ (skip k.Neqv _ (miss w (codes "NEQV") h refl) ∙ (skip k.True _ (miss w (codes "TRUE") h refl) ∙ skip k.False _ (miss w (codes "FALSE") h refl))))))))))))

known_word : (w : Text) → (dot_kind w ≡ k.Other → ⊥) → list_all is_word w ≡ true
known_word w known = ⊎_elim (λ yes. yes) (λ no. absurd (known (unknown w no))) (by_bool (list_all is_word w))

-- a dot word behind the dot is the run of word bytes, and a dot behind it
dotted_run : {other : Text} {piece : Piece} (bs more : Text) (n : ℕ) → IsRun is_word bs n → bs ≡ other ++ more → (d : Dotted other piece) → length d.inside ≡ n
dotted_run bs more n run e d =
    run_is bs d.inside more 46 n run (e ∙ (ap (λ s. s ++ more) d.cut ∙ append_assoc d.inside (46 ∷ []) more)) (known_word d.inside d.known) refl

dot_cut : (bs rest : Text) (n : ℕ) → n ≤ length bs → drop n bs ≡ 46 ∷ rest → take (n + 1) bs ≡ take n bs ++ 46 ∷ []
dot_cut [] rest zero few e = absurd cc
dot_cut (b ∷ bs) rest zero few e = let first : b ≡ 46 = cc in ap (λ b. b ∷ []) first
dot_cut [] rest (suc n) few e = absurd cc
dot_cut (b ∷ bs) rest (suc n) few e =
    let number : suc n + 1 ≡ suc (n + 1) = omega arith in
    ap (λ m. take m (b ∷ bs)) number ∙ ap (λ s. b ∷ s) (dot_cut bs rest n (omega (arith, few)) e)

dot_front : (b : ℕ) (bs : Text) (n : ℕ) → b ≡ 46 → take (n + 1) bs ≡ take n bs ++ 46 ∷ [] → take (n + 2) (b ∷ bs) ≡ 46 ∷ (take n bs ++ 46 ∷ [])
dot_front b bs n q e =
    let number : n + 2 ≡ suc (n + 1) = omega arith in
    ap (λ m. take m (b ∷ bs)) number ∙ (ap (λ b. b ∷ take (n + 1) bs) q ∙ ap (λ s. 46 ∷ s) e)

begins_dot : (b : ℕ) (bs rest : Text) (n : ℕ) → b ≡ 46 → IsRun is_word bs n → (dot_kind (take n bs) ≡ k.Other → ⊥) → drop n bs ≡ 46 ∷ rest → Begins (b ∷ bs) (p.Good s.Dot) (n + 2)
begins_dot b bs rest n q run known e =
    let front : take (n + 2) (b ∷ bs) ≡ 46 ∷ (take n bs ++ 46 ∷ []) = dot_front b bs n q (dot_cut bs rest n run.within e) in
    let token = t.Dot (take n bs) in
    begins_spelled b bs (n + 2) (p.Good s.Dot) (Good token) (omega (arith, ap length e, length-drop n bs))
    (record { most = λ other more second f s. let d = dot_piece q s in omega (arith, dotted_run bs more n run f d, ap length d.cut, length-append d.inside (46 ∷ [])) })
    (record { token = token; has = record { word = take n bs; cut = front; is = refl }; is = refl })
    (good token (dot_word (take n bs) front known refl) refl)

begins_no_dot : (b : ℕ) (bs : Text) (n : ℕ) → b ≡ 46 → IsRun is_word bs n → ((rest : Text) → (dot_kind (take n bs) ≡ k.Other → ⊥) → drop n bs ≡ 46 ∷ rest → ⊥) → Begins (b ∷ bs) p.Strange 1
begins_no_dot b bs n q run none = begins_strange b bs (record {
  none = λ other more second e s.
      let d = dot_piece q s in
      let long : length d.inside ≡ n = dotted_run bs more n run e d in
      let whole : bs ≡ d.inside ++ 46 ∷ more = e ∙ (ap (λ s. s ++ more) d.cut ∙ append_assoc d.inside (46 ∷ []) more) in
      let front : take n bs ≡ d.inside = ap (λ n. take n bs) (sym long) ∙ (ap (take (length d.inside)) whole ∙ take-append_seam d.inside (46 ∷ more)) in
      let behind : drop n bs ≡ 46 ∷ more = ap (λ n. drop n bs) (sym long) ∙ (ap (drop (length d.inside)) whole ∙ drop-append_seam d.inside (46 ∷ more)) in
      none more (λ other. d.known (ap dot_kind (sym front) ∙ other)) behind;
})

-- ---- as the code cuts the text

pub dot_at : (text after word back rest : Text) (n : ℕ) → 0 < length text → get_or text 0 0 ≡ 46 → after ≡ drop 1 text → IsRun is_word after n → word ≡ take n after → back ≡ drop n after → (dot_kind word ≡ k.Other → ⊥) → back ≡ 46 ∷ rest → Begins text (p.Good s.Dot) (n + 2)
dot_at [] after word back rest n some q e run w g known f = absurd (omega (arith, some))
dot_at (b ∷ bs) after word back rest n some q e run w g known f =
    begins_dot b bs rest n q (subst (λ s. IsRun is_word s n) e run) (λ other. known (ap dot_kind (w ∙ ap (take n) e) ∙ other)) (ap (drop n) (sym e) ∙ (sym g ∙ f))

pub no_dot_at : (text after word back : Text) (n : ℕ) → 0 < length text → get_or text 0 0 ≡ 46 → after ≡ drop 1 text → IsRun is_word after n → word ≡ take n after → back ≡ drop n after → ((rest : Text) → (dot_kind word ≡ k.Other → ⊥) → back ≡ 46 ∷ rest → ⊥) → Begins text p.Strange 1
no_dot_at [] after word back n some q e run w g none = absurd (omega (arith, some))
no_dot_at (b ∷ bs) after word back n some q e run w g none =
    begins_no_dot b bs n q (subst (λ s. IsRun is_word s n) e run)
    (λ rest known f. none rest (λ other. known (ap dot_kind (ap (take n) (sym e) ∙ sym w) ∙ other)) (g ∙ (ap (drop n) e ∙ f)))
