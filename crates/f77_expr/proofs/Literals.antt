-- Where a literal ends.
use Rattle.std.proofs.Common.{◌≡◌, ℕ, zero, suc, ◌+◌, ◌<◌, ◌≤◌, Bool, true, false, not, [], ◌∷◌, ◌++◌, length, take, drop, get_or, ap, sym, ◌∙◌, refl, arith, ⊎_elim, ◌==◌, length-append, append_assoc}
use Rattle.std.proofs.lemmas.List.{take-append-drop, take_more}
use Rattle.f77_expr.specs.declared.token.Token.TheVariants as t
use Rattle.f77_expr.specs.declared.fronts.Sort.TheVariants as s
use Rattle.f77_expr.specs.declared.fronts.Part.TheVariants as p
use Rattle.f77_expr.specs.Spelling.{Text, doubled, literal}
use Rattle.f77_expr.specs.Lexing.{Piece, Good, Unclosed, good, unclosed}
use Rattle.f77_expr.specs.Fronts.{Begins}
use Rattle.f77_expr.proofs.Doubles.{Shut, reach, doubled_longer, doubled_append, doubled_none, doubled_quote, doubled_plain, quote_or}
use Rattle.f77_expr.proofs.Spellings.{Quoted, closed, left, quote_piece}
use Rattle.f77_expr.proofs.Beginnings.{begins_spelled, taken}

-- what the bytes so far are: a literal, or one that is still open
pub data Inside (bytes : Text) (is_open : Bool) : Type 0 where
  still_open : (content : Text) → is_open ≡ true → bytes ≡ 39 ∷ doubled content → Inside bytes is_open
  has_end : (content : Text) → is_open ≡ false → bytes ≡ 39 ∷ (doubled content ++ 39 ∷ []) → Inside bytes is_open

pub inside_start : (text : Text) → 0 < length text → get_or text 0 0 ≡ 39 → Inside (take 1 text) true
inside_start [] some q = absurd (omega (arith, some))
inside_start (b ∷ bs) some q = still_open [] refl (ap (λ b. b ∷ []) q ∙ ap (λ s. 39 ∷ s) (sym doubled_none))

doubled_more : (content : Text) → doubled content ++ 39 ∷ 39 ∷ [] ≡ doubled (content ++ 39 ∷ [])
doubled_more content = ap (λ s. doubled content ++ s) (sym (doubled_quote [] ∙ ap (λ s. 39 ∷ 39 ∷ s) doubled_none)) ∙ sym (doubled_append content (39 ∷ []))

doubled_other : (content : Text) (b : ℕ) → (b == 39) ≡ false → doubled content ++ b ∷ [] ≡ doubled (content ++ b ∷ [])
doubled_other content b h = ap (λ s. doubled content ++ s) (sym (doubled_plain b [] h ∙ ap (λ s. b ∷ s) doubled_none)) ∙ sym (doubled_append content (b ∷ []))

-- the next byte
more : (text : Text) (i : ℕ) {bytes : Text} → i < length text → take i text ≡ bytes → take (i + 1) text ≡ bytes ++ get_or text i 0 ∷ []
more text i lt e = take_more text i 0 lt ∙ ap (λ s. s ++ get_or text i 0 ∷ []) e

inside_ends : (text : Text) (i : ℕ) → i < length text → Inside (take i text) true → get_or text i 0 ≡ 39 → Inside (take (i + 1) text) false
inside_ends text i lt (still_open content o e) q = has_end content refl (more text i lt e ∙ ap (λ b. 39 ∷ (doubled content ++ b ∷ [])) q)
inside_ends text i lt (has_end content o e) q = absurd cc

inside_doubles : (text : Text) (i : ℕ) → i < length text → Inside (take i text) false → get_or text i 0 ≡ 39 → Inside (take (i + 1) text) true
inside_doubles text i lt (still_open content o e) q = absurd cc
inside_doubles text i lt (has_end content o e) q =
    still_open (content ++ 39 ∷ []) refl
    (more text i lt e ∙ (ap (λ s. 39 ∷ s) (append_assoc (doubled content) (39 ∷ []) (get_or text i 0 ∷ [])) ∙ (ap (λ b. 39 ∷ (doubled content ++ 39 ∷ b ∷ [])) q ∙ ap (λ s. 39 ∷ s) (doubled_more content))))

pub inside_turns : (text : Text) (i : ℕ) (is_open : Bool) → i < length text → Inside (take i text) is_open → get_or text i 0 ≡ 39 → Inside (take (i + 1) text) (not is_open)
inside_turns text i true lt inside q = inside_ends text i lt inside q
inside_turns text i false lt inside q = inside_doubles text i lt inside q

pub inside_goes : (text : Text) (i : ℕ) → i < length text → Inside (take i text) true → (get_or text i 0 ≡ 39 → ⊥) → Inside (take (i + 1) text) true
inside_goes text i lt (still_open content o e) q = still_open (content ++ get_or text i 0 ∷ []) refl (more text i lt e ∙ ap (λ s. 39 ∷ s) (doubled_other content (get_or text i 0) (⊎_elim (λ quote. absurd (q quote)) (λ plain. plain) (quote_or (get_or text i 0)))))
inside_goes text i lt (has_end content o e) q = absurd cc

-- ---- the piece

quoted_most : {other rest : Text} {piece : Piece} (content after : Text) → doubled content ++ rest ≡ other ++ after → Shut rest → Quoted other piece → length other + 1 ≤ length (doubled content) + 2
quoted_most {rest = rest} content after e end (closed d f is) =
    let whole : doubled content ++ rest ≡ doubled d ++ 39 ∷ after = e ∙ (ap (λ s. s ++ after) f ∙ append_assoc (doubled d) (39 ∷ []) after) in
    omega (arith, doubled_longer content d (reach content d rest (39 ∷ after) whole end), ap length f, length-append (doubled d) (39 ∷ []))
quoted_most {rest = rest} content after e end (left d f is) =
    omega (arith, doubled_longer content d (reach content d rest after (e ∙ ap (λ s. s ++ after) f) end), ap length f)

closed_begins : (b : ℕ) (bs : Text) (n : ℕ) (content : Text) → n ≤ length (b ∷ bs) → take n (b ∷ bs) ≡ 39 ∷ (doubled content ++ 39 ∷ []) → ((rest : Text) → drop n (b ∷ bs) ≡ 39 ∷ rest → ⊥) → Begins (b ∷ bs) (p.Good s.Literal) n
closed_begins b bs zero content few e alone = absurd cc
closed_begins b bs (suc n) content few e alone =
    let first : b ≡ 39 = cc in
    let inside : take n bs ≡ doubled content ++ 39 ∷ [] = cc in
    let whole : bs ≡ doubled content ++ 39 ∷ drop n bs = sym (take-append-drop n bs) ∙ (ap (λ s. s ++ drop n bs) inside ∙ append_assoc (doubled content) (39 ∷ []) (drop n bs)) in
    let end : Shut (39 ∷ drop n bs) = record { behind = drop n bs; at = refl; alone = alone } in
    let long : length (doubled content) + 1 ≡ n = omega (arith, taken bs n (omega (arith, few)), ap length inside, length-append (doubled content) (39 ∷ [])) in
    begins_spelled b bs (suc n) (p.Good s.Literal) (Good (t.Text content)) few
    (record {
      most = λ other after second f spelled. omega (arith, quoted_most content after (sym whole ∙ f) end (quote_piece first spelled), long);
    })
    (record { token = t.Text content; has = record { content = content; cut = e; is = refl }; is = refl })
    (good (t.Text content) (literal content e refl) refl)

at_front : (text rest : Text) (n : ℕ) → drop n text ≡ 39 ∷ rest → (n < length text) × (get_or text n 0 ≡ 39)
at_front [] rest zero e = absurd cc
at_front [] rest (suc n) e = absurd cc
at_front (b ∷ text) rest zero e = (omega arith, cc)
at_front (b ∷ text) rest (suc n) e = let behind = at_front text rest n e in (omega (arith, behind.0), behind.1)

pub begins_literal : (text : Text) (n : ℕ) → 0 < length text → n ≤ length text → Inside (take n text) false → (n < length text → get_or text n 0 ≡ 39 → ⊥) → Begins text (p.Good s.Literal) n
begins_literal text n some few (still_open content o e) alone = absurd cc
begins_literal [] n some few (has_end content o e) alone = absurd (omega (arith, some))
begins_literal (b ∷ bs) n some few (has_end content o e) alone =
    closed_begins b bs n content few e (λ rest f. let at = at_front (b ∷ bs) rest n f in alone at.0 at.1)

pub begins_unclosed : (text : Text) → 0 < length text → Inside (take (length text) text) true → Begins text p.Unclosed (length text)
begins_unclosed text some (has_end content o e) = absurd cc
begins_unclosed [] some (still_open content o e) = absurd (omega (arith, some))
begins_unclosed (b ∷ bs) some (still_open content o e) =
    begins_spelled b bs (length (b ∷ bs)) p.Unclosed Unclosed (omega arith)
    (record { most = λ other after second f spelled. omega (arith, ap length f, length-append other after) })
    refl (unclosed content e refl)
