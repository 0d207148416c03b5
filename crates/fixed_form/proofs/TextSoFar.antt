-- The text that columns leave, one column at a time.
use Rattle.std.proofs.Common.{◌≡◌, ℕ, ◌+◌, ◌<◌, ◌≤◌, Bool, true, false, not, ◌&&◌, ◌||◌, [], ◌∷◌, ◌++◌, length, take, drop, drop-cons, add-one, get_or, ap, sym, ◌∙◌, refl, append_assoc}
use Rattle.std.proofs.lemmas.List.{take_more, append-nil, drop_all}
use Rattle.std.proofs.lemmas.List.Sums.{fold-append}
use Rattle.fixed_form.specs.Lines.{Text}
use Rattle.fixed_form.specs.Cards.{kept, inside_after, inside_from, text_from, is_strange, has_strange}

pub inside_append : (inside : Bool) (xs ys : Text) → inside_from inside (xs ++ ys) ≡ inside_from (inside_from inside xs) ys
unfolding inside_from
inside_append inside xs ys = fold-append inside_after inside xs ys

pub text_none : (inside : Bool) → text_from inside [] ≡ []
unfolding text_from
text_none inside = refl

pub inside_none : (inside : Bool) → inside_from inside [] ≡ inside
unfolding inside_from
inside_none inside = refl

text_step : (inside : Bool) (b : ℕ) (bs : Text) → text_from inside (b ∷ bs) ≡ kept inside b ++ text_from (inside_after inside b) bs
unfolding text_from
text_step inside b bs = refl

inside_step : (inside : Bool) (b : ℕ) (bs : Text) → inside_from inside (b ∷ bs) ≡ inside_from (inside_after inside b) bs
unfolding inside_from
inside_step inside b bs = refl

pub text_append : (inside : Bool) (xs ys : Text) → text_from inside (xs ++ ys) ≡ text_from inside xs ++ text_from (inside_from inside xs) ys
text_append inside [] ys = ap (λ i. text_from i ys) (sym (inside_none inside)) ∙ ap (λ t. t ++ text_from (inside_from inside []) ys) (sym (text_none inside))
text_append inside (x ∷ xs) ys =
    text_step inside x (xs ++ ys)
    ∙ (ap (λ t. kept inside x ++ t) (text_append (inside_after inside x) xs ys)
    ∙ (sym (append_assoc (kept inside x) (text_from (inside_after inside x) xs) (text_from (inside_from (inside_after inside x) xs) ys))
    ∙ (ap (λ t. t ++ text_from (inside_from (inside_after inside x) xs) ys) (sym (text_step inside x xs))
    ∙ ap (λ i. text_from inside (x ∷ xs) ++ text_from i ys) (sym (inside_step inside x xs)))))

one_text : (inside : Bool) (b : ℕ) → text_from inside (b ∷ []) ≡ kept inside b
one_text inside b = text_step inside b [] ∙ (ap (λ t. kept inside b ++ t) (text_none (inside_after inside b)) ∙ append-nil (kept inside b))

pub text_more : (inside : Bool) (part : Text) (i : ℕ) → i < length part → text_from inside (take (i + 1) part) ≡ text_from inside (take i part) ++ kept (inside_from inside (take i part)) (get_or part i 0)
text_more inside part i h =
    ap (text_from inside) (take_more part i 0 h)
    ∙ (text_append inside (take i part) (get_or part i 0 ∷ []) ∙ ap (λ t. text_from inside (take i part) ++ t) (one_text (inside_from inside (take i part)) (get_or part i 0)))

pub inside_more : (inside : Bool) (part : Text) (i : ℕ) → i < length part → inside_from inside (take (i + 1) part) ≡ inside_after (inside_from inside (take i part)) (get_or part i 0)
inside_more inside part i h =
    ap (inside_from inside) (take_more part i 0 h)
    ∙ (inside_append inside (take i part) (get_or part i 0 ∷ []) ∙ (inside_step (inside_from inside (take i part)) (get_or part i 0) [] ∙ inside_none (inside_after (inside_from inside (take i part)) (get_or part i 0))))

pub ruleset so_far = (text_none, inside_none, text_more, inside_more)

-- ---- strange bytes

pub strange_none : (inside : Bool) → has_strange inside [] ≡ false
unfolding has_strange
strange_none inside = refl

strange_step : (inside : Bool) (b : ℕ) (bs : Text) → has_strange inside (b ∷ bs) ≡ ((not inside && is_strange b) || has_strange (inside_after inside b) bs)
unfolding has_strange
strange_step inside b bs = refl

-- how much of the answer is known after i columns
pub strange_more : (inside : Bool) (bs : Text) (i : ℕ) → i < length bs → has_strange (inside_from inside (take i bs)) (drop i bs)
    ≡ ((not (inside_from inside (take i bs)) && is_strange (get_or bs i 0)) || has_strange (inside_from inside (take (i + 1) bs)) (drop (i + 1) bs))
strange_more inside bs i h =
    ap (has_strange (inside_from inside (take i bs))) (drop-cons bs i 0 h ∙ ap (λ n. get_or bs i 0 ∷ drop n bs) (sym (add-one i)))
    ∙ (strange_step (inside_from inside (take i bs)) (get_or bs i 0) (drop (i + 1) bs)
    ∙ ap (λ behind. (not (inside_from inside (take i bs)) && is_strange (get_or bs i 0)) || has_strange behind (drop (i + 1) bs)) (sym (inside_more inside bs i h)))

or_true : (a b : Bool) → a ≡ true → (a || b) ≡ true
or_true a b h = ap (λ a. a || b) h

or_false : (a b : Bool) → a ≡ false → (a || b) ≡ b
or_false a b h = ap (λ a. a || b) h

pub strange_here : (inside behind : Bool) (bs : Text) (i : ℕ) → i < length bs → behind ≡ inside_from inside (take i bs) → has_strange inside bs ≡ has_strange behind (drop i bs) →
    (not behind && is_strange (get_or bs i 0)) ≡ true → true ≡ has_strange inside bs
strange_here inside behind bs i h e known found =
    sym (known ∙ (ap (λ b. has_strange b (drop i bs)) e ∙ (strange_more inside bs i h ∙ or_true _ _ (ap (λ b. not b && is_strange (get_or bs i 0)) (sym e) ∙ found))))

pub strange_next : (inside behind : Bool) (bs : Text) (i : ℕ) → i < length bs → behind ≡ inside_from inside (take i bs) → has_strange inside bs ≡ has_strange behind (drop i bs) →
    (not behind && is_strange (get_or bs i 0)) ≡ false → has_strange inside bs ≡ has_strange (inside_after behind (get_or bs i 0)) (drop (i + 1) bs)
strange_next inside behind bs i h e known none =
    known ∙ (ap (λ b. has_strange b (drop i bs)) e ∙ (strange_more inside bs i h ∙ (or_false _ _ (ap (λ b. not b && is_strange (get_or bs i 0)) (sym e) ∙ none)
    ∙ ap (λ b. has_strange b (drop (i + 1) bs)) (inside_more inside bs i h ∙ ap (λ b. inside_after b (get_or bs i 0)) (sym e)))))

pub strange_end : (inside behind : Bool) (bs : Text) (i : ℕ) → length bs ≤ i → has_strange inside bs ≡ has_strange behind (drop i bs) → false ≡ has_strange inside bs
strange_end inside behind bs i h known = sym (known ∙ (ap (has_strange behind) (drop_all i bs h) ∙ strange_none behind))
