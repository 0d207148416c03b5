-- The first place outside literals and parentheses at which a byte stands.
use Rattle.std.proofs.Common.{◌≡◌, ℕ, zero, suc, ◌+◌, ◌<◌, ◌≤◌, Bool, false, not, ◌&&◌, ◌==◌, [], ◌∷◌, ◌++◌, length, take, drop, get_or, ap, sym, ◌∙◌, subst, refl, arith, ◌⊎◌, inl, inr}
use Rattle.std.proofs.Math.Nat.{eq-or-lt_of_le}
use Rattle.std.proofs.Math.Seq.{get_or-append_seam, take-append_seam, drop-append_seam}
use Rattle.std.proofs.lemmas.List.{take-append-drop}
use Rattle.std.proofs.lemmas.List.Sums.{fold_more}
use Rattle.std.proofs.lemmas.Bool.Decides.{nat_tests}
use Rattle.f77_expr.specs.Spelling.{Text}
use Rattle.form_kinds.specs.declared.scans.Scan.{Scan}
use Rattle.form_kinds.specs.Scans.{start, scan_after, scan_of, Outside, FirstOutside, NoneOutside, NoneBefore}

pub scan_none : (text : Text) → start ≡ scan_of (take 0 text)
unfolding scan_of
scan_none text = refl

pub scan_more : (text : Text) (i : ℕ) → i < length text → scan_of (take (i + 1) text) ≡ scan_after (scan_of (take i text)) (get_or text i 0)
unfolding scan_of
scan_more text i h = fold_more scan_after start text i 0 h

-- one byte opens at most one parenthesis
pub scan_deeper : (scan : Scan) (b : ℕ) → (scan_after scan b).depth ≤ scan.depth + 1
scan_deeper scan b = grind (arith, nat_tests)

-- a place in a text, by what is before it
place_before : {text : Text} (other more : Text) (mark : ℕ) → text ≡ other ++ mark ∷ more → take (length other) text ≡ other
place_before other more mark e = ap (take (length other)) e ∙ take-append_seam other (mark ∷ more)

place_at : {text : Text} (other more : Text) (mark : ℕ) → text ≡ other ++ mark ∷ more → get_or text (length other) 0 ≡ mark
place_at other more mark e = ap (λ t. get_or t (length other) 0) e ∙ get_or-append_seam other mark more 0

pub place_within : {text : Text} (other more : Text) (mark : ℕ) → text ≡ other ++ mark ∷ more → length other < length text
place_within [] more mark e = omega (arith, ap length e)
place_within (b ∷ other) more mark e = let less = place_within other more mark refl in omega (arith, less, ap length e)

pub none_start : (mark : ℕ) (text : Text) → NoneBefore mark text 0
none_start mark text = record { not = λ other more e out. omega arith }

none_step : {mark : ℕ} {text : Text} {i : ℕ} → (get_or text i 0 ≡ mark → Outside (take i text) → ⊥) → (other more : Text) → text ≡ other ++ mark ∷ more → Outside other → (i ≡ length other) ⊎ (i < length other) → i + 1 ≤ length other
none_step {mark} {text} {i} h other more e out (inl same) =
    absurd (h (ap (λ n. get_or text n 0) same ∙ place_at other more mark e) (subst Outside (sym (ap (λ n. take n text) same ∙ place_before other more mark e)) out))
none_step h other more e out (inr less) = omega (arith, less)

pub none_more : {mark : ℕ} {text : Text} {i : ℕ} → NoneBefore mark text i → (get_or text i 0 ≡ mark → Outside (take i text) → ⊥) → NoneBefore mark text (i + 1)
none_more none h = record { not = λ other more e out. none_step h other more e out (eq-or-lt_of_le (none.not other more e out)) }

found_out : (b mark : ℕ) (scan : Scan) → ((b == mark) && (not scan.quoted && (scan.depth == 0))) ≡ false → b ≡ mark → scan.quoted ≡ false → scan.depth ≡ 0 → ⊥
found_out b mark scan h e f g = grind (arith, nat_tests)

pub none_missed : {mark : ℕ} {text : Text} {i : ℕ} {scan : Scan} {found : Bool} → NoneBefore mark text i → scan ≡ scan_of (take i text) → found ≡ ((get_or text i 0 == mark) && (not scan.quoted && (scan.depth == 0))) → found ≡ false → NoneBefore mark text (i + 1)
none_missed {mark} {text} {i} {scan} none e f g = none_more none (λ at out. found_out (get_or text i 0) mark scan (sym f ∙ g) at (ap (λ s. s.quoted) e ∙ out.unquoted) (ap (λ s. s.depth) e ∙ out.closed))

pub none_at_all : {mark : ℕ} {text : Text} (n : ℕ) → NoneBefore mark text n → length text ≤ n → NoneOutside mark text
none_at_all n none h = record { not = λ other more e out. omega (arith, none.not other more e out, h, place_within other more _ e) }

split_drop : (text : Text) (i : ℕ) → i < length text → drop i text ≡ get_or text i 0 ∷ drop 1 (drop i text)
split_drop [] i h = absurd (omega (arith, h))
split_drop (b ∷ text) zero h = refl
split_drop (b ∷ text) (suc i) h = split_drop text i (omega (arith, h))

pub first_here : {mark : ℕ} {text before rest behind : Text} (i : ℕ) → NoneBefore mark text i → i < length text → get_or text i 0 ≡ mark → Outside (take i text) → before ≡ take i text → rest ≡ drop i text → behind ≡ drop 1 rest → length before ≡ i → FirstOutside mark text before behind
first_here {mark} {text} {before} {rest} {behind} i none h at out e f g n = record {
  cut = sym (take-append-drop i text) ∙ (ap (λ w. w ++ drop i text) (sym e) ∙ ap (λ r. before ++ r) (split_drop text i h ∙ (ap (λ b. b ∷ drop 1 (drop i text)) at ∙ ap (λ r. mark ∷ r) (sym (g ∙ ap (drop 1) f)))));
  outside = subst Outside (sym e) out;
  first = λ other more cut out. subst (λ k. k ≤ length other) (sym n) (none.not other more cut out);
}

-- ---- there is one first place

pub record SamePlace (p r q s : Text) : Type 0 where
  pub before : p ≡ q
  pub behind : r ≡ s

pub tail_same : {b c : ℕ} {x y : Text} → b ∷ x ≡ c ∷ y → x ≡ y
tail_same e = cc

pub first_same : {mark : ℕ} {text p r q s : Text} → FirstOutside mark text p r → FirstOutside mark text q s → SamePlace p r q s
first_same {mark} {text} {p} {r} {q} {s} a b =
    let lengths : length p ≡ length q = omega (arith, a.first q s b.cut b.outside, b.first p r a.cut a.outside) in
    let befores : p ≡ q = sym (place_before p r mark a.cut) ∙ (ap (λ n. take n text) lengths ∙ place_before q s mark b.cut) in
    let behinds : mark ∷ r ≡ mark ∷ s = sym (drop-append_seam p (mark ∷ r)) ∙ (ap (drop (length p)) (sym a.cut ∙ b.cut) ∙ (ap (λ n. drop n (q ++ mark ∷ s)) lengths ∙ drop-append_seam q (mark ∷ s))) in
    record { before = befores; behind = tail_same behinds }

pub first_none : {mark : ℕ} {text p r : Text} → NoneOutside mark text → FirstOutside mark text p r → ⊥
first_none {p = p} {r = r} none a = none.not p r a.cut a.outside
