-- How far a run goes.
use Rattle.std.proofs.Common.{◌≡◌, ℕ, zero, suc, ◌+◌, ◌<◌, ◌≤◌, Bool, true, false, [], ◌∷◌, ◌++◌, length, take, get_or, ap, ◌∙◌, subst, refl, arith}
use Rattle.std.specs.List.{list_all}
use Rattle.std.proofs.lemmas.List.{take_more}
use Rattle.f77_expr.specs.Spelling.{Text}
use Rattle.f77_expr.specs.Runs.{IsRun}
use Rattle.f77_expr.proofs.Classes.{and_left, and_right, and_both, false_true}

all_push : (f : ℕ → Bool) (xs : Text) (b : ℕ) → list_all f xs ≡ true → f b ≡ true → list_all f (xs ++ b ∷ []) ≡ true
all_push f [] b h e = and_both (f b) true e refl
all_push f (x ∷ xs) b h e = and_both (f x) (list_all f (xs ++ b ∷ [])) (and_left (f x) (list_all f xs) h) (all_push f xs b (and_right (f x) (list_all f xs) h) e)

pub all_more : (f : ℕ → Bool) (text : Text) (i : ℕ) → i < length text → list_all f (take i text) ≡ true → f (get_or text i 0) ≡ true → list_all f (take (i + 1) text) ≡ true
all_more f text i lt h e = ap (list_all f) (take_more text i 0 lt) ∙ all_push f (take i text) (get_or text i 0) h e

pub all_first : (f : ℕ → Bool) (b : ℕ) (bs : Text) → list_all f (b ∷ bs) ≡ true → f b ≡ true
all_first f b bs h = and_left (f b) (list_all f bs) h

pub all_others : (f : ℕ → Bool) (b : ℕ) (bs : Text) → list_all f (b ∷ bs) ≡ true → list_all f bs ≡ true
all_others f b bs h = and_right (f b) (list_all f bs) h

run_tail : {f : ℕ → Bool} {b : ℕ} {bs : Text} {n : ℕ} → IsRun f (b ∷ bs) (suc n) → IsRun f bs n
run_tail {f} {b} {bs} {n} run = record { within = omega (arith, run.within); each = and_right (f b) (list_all f (take n bs)) run.each; stops = λ h. run.stops (omega (arith, h)) }

pub run_longest : {f : ℕ → Bool} (text other more : Text) (n : ℕ) → IsRun f text n → text ≡ other ++ more → list_all f other ≡ true → length other ≤ n
run_longest text [] more n run e each = omega arith
run_longest [] (c ∷ other) more n run e each = absurd (omega (arith, ap length e))
run_longest {f} (b ∷ bs) (c ∷ other) more zero run e each =
    let same : c ≡ b = cc in
    let stop = run.stops (omega arith) in
    let yes : f b ≡ true = subst (λ c. f c ≡ true) same (all_first f c other each) in
    absurd (false_true stop yes)
run_longest {f} (b ∷ bs) (c ∷ other) more (suc n) run e each =
    let tail : bs ≡ other ++ more = cc in
    omega (arith, run_longest bs other more n (run_tail run) tail (all_others f c other each))

-- what is of the class, with a byte behind it that isn't, is the run
pub run_is : {f : ℕ → Bool} (text other more : Text) (b n : ℕ) → IsRun f text n → text ≡ other ++ b ∷ more → list_all f other ≡ true → f b ≡ false → length other ≡ n
run_is text [] more b zero run e each h = refl
run_is {f} text [] more b (suc n) run e each h =
    let front : list_all f (take (suc n) (b ∷ more)) ≡ true = subst (λ text. list_all f (take (suc n) text) ≡ true) e run.each in
    absurd (false_true h (all_first f b (take n more) front))
run_is [] (c ∷ other) more b n run e each h = absurd (omega (arith, ap length e))
run_is {f} (a ∷ text) (c ∷ other) more b zero run e each h =
    let same : c ≡ a = cc in
    absurd (false_true (run.stops (omega arith)) (subst (λ c. f c ≡ true) same (all_first f c other each)))
run_is {f} (a ∷ text) (c ∷ other) more b (suc n) run e each h =
    let tail : text ≡ other ++ b ∷ more = cc in
    ap suc (run_is text other more b n (run_tail run) tail (all_others f c other each) h)
