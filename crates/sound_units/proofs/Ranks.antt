-- Where no unit leads back to itself, a callee leads to fewer units than its caller.
use Rattle.std.proofs.Common.{◌≡◌, ℕ, zero, suc, ◌+◌, ◌-◌, ◌<◌, ◌≤◌, ◌⊎◌, inl, inr, Bool, true, false, Some, List, [], ◌∷◌, length, slice_get, refl, ap, subst, arith, ⊎_elim, if◌then◌else◌}
use Rattle.std.specs.Prelude.{slice_index_or}
use Rattle.std.proofs.lemmas.Option.{slice_get_within}
use Rattle.call_cycles.specs.declared.cycles.Edge.{Edge}
use Rattle.call_cycles.specs.Cycles.{Rows, Targets, Leads, LeadsBack, here, by}
use Rattle.call_cycles.specs.Searching.{led_to}
use Rattle.call_cycles.proofs.Reaching.{found_led, led_found}
use Rattle.sound_units.proofs.Lists.{untrue}

-- ---- counting

abbrev pub as_one : Bool → ℕ
as_one b = if b then 1 else 0

-- of the numbers below this one, how many pass the test
abbrev pub counted_below : ℕ → (ℕ → Bool) → ℕ
counted_below zero test = 0
counted_below (suc n) test = as_one (test n) + counted_below n test

one_at_most : (b : Bool) → as_one b ≤ 1
one_at_most true = omega arith
one_at_most false = omega arith

pub count_within : (n : ℕ) (test : ℕ → Bool) → counted_below n test ≤ n
count_within zero test = omega arith
count_within (suc n) test = let a = one_at_most (test n) in let b = count_within n test in omega arith

not_more : (b c : Bool) → (b ≡ true → c ≡ true) → as_one b ≤ as_one c
not_more true true h = omega arith
not_more true false h = let e : false ≡ true = h refl in cc
not_more false c h = omega arith

count_more : (n : ℕ) (s t : ℕ → Bool) → ((x : ℕ) → x < n → s x ≡ true → t x ≡ true) → counted_below n s ≤ counted_below n t
count_more zero s t h = omega arith
count_more (suc n) s t h =
    let a = not_more (s n) (t n) (h n (omega arith)) in
    let b = count_more n s t (λ x l. h x (omega arith)) in
    omega arith

-- one that passes the second test alone
pub count_less : (n : ℕ) (s t : ℕ → Bool) → ((x : ℕ) → x < n → s x ≡ true → t x ≡ true) → (c : ℕ) → c < n → s c ≡ false → t c ≡ true → counted_below n s < counted_below n t
count_less zero s t h c l f g = absurd (omega arith)
count_less (suc n) s t h c l f g = ⊎_elim last (earlier (λ k. count_less n s t (λ x l. h x (omega arith)) c k f g)) (place c n l)
  where
    place : (c n : ℕ) → c < suc n → (c ≡ n) ⊎ (c < n)
    place zero zero l = inl refl
    place zero (suc n) l = inr (omega arith)
    place (suc c) zero l = absurd (omega arith)
    place (suc c) (suc n) l = ⊎_elim (λ e. inl (ap suc e)) (λ k. inr (omega arith)) (place c n (omega arith))

    last : c ≡ n → counted_below (suc n) s < counted_below (suc n) t
    last e =
        let fewer : as_one (s n) ≡ 0 = ap as_one (subst (λ c. s c ≡ false) e f) in
        let more : as_one (t n) ≡ 1 = ap as_one (subst (λ c. t c ≡ true) e g) in
        let b = count_more n s t (λ x l. h x (omega arith)) in
        omega (arith, fewer, more)

    earlier : (c < n → counted_below n s < counted_below n t) → c < n → counted_below (suc n) s < counted_below (suc n) t
    earlier less k =
        let a = not_more (s n) (t n) (h n (omega arith)) in
        let b = less k in
        omega arith

-- ---- what a unit leads to

get_flag : (s : List Bool) (x : ℕ) → slice_get s x ≡ Some true → slice_index_or s x false ≡ true
get_flag [] x e = cc
get_flag (b ∷ s) zero e = cc
get_flag (b ∷ s) (suc x) e = get_flag s x e

flag_get : (s : List Bool) (x : ℕ) → slice_index_or s x false ≡ true → slice_get s x ≡ Some true
flag_get [] x e = cc
flag_get (b ∷ s) zero e = ap Some e
flag_get (b ∷ s) (suc x) e = flag_get s x e

module _ (all : Rows) where
  -- A chain of sites, which may be empty, leads from the one unit to the other.
  abbrev pub reaches : ℕ → ℕ → Bool
  reaches p x = slice_index_or (led_to all p).seen x false

  chain : (p x : ℕ) → reaches p x ≡ true → Leads all x p
  chain p x h = found_led all p x (flag_get (led_to all p).seen x h)

  reached : (p x : ℕ) → x < length all → Leads all x p → reaches p x ≡ true
  reached p x l d = get_flag (led_to all p).seen x (led_found all p x l d)

  -- how many other units a unit leads to
  abbrev pub reach : ℕ → ℕ
  reach p = counted_below (length all) (reaches p) - 1

  not_back : ((unit site : ℕ) → LeadsBack all unit site → ⊥) → (p c : ℕ) (row : List Edge) → slice_get all p ≡ Some row → Targets row c → reaches c p ≡ false
  not_back none p c row s calls = untrue (reaches c p) (λ h. none p calls.at (record { row = row; stands = s; edge = calls.edge; calls = calls.stands; next = c; leads = calls.leads; back = chain c p h }))

  -- A unit leads to itself, so that the one to leave out was counted.
  counts_itself : (p : ℕ) → p < length all → 0 < counted_below (length all) (reaches p)
  counts_itself p l =
      let less = count_less (length all) (λ x. false) (reaches p) (λ x k e. absurd (not_true e)) p l refl (reached p p l here) in
      omega (arith, less)
    where
      not_true : false ≡ true → ⊥
      not_true e = cc

  -- Where no unit leads back to itself, a callee leads to fewer units than its caller.
  pub fewer : ((unit site : ℕ) → LeadsBack all unit site → ⊥) → (p c : ℕ) (row called : List Edge) → slice_get all p ≡ Some row → slice_get all c ≡ Some called → Targets row c → reach c < reach p
  fewer none p c row called s t calls =
      let in_p : p < length all = slice_get_within all p row s in
      let in_c : c < length all = slice_get_within all c called t in
      let through : (x : ℕ) → x < length all → reaches c x ≡ true → reaches p x ≡ true = λ x l h. reached p x l (by p c (record { row = row; stands = s; targets = calls }) (chain c x h)) in
      let less = count_less (length all) (reaches c) (reaches p) through p in_p (not_back none p c row s calls) (reached p p in_p here) in
      let some = counts_itself c in_c in
      omega (arith, less, some)

  -- A unit leads to fewer other units than there are.
  pub reach_short : (p : ℕ) (row : List Edge) → slice_get all p ≡ Some row → reach p < length all
  reach_short p row s =
      let inside = slice_get_within all p row s in
      let within = count_within (length all) (reaches p) in
      omega (arith, inside, within)
