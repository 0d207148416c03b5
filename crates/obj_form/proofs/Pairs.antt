-- Pairs of words, as they are taken one after another.
use Rattle.std.proofs.Common.{◌≡◌, ℕ, zero, suc, ◌+◌, ◌<◌, ◌≤◌, ◌⊎◌, Bool, true, false, List, [], ◌∷◌, ◌++◌, length, take, drop, replicate, Some, refl, sym, ap, subst, ◌∙◌, inl, inr, arith}
use Rattle.std.specs.Prelude.{slice_set}
use Rattle.std.specs.List.{slice_get}
use Rattle.std.proofs.lemmas.Bool.{cases_lt}
use Rattle.std.proofs.lemmas.List.{append-nil, drop_all, length-replicate, take_all}
use Rattle.std.proofs.lemmas.Option.{slice_get_within}
use Rattle.obj_form.specs.declared.object.Reloc.{Reloc}
use Rattle.obj_form.specs.Objects.{AreApart, ArePairs}

-- ---- one word that is taken

either_taken : (t : List Bool) (w k : ℕ) → slice_get (slice_set t w true) k ≡ Some true → (k ≡ w) ⊎ (slice_get t k ≡ Some true)
either_taken [] w k h = inr h
either_taken (b ∷ t) zero zero h = inl refl
either_taken (b ∷ t) zero (suc k) h = inr h
either_taken (b ∷ t) (suc w) zero h = inr h
either_taken (b ∷ t) (suc w) (suc k) h = elim (either_taken t w k h) [ inl e ↦ inl (ap suc e) | inr g ↦ inr g ]

still_taken : (t : List Bool) (w k : ℕ) → slice_get t k ≡ Some true → slice_get (slice_set t w true) k ≡ Some true
still_taken [] w k h = h
still_taken (b ∷ t) zero zero h = refl
still_taken (b ∷ t) zero (suc k) h = h
still_taken (b ∷ t) (suc w) zero h = h
still_taken (b ∷ t) (suc w) (suc k) h = still_taken t w k h

now_taken : (t : List Bool) (w : ℕ) (b : Bool) → slice_get t w ≡ Some b → slice_get (slice_set t w true) w ≡ Some true
now_taken [] w b h = cc h
now_taken (c ∷ t) zero b h = refl
now_taken (c ∷ t) (suc w) b h = now_taken t w b h

as_long : (t : List Bool) (w : ℕ) → length (slice_set t w true) ≡ length t
as_long [] w = refl
as_long (b ∷ t) zero = refl
as_long (b ∷ t) (suc w) = ap suc (as_long t w)

stays_put : (t : List Bool) (w k : ℕ) (b : Bool) → k < w → slice_get t w ≡ Some b → slice_get (slice_set t k true) w ≡ Some b
stays_put [] w k b below h = h
stays_put (c ∷ t) zero k b below h = absurd (omega arith)
stays_put (c ∷ t) (suc w) zero b below h = h
stays_put (c ∷ t) (suc w) (suc k) b below h = stays_put t w k b (omega arith) h

none_taken : (n k : ℕ) → slice_get (replicate n false) k ≡ Some true → ⊥
none_taken zero k h = cc h
none_taken (suc n) zero h = cc h
none_taken (suc n) (suc k) h = none_taken n k h

free_unless : (t : List Bool) (k : ℕ) → k < length t → (slice_get t k ≡ Some true → ⊥) → slice_get t k ≡ Some false
free_unless [] k within never = absurd (omega arith)
free_unless (true ∷ t) zero within never = absurd (never refl)
free_unless (false ∷ t) zero within never = refl
free_unless (b ∷ t) (suc k) within never = free_unless t k (omega arith) never

clash : (t : List Bool) (a b : ℕ) → a ≡ b → slice_get t a ≡ Some true → slice_get t b ≡ Some false → ⊥
clash t a b e h g = let same : Some true ≡ Some false = sym h ∙ ap (slice_get t) e ∙ g in cc same

same_reloc : (relocs : List Reloc) (i j : ℕ) (r s : Reloc) → i ≡ j → slice_get relocs i ≡ Some r → slice_get relocs j ≡ Some s → s ≡ r
same_reloc relocs i j r s e ri sj = let same : Some s ≡ Some r = sym sj ∙ ap (slice_get relocs) (sym e) ∙ ri in cc same

-- ---- the words of the first relocations

abbrev pub pair_set : List Bool → ℕ → List Bool
pair_set t w = slice_set (slice_set t w true) (w + 1) true

pub pair_set-long : (t : List Bool) (w : ℕ) → length (pair_set t w) ≡ length t
pair_set-long t w = as_long (slice_set t w true) (w + 1) ∙ as_long t w

-- all of a vector, written as a slice
pub whole_slice : (n : ℕ) (new old : List Bool) → length new ≡ n → length old ≡ n → take n (new ++ drop (length new) old) ≡ new
whole_slice n new old e f =
    ap (λ r. take n (new ++ r)) (drop_all (length new) old (omega (arith, e, f)))
    ∙ ap (take n) (append-nil new)
    ∙ take_all n new (omega (arith, e))

abbrev pub Covers : Reloc → ℕ → Type 0
Covers r k = (r.word ≡ k) ⊎ (r.word + 1 ≡ k)

-- The words that are taken are those of the first n relocations, whose pairs lie in the code and apart.
pub record Taken (words : ℕ) (relocs : List Reloc) (n : ℕ) (taken : List Bool) : Type 0 where
  pub size : length taken ≡ words
  pub covered : (k : ℕ) → slice_get taken k ≡ Some true → (i : ℕ) × (r : Reloc) × (i < n) × (slice_get relocs i ≡ Some r) × Covers r k
  pub marked : (i : ℕ) (r : Reloc) → i < n → slice_get relocs i ≡ Some r → (slice_get taken r.word ≡ Some true) × (slice_get taken (r.word + 1) ≡ Some true)
  pub inside : (i : ℕ) (r : Reloc) → i < n → slice_get relocs i ≡ Some r → r.word + 2 ≤ words
  pub apart : (i j : ℕ) (r s : Reloc) → i < j → j < n → slice_get relocs i ≡ Some r → slice_get relocs j ≡ Some s → AreApart r s

pub taken_none : (words : ℕ) (relocs : List Reloc) → Taken words relocs 0 (replicate words false)
taken_none words relocs = record {
  size = length-replicate {A = Bool} words false;
  covered = λ k h. absurd (none_taken words k h);
  marked = λ i r below ri. absurd (omega arith);
  inside = λ i r below ri. absurd (omega arith);
  apart = λ i j r s order below ri sj. absurd (omega arith);
}

apart_from : (t : List Bool) (r s : Reloc) → slice_get t r.word ≡ Some true → slice_get t (r.word + 1) ≡ Some true
    → slice_get t s.word ≡ Some false → slice_get t (s.word + 1) ≡ Some false → AreApart r s
apart_from t r s first second free after = elim (cases_lt (r.word + 1) s.word) [
  | inl before ↦ inl (omega arith)
  | inr not_before ↦ elim (cases_lt (s.word + 1) r.word) [
    | inl behind ↦ inr (omega arith)
    | inr not_behind ↦ elim (cases_lt r.word s.word) [
      | inl less ↦ let e : r.word + 1 ≡ s.word = omega arith in absurd (clash t (r.word + 1) s.word e second free)
      | inr not_less ↦ elim (cases_lt s.word r.word) [
        | inl more ↦ let e : r.word ≡ s.word + 1 = omega arith in absurd (clash t r.word (s.word + 1) e first after)
        | inr not_more ↦ let e : r.word ≡ s.word = omega arith in absurd (clash t r.word s.word e first free)
      ]
    ]
  ]
]

module _ (words : ℕ) (relocs : List Reloc) (n : ℕ) (taken : List Bool) (now : Reloc) (stands : slice_get relocs n ≡ Some now) (before : Taken words relocs n taken) where
  -- where all are pairs, those of this one are free
  pub free_if_pairs : ArePairs words relocs → (slice_get taken now.word ≡ Some false) × (slice_get taken (now.word + 1) ≡ Some false)
  free_if_pairs pairs =
      let room : now.word + 2 ≤ words = pairs.0 n now stands in
      let size = before.size in (
        free_unless taken now.word (omega arith) (λ h.
            let by = before.covered now.word h in
            let apart = pairs.1 by.0 n by.1 now by.2 by.3 stands in
            elim apart [
              | inl less ↦ elim by.4 [ inl e ↦ absurd (omega arith) | inr e ↦ absurd (omega arith) ]
              | inr more ↦ elim by.4 [ inl e ↦ absurd (omega arith) | inr e ↦ absurd (omega arith) ]
            ]),
        free_unless taken (now.word + 1) (omega arith) (λ h.
            let by = before.covered (now.word + 1) h in
            let apart = pairs.1 by.0 n by.1 now by.2 by.3 stands in
            elim apart [
              | inl less ↦ elim by.4 [ inl e ↦ absurd (omega arith) | inr e ↦ absurd (omega arith) ]
              | inr more ↦ elim by.4 [ inl e ↦ absurd (omega arith) | inr e ↦ absurd (omega arith) ]
            ]),
      )

  pub taken_more : slice_get taken now.word ≡ Some false → slice_get taken (now.word + 1) ≡ Some false
      → Taken words relocs (n + 1) (pair_set taken now.word)
  taken_more free after = record {
    size = as_long (slice_set taken now.word true) (now.word + 1) ∙ as_long taken now.word ∙ before.size;
    covered = λ k h. elim (either_taken (slice_set taken now.word true) (now.word + 1) k h) [
      | inl e ↦ (n, now, omega arith, stands, inr (sym e))
      | inr g ↦ elim (either_taken taken now.word k g) [
        | inl e ↦ (n, now, omega arith, stands, inl (sym e))
        | inr f ↦ let by = before.covered k f in let less = by.2 in (by.0, by.1, omega arith, by.3, by.4)
      ]
    ];
    marked = λ i r below ri. elim (cases_lt i n) [
      | inl less ↦
          let old = before.marked i r less ri in (
            still_taken (slice_set taken now.word true) (now.word + 1) r.word (still_taken taken now.word r.word old.0),
            still_taken (slice_set taken now.word true) (now.word + 1) (r.word + 1) (still_taken taken now.word (r.word + 1) old.1),
          )
      | inr top ↦
          let e : i ≡ n = omega arith in
          let same : now ≡ r = same_reloc relocs i n r now e ri stands in
          subst (λ q. (slice_get (pair_set taken now.word) q.word ≡ Some true) × (slice_get (pair_set taken now.word) (q.word + 1) ≡ Some true)) same (
            still_taken (slice_set taken now.word true) (now.word + 1) now.word (now_taken taken now.word false free),
            now_taken (slice_set taken now.word true) (now.word + 1) false (stays_put taken (now.word + 1) now.word false (omega arith) after),
          )
    ];
    inside = λ i r below ri. elim (cases_lt i n) [
      | inl less ↦ before.inside i r less ri
      | inr top ↦
          let e : i ≡ n = omega arith in
          let same : now ≡ r = same_reloc relocs i n r now e ri stands in
          let room = slice_get_within taken (now.word + 1) false after in
          let size = before.size in
          subst (λ q. q.word + 2 ≤ words) same (omega arith)
    ];
    apart = λ i j r s order below ri sj. elim (cases_lt j n) [
      | inl less ↦ before.apart i j r s order less ri sj
      | inr top ↦
          let e : j ≡ n = omega arith in
          let same : now ≡ s = same_reloc relocs j n s now e sj stands in
          let old = before.marked i r (omega arith) ri in
          subst (AreApart r) same (apart_from taken r now old.0 old.1 free after)
    ];
  }

pub taken_all : (words : ℕ) (relocs : List Reloc) (n : ℕ) (taken : List Bool) → length relocs ≤ n → Taken words relocs n taken → ArePairs words relocs
taken_all words relocs n taken all t = (
  λ i r ri. let within = slice_get_within relocs i r ri in t.inside i r (omega arith) ri,
  λ i j r s order ri sj. let within = slice_get_within relocs j s sj in t.apart i j r s order (omega arith) ri sj,
)
