-- A relation of two lists place by place, and an element that has no partner.
use Rattle.std.proofs.Common.{◌≡◌, ℕ, zero, suc, ◌+◌, ◌<◌, ◌≤◌, List, [], ◌∷◌, ◌++◌, length, take, drop, get_or, sym, ap, ◌∙◌, subst, arith}
use Rattle.std.specs.List.{AllZip}
use Rattle.std.proofs.lemmas.List.{take_more, take_all}
use Rattle.std.proofs.Math.Seq.{split_at}
use Rattle.thin_form.specs.Lacks.{Lacks}

zip_at : {A B : Type 0} (R : A → B → Type 0) (xs : List A) (x : A) (ys : List A) (zs : List B) → AllZip R (xs ++ x ∷ ys) zs → (z : B) × R x z
zip_at R [] x ys [] h = absurd h
zip_at R [] x ys (z ∷ zs) h = (z, h.0)
zip_at R (w ∷ xs) x ys [] h = absurd h
zip_at R (w ∷ xs) x ys (z ∷ zs) h = zip_at R xs x ys zs h.1

zip_push : {A B : Type 0} (R : A → B → Type 0) (xs : List A) (x : A) (zs : List B) (z : B) → AllZip R xs zs → R x z → AllZip R (xs ++ x ∷ []) (zs ++ z ∷ [])
zip_push R [] x [] z h r = (r, tt)
zip_push R [] x (w ∷ zs) z h r = absurd h
zip_push R (w ∷ xs) x [] z h r = absurd h
zip_push R (w ∷ xs) x (v ∷ zs) z h r = (h.0, zip_push R xs x zs z h.1 r)

-- the element at an index has no partner
pub no_zip : {A B : Type 0} (R : A → B → Type 0) (xs : List A) (i : ℕ) (x : A) → i < length xs → x ≡ get_or xs i x → Lacks (R x) → Lacks (AllZip R xs)
no_zip R xs i x l h none = record {
  not = λ zs all.
      let cut : xs ≡ take i xs ++ x ∷ drop (suc i) xs = split_at xs i x l ∙ ap (λ y. take i xs ++ y ∷ drop (suc i) xs) (sym h) in
      let at = zip_at R (take i xs) x (drop (suc i) xs) zs (subst (λ ys. AllZip R ys zs) cut all) in
      none.not at.0 at.1;
}

pub zip_more : {A B : Type 0} (R : A → B → Type 0) (xs : List A) (i : ℕ) (x : A) (zs : List B) (z : B) → i < length xs → x ≡ get_or xs i x → AllZip R (take i xs) zs → R x z → AllZip R (take (i + 1) xs) (zs ++ z ∷ [])
zip_more R xs i x zs z l h all r =
    let cut : take (i + 1) xs ≡ take i xs ++ x ∷ [] = take_more xs i x l ∙ ap (λ y. take i xs ++ y ∷ []) (sym h) in
    subst (λ ys. AllZip R ys (zs ++ z ∷ [])) (sym cut) (zip_push R (take i xs) x zs z all r)

pub zip_whole : {A B : Type 0} (R : A → B → Type 0) (xs : List A) (i : ℕ) (zs : List B) → length xs ≤ i → AllZip R (take i xs) zs → AllZip R xs zs
zip_whole R xs i zs l all = subst (λ ys. AllZip R ys zs) (take_all i xs l) all
