-- The units of a program by their names.
use Rattle.std.proofs.lemmas.List.{append_assoc, at_drop_more}
use Rattle.std.proofs.Common.{◌≡◌, ℕ, zero, suc, ◌+◌, ◌<◌, length, get_or, drop, ◌++◌, List, [], ◌∷◌, Some, Bool, true, false, cond, if◌then◌else◌, map, slice_get, unwrap_or, refl, sym, ap, ◌∙◌, arith}
use Rattle.f77_tree.specs.declared.unit.Unit.{Unit as SourceUnit}
use Rattle.f77_values.specs.Tables.{Name, name_eq}
use Rattle.f77_semantics.specs.Program.{Routine}
use Rattle.f77_semantics.specs.Source.{is_main, main_of, routine}
use Rattle.f77_semantics.specs.Units.{named}
use Rattle.f77_meaning.specs.Places.{place_from, find_of}

module _ (all : List Routine) (main : ℕ) (other : Routine) (mains : slice_get all main ≡ Some other) (q : Name) where
  from_here : (us : List SourceUnit) (k : ℕ) → ((i : ℕ) → slice_get all (k + i) ≡ slice_get (map routine us) i) → slice_get all (unwrap_or (place_from k us q) main) ≡ Some (named (map routine us) other q)
  from_here [] k at = mains
  from_here (u ∷ us) k at = by_name (from_here us (suc k) next) (name_eq u.name q)
    where
      here : slice_get all k ≡ Some (routine u)
      here = let e : k + 0 ≡ k = omega arith in ap (λ n. slice_get all n) (sym e) ∙ at 0

      next : (i : ℕ) → slice_get all (suc k + i) ≡ slice_get (map routine us) i
      next i = let e : suc k + i ≡ k + suc i = omega arith in ap (λ n. slice_get all n) e ∙ at (suc i)

      by_name : slice_get all (unwrap_or (place_from (suc k) us q) main) ≡ Some (named (map routine us) other q) → (b : Bool) → slice_get all (unwrap_or (if b then Some k else place_from (suc k) us q) main) ≡ Some (cond b (routine u) (named (map routine us) other q))
      by_name rest true = here
      by_name rest false = rest

-- the place of a name is that of its unit
pub found_at : (units : List SourceUnit) (main : ℕ) (other : Routine) → slice_get (map routine units) main ≡ Some other → (q : Name) → slice_get (map routine units) (find_of units main q) ≡ Some (named (map routine units) other q)
found_at units main other e q = from_here (map routine units) main other e q units 0 (λ i. let same : 0 + i ≡ i = omega arith in ap (λ (n : ℕ). slice_get (map routine units) n) same)

-- ---- what stands at a place

pub got : {X : Type 0} (xs : List X) (i : ℕ) (d : X) → i < length xs → slice_get xs i ≡ Some (get_or xs i d)
got [] i d l = absurd (omega arith)
got (x ∷ xs) zero d l = refl
got (x ∷ xs) (suc i) d l = got xs i d (omega arith)

pub there : {X : Type 0} (xs : List X) (i : ℕ) → i < length xs → (x : X) × (slice_get xs i ≡ Some x)
there [] i l = absurd (omega arith)
there (x ∷ xs) zero l = (x, refl)
there (x ∷ xs) (suc i) l = there xs i (omega arith)

pub mapped_at : (us : List SourceUnit) (i : ℕ) (m : SourceUnit) → slice_get us i ≡ Some m → slice_get (map routine us) i ≡ Some (routine m)
mapped_at [] i m e = absurd cc
mapped_at (u ∷ us) zero m e = let same : u ≡ m = cc in ap (λ (v : SourceUnit). Some (routine v)) same
mapped_at (u ∷ us) (suc i) m e = mapped_at us i m e

pub main_here : (us : List SourceUnit) (k : ℕ) (u : SourceUnit) → k < length us → u ≡ get_or us k u → is_main u.kind ≡ true → main_of (drop k us) ≡ main_of us → main_of us ≡ slice_get us k
main_here us k u l e t rest =
    let first : main_of (u ∷ drop (k + 1) us) ≡ Some u = ap (λ (b : Bool). cond b (Some u) (main_of (drop (k + 1) us))) t in
    sym rest ∙ (at_drop_more main_of us k u l ∙ (ap (λ (v : SourceUnit). main_of (v ∷ drop (k + 1) us)) (sym e) ∙ (first ∙ (ap (λ (v : SourceUnit). Some v) e ∙ sym (got us k u l)))))

pub each_found : (find : Name → ℕ) (names : List Name) (i : ℕ) (name : Name) (old new : List ℕ) → i < length names → name ≡ get_or names i name → new ≡ old ++ find name ∷ [] → old ++ map find (drop i names) ≡ map find names → new ++ map find (drop (i + 1) names) ≡ map find names
each_found find names i name old new l e pushed rest =
    ap (λ (ks : List ℕ). ks ++ map find (drop (i + 1) names)) pushed
    ∙ (append_assoc old (find name ∷ []) (map find (drop (i + 1) names))
    ∙ (ap (λ (n : Name). old ++ find n ∷ map find (drop (i + 1) names)) e
    ∙ (ap (λ (ks : List ℕ). old ++ ks) (sym (at_drop_more (map find) names i name l)) ∙ rest)))
