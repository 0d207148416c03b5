-- Terms and targets read what agrees, and their actuals are what agrees.
use Rattle.std.proofs.Common.{◌≡◌, ℕ, zero, suc, List, [], ◌∷◌, Option, Some, None, Bool, true, false, not, ◌&&◌, ◌||◌, ℤ, refl, sym, ap, ◌∙◌, subst, nat_eq, nat_lt, get_or, eqb-true, if◌then◌else◌, arith}
use Rattle.std.proofs.lemmas.Bool.Decides.{nat_tests}
use Rattle.std.specs.Cmp.Lexicographic.{other_text}
use Rattle.run_model.specs.Storage.{Area, Block, Local, Fresh, Loc, Interval, area_eq, name_eq}
use Rattle.run_model.specs.Acts.{Reason, Undefined, Stuck, Act, Done, Put, Fail, and_then, Answer}
use Rattle.f77_tree.specs.declared.unit.Ty.{Ty}
use Rattle.f77_tree.specs.declared.unit.Value as unit
use Rattle.f77_tree.specs.declared.unit.Value.TheVariants.{Integer, Logical}
use Rattle.f77_names.specs.declared.intrinsics.Intrinsic.{Intrinsic}
use Rattle.f77_names.specs.declared.intrinsics.Intrinsic.TheVariants.{Abs, Mod, Sign, Dim, Max, Min}
use Rattle.f77_values.specs.Arithmetic.{operate, divided, negated, kept, denied}
use Rattle.f77_semantics.specs.Values.{stored, seen, has_type, or_fail, lacking, remainder, intrinsic}
use Rattle.f77_semantics.specs.Program.{Term, Literal, Text, Variable, Element, Whole, Reference, Apply, Paren, Negative, Plus, Not, Binary, NoTerm, Terms, End, ◌and◌}
use Rattle.f77_semantics.specs.declared.storage.Base.{Base}
use Rattle.f77_semantics.specs.declared.storage.Base.TheVariants.{Dummy, Own, Common}
use Rattle.f77_semantics.specs.declared.storage.Array.{Array}
use Rattle.f77_semantics.specs.Expressions.{Frame, interval, nothing, at, shape, numbered, integers, element, sequence, scalar, resulting, fresh, fetch, store, value, values, actuals}
use Rattle.f77_semantics.specs.Statements.{as_number, as_truth, number, condition, target}
use Rattle.fresh_laws.specs.Fresh.{is_of_site, is_fresh, is_passed, matters, Locations, Within}
use Rattle.fresh_laws.proofs.Sees.{also, also_within, Has, HasEach, Sees, bind, Any, Firm}

-- ---- areas

both : (a b : Bool) → (a && b) ≡ true → (a ≡ true) × (b ≡ true)
both true b e = (refl, e)
both false b e = let z : false ≡ true = e in cc

name_is : (a : List ℕ) → name_eq a a ≡ true
name_is a = go (name_eq a a) refl
  where
    go : (b : Bool) → name_eq a a ≡ b → name_eq a a ≡ true
    go true e = e
    go false e = absurd (other_text a a (sym e) refl)

number_is : (n : ℕ) → nat_eq n n ≡ true
number_is n = grind (arith, nat_tests)

pub area_is : (a : Area) → area_eq a a ≡ true
area_is (Block b) = name_is b
area_is (Local u) = name_is u
area_is (Fresh u s j) = ap (λ b. b && (nat_eq s s && nat_eq j j)) (name_is u) ∙ ap (λ b. b && nat_eq j j) (number_is s) ∙ number_is j

-- what is as an area of no site is of no site
firm_area : (a b : Area) → is_of_site a ≡ false → area_eq a b ≡ true → is_of_site b ≡ false
firm_area (Fresh u s j) (Fresh v t k) n e = let z : s ≡ t = eqb-true s t (both (nat_eq s t) (nat_eq j k) (both (name_eq u v) _ e).1).0 in subst (λ i. nat_lt 0 i ≡ false) z n
firm_area (Block a) (Fresh v t k) n e = let z : false ≡ true = e in cc
firm_area (Local a) (Fresh v t k) n e = let z : false ≡ true = e in cc
firm_area a (Block b) n e = refl
firm_area a (Local b) n e = refl

module _ (f : Frame) where
  abbrev pub Knows : Locations → Type 0
  Knows P = Within (matters f.actuals) P

  pub firm : (P : Locations) → Knows P → Firm P
  firm P own l e = own l (ap (λ b. not b || is_passed f.actuals l) e)

  -- an area of no site
  has_firm : (P : Locations) → Knows P → (i : Interval) → is_of_site i.area ≡ false → Has P i
  has_firm P own i n l e = firm P own l (ap (λ b. b && nat_eq 0 l.offset) (firm_area i.area l.area n e))

  has_passed : (P : Locations) → Knows P → (i : Interval) → ((l : Loc) → area_eq i.area l.area ≡ true → is_passed f.actuals l ≡ true) → Has P i
  has_passed P own i h l e = own l (go (is_fresh l))
    where
      go : (b : Bool) → (not b || is_passed f.actuals l) ≡ true
      go true = h l e
      go false = refl

  nth_has : (P : Locations) → Knows P → (k : ℕ) → Has P (get_or f.actuals k (nothing f.unit))
  nth_has P own k = go f.actuals k (λ l e. e)
    where
      go : (ds : List Interval) (k : ℕ) → ((l : Loc) → is_passed ds l ≡ true → is_passed f.actuals l ≡ true) → Has P (get_or ds k (nothing f.unit))
      go [] k sub = has_firm P own (nothing f.unit) refl
      go (d ∷ ds) zero sub = has_passed P own d (λ l e. sub l (ap (λ b. b || is_passed ds l) e))
      go (d ∷ ds) (suc k) sub = go ds k (λ l e. sub l (or_more (area_eq d.area l.area) (is_passed ds l) e))
        where
          or_more : (a b : Bool) → b ≡ true → (a || b) ≡ true
          or_more true b e = refl
          or_more false b e = e

  pub has_interval : (P : Locations) → Knows P → (b : Base) (n : ℕ) → Has P (interval f b n)
  has_interval P own (Dummy k) n = nth_has P own k
  has_interval P own (Own from) n = has_firm P own (interval f (Own from) n) refl
  has_interval P own (Common b from) n = has_firm P own (interval f (Common b from) n) refl

  -- each location of the interval is one of the area
  at_is : (P : Locations) (i : Interval) (k : ℕ) → Has P i → P (at i k) ≡ true
  at_is P i k h = h (at i k) (area_is i.area)

  -- a fresh cell that was stored to
  has_fresh : (P P' : Locations) (s j : ℕ) → Knows P → Within (also (at (fresh f s j) 0) P) P' → Has P' (fresh f s j)
  has_fresh P P' s j own sub l e = sub l (go (nat_eq 0 l.offset) refl)
    where
      go : (b : Bool) → nat_eq 0 l.offset ≡ b → also (at (fresh f s j) 0) P l ≡ true
      go true z = ap (λ b. (b && nat_eq 0 l.offset) || P l) e ∙ ap (λ b. b || P l) z
      go false z = also_within (at (fresh f s j) 0) P l (firm P own l (off (is_of_site l.area)))
        where
          off : (b : Bool) → (b && nat_eq 0 l.offset) ≡ false
          off true = z
          off false = refl

  or_fail_sees : {A : Type 0} → (P : Locations) (r : Reason) (o : Option A) → Sees Any P (or_fail r o)
  or_fail_sees P r None = tt
  or_fail_sees P r (Some x) = tt

  pub fetch_sees : (P : Locations) (ty : Ty) (l : Loc) → P l ≡ true → Sees Any P (fetch ty l)
  fetch_sees P ty l p = (p, λ c. go (seen c) (has_type ty (seen c)))
    where
      go : (v : unit.Value) (b : Bool) → Sees Any P (if b then Done v else Fail (Undefined 1))
      go v true = tt
      go v false = tt

  integers_see : (P : Locations) (vs : List unit.Value) → Sees Any P (integers vs)
  integers_see P [] = tt
  integers_see P (Integer x ∷ vs) = bind Any Any P (integers vs) (λ xs. Done (x ∷ xs)) (integers_see P vs) (λ P1 s1 xs q. tt)
  integers_see P (Logical b ∷ vs) = tt

  element_sees : (P : Locations) (a : Array) (vs : List unit.Value) → Sees Any P (element f a vs)
  element_sees P a vs = bind Any Any P (integers vs) (λ is. or_fail (Undefined 2) (numbered (shape f a.bounds) is)) (integers_see P vs) (λ P1 s1 is q. or_fail_sees P1 (Undefined 2) (numbered (shape f a.bounds) is))

  resulting_sees : (P : Locations) (r : Answer) → Sees Any P (resulting r)
  resulting_sees P None = tt
  resulting_sees P (Some c) = tt

  intrinsic_sees : (P : Locations) (i : Intrinsic) (xs : List ℤ) → Sees Any P (intrinsic i xs)
  intrinsic_sees P Abs (x ∷ []) = tt
  intrinsic_sees P Mod (x ∷ y ∷ []) = or_fail_sees P (Undefined 5) (remainder x y (divided x y))
  intrinsic_sees P Sign (x ∷ y ∷ []) = tt
  intrinsic_sees P Dim (x ∷ y ∷ []) = tt
  intrinsic_sees P Max (x ∷ xs) = tt
  intrinsic_sees P Min (x ∷ xs) = tt
  intrinsic_sees P i xs = tt

  -- an actual that is evaluated into a fresh cell
  fresh_sees : (P : Locations) → Knows P → (s j : ℕ) (a : Act unit.Value) (b : Act (List Interval)) → Sees Any P a → ((P' : Locations) → Knows P' → Sees HasEach P' b) → Sees HasEach P (and_then a (λ x. and_then (store (at (fresh f s j) 0) x) (λ _. and_then b (λ ds. Done (fresh f s j ∷ ds)))))
  fresh_sees P own s j a b p q = bind Any HasEach P a (λ x. Put (at (fresh f s j) 0) (stored x) (and_then b (λ ds. Done (fresh f s j ∷ ds)))) p (λ P1 s1 x t.
      bind HasEach HasEach (also (at (fresh f s j) 0) P1) b (λ ds. Done (fresh f s j ∷ ds)) (q (also (at (fresh f s j) 0) P1) (λ l e. also_within (at (fresh f s j) 0) P1 l (s1 l (own l e)))) (λ P2 s2 ds h.
      (has_fresh P1 P2 s j (λ l e. s1 l (own l e)) s2, h)))

  mutual
    pub value_sees : (e : Term) (P : Locations) → Knows P → Sees Any P (value f e)
    value_sees (Literal v) P own = tt
    value_sees (Text bs) P own = tt
    value_sees (Variable ty b) P own = fetch_sees P ty (scalar f b) (at_is P (interval f b 1) 0 (has_interval P own b 1))
    value_sees (Element ty a es) P own =
        bind Any Any P (values f es) _ (values_see es P own) (λ P1 s1 vs q.
        bind Any Any P1 (element f a vs) _ (element_sees P1 a vs) (λ P2 s2 k r.
        fetch_sees P2 ty (at (sequence f a) k) (at_is P2 (sequence f a) k (has_interval P2 (λ l e. s2 l (s1 l (own l e))) a.base a.length))))
    value_sees (Whole a) P own = tt
    value_sees (Reference s es) P own = bind HasEach Any P (actuals f s 0 es) _ (actuals_see es s 0 P own) (λ P1 s1 ds h. (h, λ r. resulting_sees P1 r))
    value_sees (Apply i es) P own =
        bind Any Any P (values f es) _ (values_see es P own) (λ P1 s1 vs q.
        bind Any Any P1 (integers vs) _ (integers_see P1 vs) (λ P2 s2 xs r.
        bind Any Any P2 (intrinsic i xs) _ (intrinsic_sees P2 i xs) (λ P3 s3 x t. tt)))
    value_sees (Paren e) P own = value_sees e P own
    value_sees (Plus e) P own = bind Any Any P (value f e) _ (value_sees e P own) (λ P1 s1 x q. or_fail_sees P1 Stuck (kept x))
    value_sees (Negative e) P own = bind Any Any P (value f e) _ (value_sees e P own) (λ P1 s1 x q. or_fail_sees P1 Stuck (negated x))
    value_sees (Not e) P own = bind Any Any P (value f e) _ (value_sees e P own) (λ P1 s1 x q. or_fail_sees P1 Stuck (denied x))
    value_sees (Binary op a b) P own =
        bind Any Any P (value f a) _ (value_sees a P own) (λ P1 s1 x q.
        bind Any Any P1 (value f b) _ (value_sees b P1 (λ l e. s1 l (own l e))) (λ P2 s2 y r. or_fail_sees P2 (lacking op x y) (operate op x y)))
    value_sees NoTerm P own = tt

    pub values_see : (es : Terms) (P : Locations) → Knows P → Sees Any P (values f es)
    values_see End P own = tt
    values_see (e and es) P own =
        bind Any Any P (value f e) _ (value_sees e P own) (λ P1 s1 x q.
        bind Any Any P1 (values f es) _ (values_see es P1 (λ l e. s1 l (own l e))) (λ P2 s2 xs r. tt))

    pub actuals_see : (es : Terms) (s j : ℕ) (P : Locations) → Knows P → Sees HasEach P (actuals f s j es)
    actuals_see End s j P own = tt
    actuals_see (Variable ty b and es) s j P own = bind HasEach HasEach P (actuals f s (suc j) es) _ (actuals_see es s (suc j) P own) (λ P1 s1 ds h. (has_interval P1 (λ l e. s1 l (own l e)) b 1, h))
    actuals_see (Whole a and es) s j P own = bind HasEach HasEach P (actuals f s (suc j) es) _ (actuals_see es s (suc j) P own) (λ P1 s1 ds h. (has_interval P1 (λ l e. s1 l (own l e)) a.base a.length, h))
    actuals_see (Element ty a is and es) s j P own =
        bind Any HasEach P (values f is) _ (values_see is P own) (λ P1 s1 vs q.
        bind Any HasEach P1 (element f a vs) _ (element_sees P1 a vs) (λ P2 s2 k r.
        bind HasEach HasEach P2 (actuals f s (suc j) es) _ (actuals_see es s (suc j) P2 (λ l e. s2 l (s1 l (own l e)))) (λ P3 s3 ds h. (has_interval P3 (λ l e. s3 l (s2 l (s1 l (own l e)))) a.base a.length, h))))
    actuals_see (e and es) s j P own = fresh_sees P own s j (value f e) (actuals f s (suc j) es) (value_sees e P own) (actuals_see es s (suc j))

  as_number_sees : (P : Locations) (v : unit.Value) → Sees Any P (as_number v)
  as_number_sees P (Integer x) = tt
  as_number_sees P (Logical b) = tt

  as_truth_sees : (P : Locations) (v : unit.Value) → Sees Any P (as_truth v)
  as_truth_sees P (Integer x) = tt
  as_truth_sees P (Logical b) = tt

  pub number_sees : (e : Term) (P : Locations) → Knows P → Sees Any P (number f e)
  number_sees e P own = bind Any Any P (value f e) _ (value_sees e P own) (λ P1 s1 x q. as_number_sees P1 x)

  pub condition_sees : (e : Term) (P : Locations) → Knows P → Sees Any P (condition f e)
  condition_sees e P own = bind Any Any P (value f e) _ (value_sees e P own) (λ P1 s1 x q. as_truth_sees P1 x)

  pub target_sees : (t : Term) (P : Locations) → Knows P → Sees Any P (target f t)
  target_sees (Variable ty b) P own = tt
  target_sees (Element ty a es) P own =
      bind Any Any P (values f es) _ (values_see es P own) (λ P1 s1 vs q.
      bind Any Any P1 (element f a vs) _ (element_sees P1 a vs) (λ P2 s2 k r. tt))
  target_sees t P own = tt

  pub scalar_is : (P : Locations) → Knows P → (b : Base) → P (scalar f b) ≡ true
  scalar_is P own b = at_is P (interval f b 1) 0 (has_interval P own b 1)
