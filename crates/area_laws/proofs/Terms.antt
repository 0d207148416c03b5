-- Expressions of a unit stay in the areas of the program.
use Rattle.std.proofs.Common.{◌≡◌, ℕ, zero, suc, ◌+◌, ◌<◌, ◌≤◌, List, [], ◌∷◌, Option, Some, None, Bool, true, false, ℤ, refl, ap, ◌∙◌, subst, arith, nat_lt, if◌then◌else◌, map}
use Rattle.std.proofs.lemmas.Bool.Decides.{nat_tests}
use Rattle.run_model.specs.Storage.{Local, Fresh, Loc, Interval}
use Rattle.run_model.specs.Acts.{Undefined, Stuck, Act, Done, Put, Fail, Reason, and_then, Answer}
use Rattle.f77_tree.specs.declared.unit.Ty.{Ty}
use Rattle.f77_tree.specs.declared.unit.Ty.TheVariants as types
use Rattle.f77_tree.specs.declared.unit.Unit.{Unit as SourceUnit}
use Rattle.f77_tree.specs.declared.unit.Value.{Value}
use Rattle.f77_tree.specs.declared.unit.Value.TheVariants.{Integer, Logical}
use Rattle.f77_values.specs.Arithmetic.{negated, kept, denied, operate, divided}
use Rattle.f77_semantics.specs.Values.{stored, seen, has_type, or_fail, lacking, remainder, intrinsic}
use Rattle.f77_names.specs.declared.intrinsics.Intrinsic.{Intrinsic}
use Rattle.f77_names.specs.declared.intrinsics.Intrinsic.TheVariants.{Abs, Mod, Sign, Dim, Max, Min}
use Rattle.f77_semantics.specs.declared.storage.Base.{Base}
use Rattle.f77_semantics.specs.declared.storage.Base.TheVariants.{Dummy, Own, Common}
use Rattle.f77_semantics.specs.declared.storage.Array.{Array}
use Rattle.f77_semantics.specs.Program.{Term, Literal, Text, Variable, Element, Whole, Reference, Apply, Paren, Negative, Plus, Not, Binary, NoTerm, Terms, End, ◌and◌}
use Rattle.f77_semantics.specs.Expressions.{Frame, interval, at, rest, scalar, shape, numbered, integers, element, sequence, resulting, fresh, fetch, store, value, values, actuals}
use Rattle.f77_semantics.specs.Effects.{Effects, HasSite, ArrayOk, TermOk, IntegersOk, ActualsOk}
use Rattle.f77_semantics.proofs.Terms as known
use Rattle.f77_semantics.proofs.Terms.{FrameOk}
use Rattle.sound_units.specs.Units.{effects}
use Rattle.area_laws.specs.Areas.{unit_named, count, passes, local_units, fresh_units, area_size, InArea, Inside}
use Rattle.area_laws.specs.Touches.{Every}
use Rattle.area_laws.proofs.Stays.{Stays, stays_then}
use Rattle.area_laws.proofs.Bases.{BaseIn, TermIn, TermsIn}

abbrev pub Any : {A : Type 0} → A → Type 0
Any x = Unit {0}

module _ (units : List SourceUnit) (u : SourceUnit) (is : unit_named units u.name ≡ Some u) where
  abbrev pub S : Effects
  S = effects u

  -- an activation of the unit, whose dummies are as they are declared and have intervals in their areas
  pub record FrameIn (f : Frame) : Type 0 where
    pub unit_is : f.unit ≡ u.name
    pub ok : FrameOk (effects u) f
    pub inside : (k : ℕ) → Inside units (interval f (Dummy k) 1)

  module _ (f : Frame) (fi : FrameIn f) where
    abbrev pub StaysIn : {A : Type 0} → (A → Type 0) → Act A → Type 0
    StaysIn R a = Stays (InArea units) (Inside units) R a

    abbrev then_stays : {A B : Type 0} → (R : A → Type 0) (T : B → Type 0) (a : Act A) (g : A → Act B) → StaysIn R a → ((x : A) → R x → StaysIn T (g x)) → StaysIn T (and_then a g)
    then_stays R T a g h k = stays_then (InArea units) (Inside units) R T a g h k

    -- ---- intervals and locations

    own_size : area_size units (Local f.unit) ≡ local_units (Some u)
    own_size = ap (λ n. local_units (unit_named units n)) fi.unit_is ∙ ap local_units is

    pub interval_in : (b : Base) (n : ℕ) → BaseIn units u b n → Inside units (interval f b n)
    interval_in (Dummy k) n h = fi.inside k
    interval_in (Own from) n h = let e = own_size in let s = h.0 in let w = h.1 in record { some = s; ends = omega (arith, e, w) }
    interval_in (Common b from) n h = record { some = h.0; ends = h.1 }

    pub at_in : (i : Interval) (k : ℕ) → Inside units i → k < i.length → InArea units (at i k)
    at_in i k x lt = let e = x.ends in omega (arith, e, lt)

    pub scalar_in : (b : Base) → BaseIn units u b 1 → InArea units (scalar f b)
    scalar_in b h = let x = interval_in b 1 h in at_in (interval f b 1) 0 x x.some

    rest_in : (i : Interval) (k : ℕ) → Inside units i → k < i.length → Inside units (rest i k)
    rest_in i k x lt = let e = x.ends in record { some = omega (arith, lt); ends = omega (arith, e, lt) }

    fresh_size : (s j : ℕ) → j < passes u s → area_size units (Fresh f.unit s j) ≡ 1
    fresh_size s j lt =
        ap (λ n. fresh_units (unit_named units n) s j) fi.unit_is
        ∙ (ap (λ o. fresh_units o s j) is ∙ ap (λ b. if b then 1 else 0) below)
      where
        below : nat_lt j (passes u s) ≡ true
        below = grind (arith, nat_tests, lt)

    fresh_in : (s j : ℕ) → j < passes u s → Inside units (fresh f s j)
    fresh_in s j lt = let e = fresh_size s j lt in record { some = omega arith; ends = omega (arith, e) }

    -- ---- elements

    literals : List ℤ → Terms
    literals [] = End
    literals (i ∷ is) = Literal (Integer i) and literals is

    numbers : (is : List ℤ) → known.ValuesOf S f fi.ok (literals is) (map Integer is)
    unfolding literals
    numbers [] = tt
    numbers (i ∷ is) = (refl, numbers is)

    integers_are : (is : List ℤ) → integers (map Integer is) ≡ Done is
    integers_are [] = refl
    integers_are (i ∷ is) = ap (λ a. and_then a (λ xs. Done (i ∷ xs))) (integers_are is)

    -- subscripts in their bounds name a place of the array's interval
    pub number_below : (a : Array) → ArrayOk S a → (is : List ℤ) (k : ℕ) → numbered (shape f a.bounds) is ≡ Some k → k < (sequence f a).length
    number_below a ok is k e =
        subst (λ b. known.Held S f fi.ok (λ k. k < (sequence f a).length) b)
        (ap (λ b. and_then b (λ is. or_fail (Undefined 2) (numbered (shape f a.bounds) is))) (integers_are is) ∙ ap (or_fail (Undefined 2)) e)
        (known.element_held S f fi.ok a (literals is) (map Integer is) ok (numbers is))

    integers_stay : (vs : List Value) → StaysIn Any (integers vs)
    integers_stay [] = tt
    integers_stay (Integer x ∷ vs) = then_stays Any Any (integers vs) _ (integers_stay vs) (λ xs p. tt)
    integers_stay (Logical b ∷ vs) = tt

    or_fail_stays : {A : Type 0} → (R : A → Type 0) (reason : Reason) (o : Option A) → ((x : A) → o ≡ Some x → R x) → StaysIn R (or_fail reason o)
    or_fail_stays R reason None g = tt
    or_fail_stays R reason (Some x) g = g x refl

    pub element_stays : (a : Array) → ArrayOk S a → (vs : List Value) → StaysIn (λ k. k < (sequence f a).length) (element f a vs)
    element_stays a ok vs = then_stays Any (λ k. k < (sequence f a).length) (integers vs) _ (integers_stay vs) (λ is p. or_fail_stays (λ k. k < (sequence f a).length) (Undefined 2) (numbered (shape f a.bounds) is) (number_below a ok is))

    pub fetch_stays : (ty : Ty) (l : Loc) → InArea units l → StaysIn Any (fetch ty l)
    fetch_stays ty l h = (h, λ c. go (seen c) (has_type ty (seen c)))
      where
        go : (v : Value) (b : Bool) → StaysIn Any (if b then Done v else Fail (Undefined 1))
        go v true = tt
        go v false = tt

    resulting_stays : (r : Answer) → StaysIn Any (resulting r)
    resulting_stays (Some c) = tt
    resulting_stays None = tt

    optional_stays : {A : Type 0} (reason : Reason) (o : Option A) → StaysIn Any (or_fail reason o)
    optional_stays reason o = or_fail_stays Any reason o (λ x e. tt)

    -- the actuals of a site have fresh cells
    abbrev HasRoom : ℕ → ℕ → Terms → Type 0
    HasRoom s j es = j + count es ≤ passes u s

    pub room : (s : ℕ) (es : Terms) → HasSite S s → S.actuals s ≡ es → HasRoom s 0 es
    room zero es h e = absurd (omega (arith, h.0))
    room (suc s) es h e = let same : count (S.actuals (suc s)) ≡ count es = ap count e in omega (arith, same)

    less : (s j : ℕ) (es : Terms) → j + suc (count es) ≤ passes u s → HasRoom s (suc j) es
    less s j es r = omega (arith, r)

    here : (s j : ℕ) (es : Terms) → j + suc (count es) ≤ passes u s → j < passes u s
    here s j es r = omega (arith, r)

    -- an actual that is evaluated into a fresh cell
    fresh_stays : (s j : ℕ) (a : Act Value) (b : Act (List Interval)) → Inside units (fresh f s j) → StaysIn Any a → StaysIn (Every (Inside units)) b
        → StaysIn (Every (Inside units)) (and_then a (λ x. and_then (store (at (fresh f s j) 0) x) (λ _. and_then b (λ ds. Done (fresh f s j ∷ ds)))))
    fresh_stays s j a b i h k = then_stays Any (Every (Inside units)) a (λ x. Put (at (fresh f s j) 0) (stored x) (and_then b (λ ds. Done (fresh f s j ∷ ds)))) h (λ x p. (at_in (fresh f s j) 0 i i.some, then_stays (Every (Inside units)) (Every (Inside units)) b (λ ds. Done (fresh f s j ∷ ds)) k (λ ds q. (i, q))))

    intrinsic_stays : (i : Intrinsic) (xs : List ℤ) → StaysIn Any (intrinsic i xs)
    intrinsic_stays Abs (x ∷ []) = tt
    intrinsic_stays Mod (x ∷ y ∷ []) = optional_stays (Undefined 5) (remainder x y (divided x y))
    intrinsic_stays Sign (x ∷ y ∷ []) = tt
    intrinsic_stays Dim (x ∷ y ∷ []) = tt
    intrinsic_stays Max (x ∷ xs) = tt
    intrinsic_stays Min (x ∷ xs) = tt
    intrinsic_stays i xs = tt

    mutual
      pub value_stays : (e : Term) (ty : Ty) → TermOk S ty e → TermIn units u e → StaysIn Any (value f e)
      value_stays (Literal v) ty o h = tt
      value_stays (Text bs) ty o h = tt
      value_stays (Variable ty' b) ty o h = fetch_stays ty' (scalar f b) (scalar_in b h)
      value_stays (Element ty' a es) ty o h =
          then_stays Any Any (values f es) _ (values_stay es o.3 h.1) (λ vs p.
          then_stays (λ k. k < (sequence f a).length) Any (element f a vs) _ (element_stays a o.1 vs) (λ k lt.
          fetch_stays ty' (at (sequence f a) k) (at_in (sequence f a) k (interval_in a.base a.length h.0) lt)))
      value_stays (Whole a) ty o h = tt
      value_stays (Reference s es) ty o h =
          then_stays (Every (Inside units)) Any (actuals f s 0 es) _ (actuals_stay es s 0 o.3 h (room s es o.1 o.2)) (λ ds p. (p, resulting_stays))
      value_stays (Apply i es) ty o h =
          then_stays Any Any (values f es) _ (values_stay es o.2 h) (λ vs p.
          then_stays Any Any (integers vs) _ (integers_stay vs) (λ xs q.
          then_stays Any Any (intrinsic i xs) _ (intrinsic_stays i xs) (λ x r. tt)))
      value_stays (Paren e) ty o h = value_stays e ty o h
      value_stays (Plus e) ty o h = then_stays Any Any (value f e) _ (value_stays e types.Integer o.1 h) (λ x p. optional_stays Stuck (kept x))
      value_stays (Negative e) ty o h = then_stays Any Any (value f e) _ (value_stays e types.Integer o.1 h) (λ x p. optional_stays Stuck (negated x))
      value_stays (Not e) ty o h = then_stays Any Any (value f e) _ (value_stays e types.Logical o.1 h) (λ x p. optional_stays Stuck (denied x))
      value_stays (Binary op a b) ty o h =
          then_stays Any Any (value f a) _ (value_stays a _ o.1 h.0) (λ x p.
          then_stays Any Any (value f b) _ (value_stays b _ o.2 h.1) (λ y q. optional_stays (lacking op x y) (operate op x y)))
      value_stays NoTerm ty o h = tt

      pub values_stay : (es : Terms) → IntegersOk S es → TermsIn units u es → StaysIn Any (values f es)
      values_stay End o h = tt
      values_stay (e and es) o h =
          then_stays Any Any (value f e) _ (value_stays e types.Integer o.0 h.0) (λ x p.
          then_stays Any Any (values f es) _ (values_stay es o.1 h.1) (λ xs q. tt))

      pub actuals_stay : (es : Terms) (s j : ℕ) → ActualsOk S es → TermsIn units u es → HasRoom s j es → StaysIn (Every (Inside units)) (actuals f s j es)
      actuals_stay End s j o h r = tt
      actuals_stay (Variable ty b and es) s j o h r = then_stays (Every (Inside units)) (Every (Inside units)) (actuals f s (suc j) es) _ (actuals_stay es s (suc j) o.1 h.1 (less s j es r)) (λ ds p. (interval_in b 1 h.0, p))
      actuals_stay (Whole a and es) s j o h r = then_stays (Every (Inside units)) (Every (Inside units)) (actuals f s (suc j) es) _ (actuals_stay es s (suc j) o.1 h.1 (less s j es r)) (λ ds p. (interval_in a.base a.length h.0, p))
      actuals_stay (Element ty a is and es) s j o h r =
          then_stays Any (Every (Inside units)) (values f is) _ (values_stay is o.1 h.0.1) (λ vs p.
          then_stays (λ k. k < (sequence f a).length) (Every (Inside units)) (element f a vs) _ (element_stays a o.0 vs) (λ k lt.
          then_stays (Every (Inside units)) (Every (Inside units)) (actuals f s (suc j) es) _ (actuals_stay es s (suc j) o.2 h.1 (less s j es r)) (λ ds p. (rest_in (sequence f a) k (interval_in a.base a.length h.0.0) lt, p))))
      actuals_stay (e and es) s j o h r = fresh_stays s j (value f e) (actuals f s (suc j) es) (fresh_in s j (here s j es r)) (value_stays e o.0.0 o.0.1 h.0) (actuals_stay es s (suc j) o.1 h.1 (less s j es r))
