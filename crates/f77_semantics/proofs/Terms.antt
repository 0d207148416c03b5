-- Expressions of a unit read, write and call what its text says, and give values of their types.
use Rattle.std.proofs.Common.{◌≡◌, ℕ, suc, ◌+◌, ◌*◌, ◌<◌, ◌≤◌, List, [], ◌∷◌, Option, Some, None, Bool, true, false, ℤ, pos, negsuc, ◌-ℤ◌, ◌⊎◌, inr, refl, sym, ap, ◌∙◌, subst, arith, nat_lt, nat_le, if◌then◌else◌}
use Rattle.std.proofs.Math.Nat.{mul-le-mul_left}
use Rattle.std.proofs.lemmas.Bool.Decides.{nat_tests}
use Rattle.run_model.specs.Storage.{Block, Local, Loc, Interval}
use Rattle.run_model.specs.Acts.{Undefined, Stuck, Act, Done, Put, Fail, and_then, Answer}
use Rattle.f77_tree.specs.declared.expr.Op.{Op}
use Rattle.f77_tree.specs.declared.expr.Op.TheVariants.{Pow, Mul, Div, Add, Sub, Eq, Ne, Lt, Le, Gt, Ge, And, Or, Eqv, Neqv}
use Rattle.f77_tree.specs.declared.unit.Ty.{Ty}
use Rattle.f77_tree.specs.declared.unit.Ty.TheVariants as types
use Rattle.f77_tree.specs.declared.unit.Value.{Value}
use Rattle.f77_tree.specs.declared.unit.Value.TheVariants.{Integer, Logical}
use Rattle.f77_names.specs.declared.intrinsics.Intrinsic.{Intrinsic}
use Rattle.f77_names.specs.declared.intrinsics.Intrinsic.TheVariants.{Abs, Mod, Sign, Dim, Max, Min}
use Rattle.f77_values.specs.Arithmetic.{operate, power, divided, integer, negated, kept, denied}
use Rattle.f77_values.specs.Constants.{applied, operated as calculated}
use Rattle.f77_semantics.specs.Values.{stored, seen, has_type, or_fail, lacking, operated, remainder, intrinsic}
use Rattle.f77_semantics.specs.Program.{Base, Dummy, Own, Common, Extent, Array, Term, Literal, Text, Variable, Element, Whole, Reference, Apply, Paren, Negative, Plus, Not, Binary, NoTerm, Terms, End, ◌and◌}
use Rattle.f77_semantics.specs.Expressions.{Frame, interval, at, scalar, shape, distance, with_others, numbered, integers, element, sequence, resulting, fresh, fetch, store, value, values, actuals}
use Rattle.f77_semantics.specs.Units.{total, is_array}
use Rattle.f77_semantics.specs.Effects.{DummyItem, LocalItem, CommonItem, Items, interval_of, Covered, IsFresh, HasAll, Effects, HasSite, ScalarOk, ArrayOk_, ArrayOk, takes, gives, arity, constant, ExponentOk, TermOk, IntegersOk, ActualsOk, AreActuals, Answers}
use Rattle.f77_semantics.proofs.Keeps.{Keeps, bind}

-- an activation whose dummies are as they are declared
pub record FrameOk (S : Effects) (f : Frame) : Type 0 where
  pub scalars : (k : ℕ) → is_array S.arrays k ≡ false → (interval f (Dummy k) 1).length ≡ 1
  pub shapes : (k : ℕ) → is_array S.arrays k ≡ true → total (f.shapes k) ≤ (interval f (Dummy k) 1).length

pub seq_covered : (A : Items) (f : Frame) (b : Base) (n k : ℕ) → HasAll A b n → k < (interval f b n).length → Covered A (interval_of f) (at (interval f b n) k)
seq_covered A f (Dummy j) n k all lt = record { item = DummyItem j; in_set = all; covers = record { at_ = k; inside_ = lt; is = refl } }
seq_covered A f (Own from) n k all lt = record { item = LocalItem (from + k); in_set = all k lt; covers = record { at_ = 0; inside_ = omega arith; is = (let e : from + k ≡ (from + k) + 0 = omega arith in ap (λ o. record { area = Local f.unit; offset = o }) e) } }
seq_covered A f (Common b from) n k all lt = record { item = CommonItem b (from + k); in_set = all k lt; covers = record { at_ = 0; inside_ = omega arith; is = (let e : from + k ≡ (from + k) + 0 = omega arith in ap (λ o. record { area = Block b; offset = o }) e) } }

-- subscripts in their bounds name an element of the array
numbered_below : (es : List Extent) (is : List ℤ) (k : ℕ) → numbered es is ≡ Some k → k < total es
numbered_below [] [] k e = omega (arith, the e)
  where
    the : Some 0 ≡ Some k → k ≡ 0
    the e = cc
numbered_below (x ∷ es) (i ∷ is) k e = go (distance (i -ℤ x.lower) x.size) refl (numbered es is) (numbered_below es is) e
  where
    near : (z : ℤ) (n d : ℕ) → distance z n ≡ Some d → d < n
    near (negsuc m) n d e = cc
    near (pos m) n d e = test (nat_lt m n) refl e
      where
        test : (b : Bool) → nat_lt m n ≡ b → (if b then Some m else None) ≡ Some d → d < n
        test true t e = let s : m ≡ d = cc in subst (λ m. m < n) s (below t)
          where
            below : nat_lt m n ≡ true → m < n
            below t = grind (arith, nat_tests)
        test false t e = cc

    go : (o : Option ℕ) → distance (i -ℤ x.lower) x.size ≡ o → (p : Option ℕ) → ((r : ℕ) → p ≡ Some r → r < total es) → with_others x.size o p ≡ Some k → k < x.size * total es
    go None eo None ih e = cc
    go None eo (Some r) ih e = cc
    go (Some d) eo None ih e = cc
    go (Some d) eo (Some r) ih e =
        let s : d + x.size * r ≡ k = cc in
        let a : d < x.size = near (i -ℤ x.lower) x.size d eo in
        let b : r < total es = ih r refl in
        let c : x.size * suc r ≤ x.size * total es = mul-le-mul_left x.size (omega arith) in
        omega arith
numbered_below [] (i ∷ is) k e = cc
numbered_below (x ∷ es) [] k e = cc

-- a constant is evaluated to its value
signed : (g : Value → Option Value) (o : Option Value) (v : Value) → applied g o ≡ Some v → (x : Value) × (o ≡ Some x) × (g x ≡ Some v)
signed g None v e = cc
signed g (Some x) v e = (x, refl, e)

joined : (op : Op) (p q : Option Value) (v : Value) → calculated op p q ≡ Some v → (x : Value) × (y : Value) × (p ≡ Some x) × (q ≡ Some y) × (operate op x y ≡ Some v)
joined op None None v e = cc
joined op None (Some y) v e = cc
joined op (Some x) None v e = cc
joined op (Some x) (Some y) v e = (x, y, refl, refl, e)

pub constant_value : (f : Frame) (e : Term) (v : Value) → constant e ≡ Some v → value f e ≡ Done v
constant_value f (Literal v) w e = ap Done (the v w e)
  where
    the : (v w : Value) → Some v ≡ Some w → v ≡ w
    the v w e = cc
constant_value f (Paren e) v h = constant_value f e v h
constant_value f (Plus e) v h = let s = signed kept (constant e) v h in ap (λ a. and_then a (λ x. or_fail Stuck (kept x))) (constant_value f e s.0 s.1) ∙ ap (or_fail Stuck) s.2
constant_value f (Negative e) v h = let s = signed negated (constant e) v h in ap (λ a. and_then a (λ x. or_fail Stuck (negated x))) (constant_value f e s.0 s.1) ∙ ap (or_fail Stuck) s.2
constant_value f (Not e) v h = let s = signed denied (constant e) v h in ap (λ a. and_then a (λ x. or_fail Stuck (denied x))) (constant_value f e s.0 s.1) ∙ ap (or_fail Stuck) s.2
constant_value f (Binary op a b) v h =
    let s = joined op (constant a) (constant b) v h in
    ap (λ p. and_then p (λ x. and_then (value f b) (λ y. operated op x y))) (constant_value f a s.0 s.2)
    ∙ (ap (λ q. and_then q (λ y. operated op s.0 y)) (constant_value f b s.1 s.3) ∙ ap (or_fail (lacking op s.0 s.1)) s.4)
constant_value f e v h = cc

module _ (S : Effects) (f : Frame) (fo : FrameOk S f) where
  abbrev pub Reads : Loc → Type 0
  Reads l = Covered S.used (interval_of f) l

  abbrev pub Writes : Loc → Type 0
  Writes l = Covered S.assigned (interval_of f) l ⊎ IsFresh f.unit l

  abbrev pub Calls : ℕ → List Interval → Type 0
  Calls s ds = HasSite S s × AreActuals f s 0 (S.actuals s) ds

  abbrev pub Answered : ℕ → Answer → Type 0
  Answered s r = Answers (S.type_of s) r

  abbrev pub Held : {A : Type 0} → (A → Type 0) → Act A → Type 0
  Held Q a = Keeps Reads Writes Calls Answered Q a

  abbrev pub and_held : {A B : Type 0} → (P : A → Type 0) (Q : B → Type 0) (a : Act A) (g : A → Act B) → Held P a → ((x : A) → P x → Held Q (g x)) → Held Q (and_then a g)
  and_held P Q a g h k = bind Reads Writes Calls Answered P Q a g h k

  pub scalar_covered : (A : Items) (b : Base) → ScalarOk S b → HasAll A b 1 → Covered A (interval_of f) (scalar f b)
  scalar_covered A (Dummy k) ok all = seq_covered A f (Dummy k) 1 0 all (let e = fo.scalars k ok in omega arith)
  scalar_covered A (Own o) ok all = seq_covered A f (Own o) 1 0 all (omega arith)
  scalar_covered A (Common b o) ok all = seq_covered A f (Common b o) 1 0 all (omega arith)

  pub array_long : (a : Array) → ArrayOk S a → total (shape f a.bounds) ≤ (sequence f a).length
  array_long a ok = go a.base ok
    where
      go : (b : Base) → ArrayOk_ S a b → total (shape f a.bounds) ≤ (interval f b a.length).length
      go (Dummy k) ok = subst (λ bs. total (shape f bs) ≤ (interval f (Dummy k) 1).length) (sym ok.0) (fo.shapes k ok.1)
      go (Own o) ok = subst (λ bs. total (shape f bs) ≤ a.length) (sym ok.are) ok.fits
      go (Common b o) ok = subst (λ bs. total (shape f bs) ≤ a.length) (sym ok.are) ok.fits

  abbrev pub Any : {A : Type 0} → A → Type 0
  Any x = Unit {0}

  abbrev pub Typed : Ty → Value → Type 0
  Typed ty v = has_type ty v ≡ true

  -- values of integer terms, one for each
  abbrev pub ValuesOf : Terms → List Value → Type 0
  ValuesOf End [] = Unit {0}
  ValuesOf (e and es) (v ∷ vs) = Typed types.Integer v × ValuesOf es vs
  ValuesOf End (v ∷ vs) = ⊥
  ValuesOf (e and es) [] = ⊥

  abbrev pub NumbersOf : Terms → List ℤ → Type 0
  NumbersOf End [] = Unit {0}
  NumbersOf (e and es) (x ∷ xs) = NumbersOf es xs
  NumbersOf End (x ∷ xs) = ⊥
  NumbersOf (e and es) [] = ⊥

  pub fetch_held : (ty : Ty) (l : Loc) → Reads l → Held (Typed ty) (fetch ty l)
  fetch_held ty l r = (r, λ c. go (seen c) (has_type ty (seen c)) refl)
    where
      go : (v : Value) (b : Bool) → has_type ty v ≡ b → Held (Typed ty) (if b then Done v else Fail (Undefined 1))
      go v true e = e
      go v false e = tt

  integers_held : (es : Terms) (vs : List Value) → ValuesOf es vs → Held (NumbersOf es) (integers vs)
  integers_held End [] o = tt
  integers_held (e and es) (Integer x ∷ vs) o = and_held (NumbersOf es) (NumbersOf (e and es)) (integers vs) _ (integers_held es vs o.1) (λ xs p. p)
  integers_held (e and es) (Logical b ∷ vs) o = absurd (contra o.0)
    where
      contra : false ≡ true → ⊥
      contra e = cc
  integers_held End (v ∷ vs) o = absurd o
  integers_held (e and es) [] o = absurd o

  pub element_held : (a : Array) (es : Terms) (vs : List Value) → ArrayOk S a → ValuesOf es vs → Held (λ k. k < (sequence f a).length) (element f a vs)
  element_held a es vs ok o = and_held (NumbersOf es) _ (integers vs) _ (integers_held es vs o) (λ is p. go is (numbered (shape f a.bounds) is) refl)
    where
      go : (is : List ℤ) (o : Option ℕ) → numbered (shape f a.bounds) is ≡ o → Held (λ k. k < (sequence f a).length) (or_fail (Undefined 2) o)
      go is None e = tt
      go is (Some k) e = let b = numbered_below (shape f a.bounds) is k e in let c = array_long a ok in omega arith

  -- a quotient has a value, or it is undefined
  quotient_held : (x y : ℤ) → Held (Typed types.Integer) (or_fail (Undefined 5) (integer (divided x y)))
  quotient_held x y = go (divided x y)
    where
      go : (o : Option ℤ) → Held (Typed types.Integer) (or_fail (Undefined 5) (integer o))
      go None = tt
      go (Some z) = refl

  power_held : (x : ℤ) (n : ℕ) → n ≤ 62 → Held (Typed types.Integer) (operated Pow (Integer x) (Integer (pos n)))
  power_held x n le = go (nat_le n 62) refl
    where
      go : (b : Bool) → nat_le n 62 ≡ b → Held (Typed types.Integer) (or_fail Stuck (integer (if b then Some (power x n) else None)))
      go true t = refl
      go false t = absurd (grind (arith, nat_tests))

  operate_held : (op : Op) (x y : Value) → Typed (takes op) x → Typed (takes op) y → (op ≡ Pow → ⊥) → Held (Typed (gives op)) (operated op x y)
  operate_held Pow (Integer x) (Integer y) p q c = absurd (c refl)
  operate_held Mul (Integer x) (Integer y) p q c = refl
  operate_held Div (Integer x) (Integer y) p q c = quotient_held x y
  operate_held Add (Integer x) (Integer y) p q c = refl
  operate_held Sub (Integer x) (Integer y) p q c = refl
  operate_held Eq (Integer x) (Integer y) p q c = refl
  operate_held Ne (Integer x) (Integer y) p q c = refl
  operate_held Lt (Integer x) (Integer y) p q c = refl
  operate_held Le (Integer x) (Integer y) p q c = refl
  operate_held Gt (Integer x) (Integer y) p q c = refl
  operate_held Ge (Integer x) (Integer y) p q c = refl
  operate_held And (Logical a) (Logical b) p q c = refl
  operate_held Or (Logical a) (Logical b) p q c = refl
  operate_held Eqv (Logical a) (Logical b) p q c = refl
  operate_held Neqv (Logical a) (Logical b) p q c = refl
  operate_held op x y p q c = cc

  -- an operator with its second operand still to come
  right_held : (op : Op) (b : Term) (x : Value) → Typed (takes op) x → Held (Typed (takes op)) (value f b) → ExponentOk op b → Held (Typed (gives op)) (and_then (value f b) (λ y. operated op x y))
  right_held Pow b (Integer x) p h c = subst (λ a. Held (Typed types.Integer) (and_then a (λ y. operated Pow (Integer x) y))) (sym (constant_value f b (Integer (pos c.0)) c.1)) (power_held x c.0 c.2)
  right_held Pow b (Logical z) p h c = cc
  right_held op b x p h c = and_held (Typed (takes op)) (Typed (gives op)) (value f b) _ h (λ y q. operate_held op x y p q (λ e. cc))

  remainder_held : (x y : ℤ) → Held Any (or_fail (Undefined 5) (remainder x y (divided x y)))
  remainder_held x y = go (divided x y)
    where
      go : (o : Option ℤ) → Held Any (or_fail (Undefined 5) (remainder x y o))
      go None = tt
      go (Some q) = tt

  intrinsic_held : (i : Intrinsic) (es : Terms) (xs : List ℤ) → arity i es → NumbersOf es xs → Held Any (intrinsic i xs)
  intrinsic_held Abs (a and End) (x ∷ []) r n = tt
  intrinsic_held Mod (a and b and End) (x ∷ y ∷ []) r n = remainder_held x y
  intrinsic_held Sign (a and b and End) (x ∷ y ∷ []) r n = tt
  intrinsic_held Dim (a and b and End) (x ∷ y ∷ []) r n = tt
  intrinsic_held Max (a and as_) (x ∷ xs) r n = tt
  intrinsic_held Min (a and as_) (x ∷ xs) r n = tt
  intrinsic_held i es xs r n = absurd assumption

  resulting_held : (ty : Ty) (s : ℕ) → S.type_of s ≡ Some ty → (r : Answer) → Answered s r → Held (Typed ty) (resulting r)
  resulting_held ty s e r a = go r (subst (λ t. Answers t r) e a)
    where
      go : (r : Answer) → Answers (Some ty) r → Held (Typed ty) (resulting r)
      go None a = a
      go (Some v) a = a

  kept_held : (v : Value) → Typed types.Integer v → Held (Typed types.Integer) (or_fail Stuck (kept v))
  kept_held (Integer x) t = refl
  kept_held (Logical b) t = cc

  negated_held : (v : Value) → Typed types.Integer v → Held (Typed types.Integer) (or_fail Stuck (negated v))
  negated_held (Integer x) t = refl
  negated_held (Logical b) t = cc

  denied_held : (v : Value) → Typed types.Logical v → Held (Typed types.Logical) (or_fail Stuck (denied v))
  denied_held (Logical b) t = refl
  denied_held (Integer x) t = cc

  -- an actual that is evaluated into a fresh cell
  fresh_held : (s j : ℕ) (P : Value → Type 0) (Q Q' : List Interval → Type 0) (a : Act Value) (b : Act (List Interval)) → Held P a → Held Q b → ((ds : List Interval) → Q ds → Q' (fresh f s j ∷ ds)) → Held Q' (and_then a (λ x. and_then (store (at (fresh f s j) 0) x) (λ _. and_then b (λ ds. Done (fresh f s j ∷ ds)))))
  fresh_held s j P Q Q' a b h k g = and_held P Q' a (λ x. Put (at (fresh f s j) 0) (stored x) (and_then b (λ ds. Done (fresh f s j ∷ ds)))) h (λ x p.
      let here : Writes (at (fresh f s j) 0) = inr (s, j, refl) in
      (here, and_held Q Q' b (λ ds. Done (fresh f s j ∷ ds)) k (λ ds q. g ds q)))

  mutual
    pub value_held : (e : Term) (ty : Ty) → TermOk S ty e → Held (Typed ty) (value f e)
    value_held (Literal v) ty o = o
    value_held (Text bs) ty o = o
    value_held (Variable ty' b) ty o = subst (λ t. Held (Typed t) (fetch ty' (scalar f b))) o.0 (fetch_held ty' (scalar f b) (scalar_covered S.used b o.1 o.2))
    value_held (Element ty' a es) ty o =
        and_held (ValuesOf es) _ (values f es) _ (values_held es o.3) (λ vs p.
        and_held (λ k. k < (sequence f a).length) _ (element f a vs) _ (element_held a es vs o.1 p) (λ k lt.
        subst (λ t. Held (Typed t) (fetch ty' (at (sequence f a) k))) o.0 (fetch_held ty' (at (sequence f a) k) (seq_covered S.used f a.base a.length k o.2 lt))))
    value_held (Whole a) ty o = o
    value_held (Reference s es) ty o =
        and_held (λ ds. AreActuals f s 0 es ds) _ (actuals f s 0 es) _ (actuals_held es s 0 o.3) (λ ds p.
        ((o.1, subst (λ es. AreActuals f s 0 es ds) (sym o.2) p), λ r a. resulting_held ty s o.0 r a))
    value_held (Apply i es) ty o =
        subst (λ t. Held (Typed t) (value f (Apply i es))) o.0 (and_held (ValuesOf es) _ (values f es) _ (values_held es o.2) (λ vs p.
        and_held (NumbersOf es) _ (integers vs) _ (integers_held es vs p) (λ xs n.
        and_held Any _ (intrinsic i xs) _ (intrinsic_held i es xs o.1 n) (λ x q. refl))))
    value_held (Paren e) ty o = value_held e ty o
    value_held (Plus e) ty o = subst (λ t. Held (Typed t) (value f (Plus e))) o.0 (and_held (Typed types.Integer) _ (value f e) _ (value_held e types.Integer o.1) (λ x p. kept_held x p))
    value_held (Negative e) ty o = subst (λ t. Held (Typed t) (value f (Negative e))) o.0 (and_held (Typed types.Integer) _ (value f e) _ (value_held e types.Integer o.1) (λ x p. negated_held x p))
    value_held (Not e) ty o = subst (λ t. Held (Typed t) (value f (Not e))) o.0 (and_held (Typed types.Logical) _ (value f e) _ (value_held e types.Logical o.1) (λ x p. denied_held x p))
    value_held (Binary op a b) ty o =
        subst (λ t. Held (Typed t) (value f (Binary op a b))) o.0 (and_held (Typed (takes op)) _ (value f a) _ (value_held a (takes op) o.1) (λ x p.
        right_held op b x p (value_held b (takes op) o.2) o.3))
    value_held NoTerm ty o = o

    pub values_held : (es : Terms) → IntegersOk S es → Held (ValuesOf es) (values f es)
    values_held End o = tt
    values_held (e and es) o =
        and_held (Typed types.Integer) _ (value f e) _ (value_held e types.Integer o.0) (λ x p.
        and_held (ValuesOf es) _ (values f es) _ (values_held es o.1) (λ xs q. (p, q)))

    pub actuals_held : (es : Terms) (s j : ℕ) → ActualsOk S es → Held (λ ds. AreActuals f s j es ds) (actuals f s j es)
    actuals_held End s j o = tt
    actuals_held (Variable ty b and es) s j o = and_held (λ ds. AreActuals f s (suc j) es ds) _ (actuals f s (suc j) es) _ (actuals_held es s (suc j) o.1) (λ ds p. (refl, p))
    actuals_held (Whole a and es) s j o = and_held (λ ds. AreActuals f s (suc j) es ds) _ (actuals f s (suc j) es) _ (actuals_held es s (suc j) o.1) (λ ds p. (refl, p))
    actuals_held (Element ty a is and es) s j o =
        and_held (ValuesOf is) _ (values f is) _ (values_held is o.1) (λ vs p.
        and_held (λ k. k < (sequence f a).length) _ (element f a vs) _ (element_held a is vs o.0 p) (λ k lt.
        and_held (λ ds. AreActuals f s (suc j) es ds) _ (actuals f s (suc j) es) _ (actuals_held es s (suc j) o.2) (λ ds p. (record { from = k; below = lt; is = refl }, p))))
    actuals_held (e and es) s j o = fresh_held s j (Typed o.0.0) (λ ds. AreActuals f s (suc j) es ds) (λ ds. AreActuals f s j (e and es) ds) (value f e) (actuals f s (suc j) es) (value_held e o.0.0 o.0.1) (actuals_held es s (suc j) o.1) (λ ds p. (refl, p))
