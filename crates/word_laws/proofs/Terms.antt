-- Terms whose literals have 64 bits have values of 64 bits.
use Rattle.std.proofs.Common.{ℕ, zero, suc, List, [], ◌∷◌, Option, Some, None, Bool, true, false, cond, ℤ, pos, negsuc, neg_ℤ, ◌-ℤ◌, ◌*ℤ◌, nat_le, int_lt, int_div, if◌then◌else◌}
use Rattle.std.specs.List.{AllByRecursion}
use Rattle.std.specs.Int.{w64, is_negative, int_max, int_min}
use Rattle.std.specs.Ordering.{int_eq}
use Rattle.std.proofs.lemmas.Int.{SFits-int_wrap}
use Rattle.std.proofs.Math.Facts.{sfits_lit}
use Rattle.run_model.specs.Storage as storage
use Rattle.run_model.specs.Storage.{Loc, Interval}
use Rattle.run_model.specs.Acts.{Reason, Undefined, Stuck, Act, Done, Put, Fail, and_then, Answer}
use Rattle.f77_tree.specs.declared.expr.Op.{Op}
use Rattle.f77_tree.specs.declared.expr.Op.TheVariants.{Pow, Mul, Div, Add, Sub, Eq, Ne, Lt, Le, Gt, Ge, And, Or, Eqv, Neqv}
use Rattle.f77_tree.specs.declared.unit.Ty.{Ty}
use Rattle.f77_tree.specs.declared.unit.Value.{Value}
use Rattle.f77_tree.specs.declared.unit.Value.TheVariants.{Integer, Logical}
use Rattle.f77_names.specs.declared.intrinsics.Intrinsic.{Intrinsic}
use Rattle.f77_names.specs.declared.intrinsics.Intrinsic.TheVariants.{Abs, Mod, Sign, Dim, Max, Min}
use Rattle.f77_values.specs.Arithmetic.{wrap, power, powered, divided, integer, calculate, decide, operate, negated, kept, denied}
use Rattle.f77_semantics.specs.Values.{stored, seen, has_type, or_fail, lacking, greatest, least, absolute, remainder, intrinsic}
use Rattle.f77_semantics.specs.Program.{Term, Literal, Text, Variable, Element, Whole, Reference, Apply, Paren, Negative, Plus, Not, Binary, NoTerm, Terms, End, ◌and◌}
use Rattle.f77_semantics.specs.declared.storage.Array.{Array}
use Rattle.f77_semantics.specs.Expressions.{Frame, at, shape, numbered, integers, element, sequence, scalar, resulting, fresh, fetch, store, value, values, actuals}
use Rattle.f77_semantics.specs.Statements.{as_number, as_truth, number, condition, target}
use Rattle.run_inputs.specs.Inputs.{IsWord64, AllWord64}
use Rattle.word_laws.specs.Words.{HasWord64, AnswersWord64}
use Rattle.word_laws.proofs.Acts.{Keeps, Any, bind}

abbrev pub Has : Value → Type 0
Has (Integer x) = IsWord64 x
Has (Logical b) = Unit {0}

abbrev pub MayHave : Option Value → Type 0
MayHave None = Unit {0}
MayHave (Some v) = Has v

pub stored_has : (v : Value) → Has v → HasWord64 (stored v)
stored_has (Integer x) h = h
stored_has (Logical b) h = h

seen_has : (v : storage.Value) → HasWord64 v → Has (seen v)
seen_has (storage.Integer x) h = h
seen_has (storage.Logical b) h = h

-- the terms with such literals
abbrev mutual
  pub TermHas : Term → Type 0
  TermHas (Literal v) = Has v
  TermHas (Text bs) = Unit {0}
  TermHas (Variable ty b) = Unit {0}
  TermHas (Element ty a es) = TermsHave es
  TermHas (Whole a) = Unit {0}
  TermHas (Reference s es) = TermsHave es
  TermHas (Apply i es) = TermsHave es
  TermHas (Paren e) = TermHas e
  TermHas (Plus e) = TermHas e
  TermHas (Negative e) = TermHas e
  TermHas (Not e) = TermHas e
  TermHas (Binary op a b) = TermHas a × TermHas b
  TermHas NoTerm = Unit {0}

  pub TermsHave : Terms → Type 0
  TermsHave End = Unit {0}
  TermsHave (e and es) = TermHas e × TermsHave es

-- ---- values of operators, which wrap

wraps : (z : ℤ) → IsWord64 (wrap z)
wraps z = SFits-int_wrap w64 z

pub nought : IsWord64 (pos 0)
nought = sfits_lit tt

pub single : IsWord64 (pos 1)
single = sfits_lit tt

power_has : (x : ℤ) (n : ℕ) → IsWord64 (power x n)
power_has x zero = single
power_has x (suc n) = wraps (power x n *ℤ x)

powered_has : (x y : ℤ) → MayHave (integer (powered x y))
powered_has x (pos n) = go (nat_le n 62)
  where
    go : (b : Bool) → MayHave (integer (if b then Some (power x n) else None))
    go true = power_has x n
    go false = tt
powered_has x (negsuc n) = tt

divided_has : (x y : ℤ) → MayHave (integer (divided x y))
divided_has x y = go (int_eq y (pos 0))
  where
    go : (b : Bool) → MayHave (integer (if b then None else Some (wrap (int_div x y))))
    go true = tt
    go false = wraps (int_div x y)

calculate_has : (op : Op) (x y : ℤ) → MayHave (calculate op x y)
calculate_has Pow x y = powered_has x y
calculate_has Mul x y = wraps _
calculate_has Div x y = divided_has x y
calculate_has Add x y = wraps _
calculate_has Sub x y = wraps _
calculate_has Eq x y = tt
calculate_has Ne x y = tt
calculate_has Lt x y = tt
calculate_has Le x y = tt
calculate_has Gt x y = tt
calculate_has Ge x y = tt
calculate_has And x y = tt
calculate_has Or x y = tt
calculate_has Eqv x y = tt
calculate_has Neqv x y = tt

decide_has : (op : Op) (a b : Bool) → MayHave (decide op a b)
decide_has And a b = tt
decide_has Or a b = tt
decide_has Eqv a b = tt
decide_has Neqv a b = tt
decide_has op a b = tt

pub operate_has : (op : Op) (x y : Value) → MayHave (operate op x y)
operate_has op (Integer x) (Integer y) = calculate_has op x y
operate_has op (Logical a) (Logical b) = decide_has op a b
operate_has op (Integer x) (Logical b) = tt
operate_has op (Logical a) (Integer y) = tt

pub negated_has : (x : Value) → MayHave (negated x)
negated_has (Integer x) = wraps (neg_ℤ x)
negated_has (Logical b) = tt

pub kept_has : (x : Value) → Has x → MayHave (kept x)
kept_has (Integer x) h = h
kept_has (Logical b) h = tt

pub denied_has : (x : Value) → MayHave (denied x)
denied_has (Integer x) = tt
denied_has (Logical b) = tt

greatest_has : (x : ℤ) (xs : List ℤ) → IsWord64 x → AllWord64 xs → IsWord64 (greatest x xs)
greatest_has x [] h hs = h
greatest_has x (y ∷ ys) h hs = greatest_has (int_max x y) ys (go (int_lt y x)) hs.1
  where
    go : (b : Bool) → IsWord64 (cond b x y)
    go true = h
    go false = hs.0

least_has : (x : ℤ) (xs : List ℤ) → IsWord64 x → AllWord64 xs → IsWord64 (least x xs)
least_has x [] h hs = h
least_has x (y ∷ ys) h hs = least_has (int_min x y) ys (go (int_lt y x)) hs.1
  where
    go : (b : Bool) → IsWord64 (cond b y x)
    go true = hs.0
    go false = h

remainder_has : (x y : ℤ) (q : Option ℤ) → Keeps IsWord64 (or_fail (Undefined 5) (remainder x y q))
remainder_has x y None = tt
remainder_has x y (Some q) = wraps _

intrinsic_has : (i : Intrinsic) (xs : List ℤ) → AllWord64 xs → Keeps IsWord64 (intrinsic i xs)
intrinsic_has Abs (x ∷ []) h = wraps _
intrinsic_has Mod (x ∷ y ∷ []) h = remainder_has x y (divided x y)
intrinsic_has Sign (x ∷ y ∷ []) h = go (is_negative y)
  where
    go : (b : Bool) → IsWord64 (if b then wrap (neg_ℤ (absolute x)) else absolute x)
    go true = wraps _
    go false = wraps _
intrinsic_has Dim (x ∷ y ∷ []) h = go (int_lt y x)
  where
    go : (b : Bool) → IsWord64 (if b then wrap (x -ℤ y) else pos 0)
    go true = wraps _
    go false = nought
intrinsic_has Max (x ∷ xs) h = greatest_has x xs h.0 h.1
intrinsic_has Min (x ∷ xs) h = least_has x xs h.0 h.1
intrinsic_has i xs h = tt

-- ---- terms

or_fail_has : (r : Reason) (o : Option Value) → MayHave o → Keeps Has (or_fail r o)
or_fail_has r None h = tt
or_fail_has r (Some v) h = h

or_fail_any : {A : Type 0} → (r : Reason) (o : Option A) → Keeps Any (or_fail r o)
or_fail_any r None = tt
or_fail_any r (Some v) = tt

integers_have : (vs : List Value) → AllByRecursion Has vs → Keeps AllWord64 (integers vs)
integers_have [] h = tt
integers_have (Integer x ∷ vs) h = bind AllWord64 AllWord64 (integers vs) (λ xs. Done (x ∷ xs)) (integers_have vs h.1) (λ xs hs. (h.0, hs))
integers_have (Logical b ∷ vs) h = tt

element_keeps : (f : Frame) (a : Array) (vs : List Value) → AllByRecursion Has vs → Keeps Any (element f a vs)
element_keeps f a vs h = bind AllWord64 Any (integers vs) (λ is. or_fail (Undefined 2) (numbered (shape f a.bounds) is)) (integers_have vs h) (λ is hs. or_fail_any (Undefined 2) (numbered (shape f a.bounds) is))

resulting_has : (r : Answer) → AnswersWord64 r → Keeps Has (resulting r)
resulting_has None h = tt
resulting_has (Some c) h = seen_has c h

pub fetch_has : (ty : Ty) (l : Loc) → Keeps Has (fetch ty l)
fetch_has ty l = λ c h. go (seen c) (seen_has c h) (has_type ty (seen c))
  where
    go : (v : Value) → Has v → (b : Bool) → Keeps Has (if b then Done v else Fail (Undefined 1))
    go v h true = h
    go v h false = tt

module _ (f : Frame) where
  -- an actual that is evaluated into a fresh cell
  fresh_keeps : (s j : ℕ) (a : Act Value) (b : Act (List Interval)) → Keeps Has a → Keeps Any b → Keeps Any (and_then a (λ x. and_then (store (at (fresh f s j) 0) x) (λ _. and_then b (λ ds. Done (fresh f s j ∷ ds)))))
  fresh_keeps s j a b p q = bind Has Any a (λ x. Put (at (fresh f s j) 0) (stored x) (and_then b (λ ds. Done (fresh f s j ∷ ds)))) p (λ x h. (stored_has x h, bind Any Any b (λ ds. Done (fresh f s j ∷ ds)) q (λ ds t. tt)))

  mutual
    pub value_has : (e : Term) → TermHas e → Keeps Has (value f e)
    value_has (Literal v) h = h
    value_has (Text bs) h = tt
    value_has (Variable ty b) h = fetch_has ty (scalar f b)
    value_has (Element ty a es) h =
        bind (AllByRecursion Has) Has (values f es) _ (values_have es h) (λ vs p.
        bind Any Has (element f a vs) _ (element_keeps f a vs p) (λ k q. fetch_has ty (at (sequence f a) k)))
    value_has (Whole a) h = tt
    value_has (Reference s es) h = bind Any Has (actuals f s 0 es) _ (actuals_keep es s 0 h) (λ ds p r q. resulting_has r q)
    value_has (Apply i es) h =
        bind (AllByRecursion Has) Has (values f es) _ (values_have es h) (λ vs p.
        bind AllWord64 Has (integers vs) _ (integers_have vs p) (λ xs q.
        bind IsWord64 Has (intrinsic i xs) _ (intrinsic_has i xs q) (λ x r. r)))
    value_has (Paren e) h = value_has e h
    value_has (Plus e) h = bind Has Has (value f e) _ (value_has e h) (λ x p. or_fail_has Stuck (kept x) (kept_has x p))
    value_has (Negative e) h = bind Has Has (value f e) _ (value_has e h) (λ x p. or_fail_has Stuck (negated x) (negated_has x))
    value_has (Not e) h = bind Has Has (value f e) _ (value_has e h) (λ x p. or_fail_has Stuck (denied x) (denied_has x))
    value_has (Binary op a b) h =
        bind Has Has (value f a) _ (value_has a h.0) (λ x p.
        bind Has Has (value f b) _ (value_has b h.1) (λ y q. or_fail_has (lacking op x y) (operate op x y) (operate_has op x y)))
    value_has NoTerm h = tt

    pub values_have : (es : Terms) → TermsHave es → Keeps (AllByRecursion Has) (values f es)
    values_have End h = tt
    values_have (e and es) h =
        bind Has (AllByRecursion Has) (value f e) _ (value_has e h.0) (λ x p.
        bind (AllByRecursion Has) (AllByRecursion Has) (values f es) _ (values_have es h.1) (λ xs q. (p, q)))

    pub actuals_keep : (es : Terms) (s j : ℕ) → TermsHave es → Keeps Any (actuals f s j es)
    actuals_keep End s j h = tt
    actuals_keep (Variable ty b and es) s j h = bind Any Any (actuals f s (suc j) es) _ (actuals_keep es s (suc j) h.1) (λ ds p. tt)
    actuals_keep (Whole a and es) s j h = bind Any Any (actuals f s (suc j) es) _ (actuals_keep es s (suc j) h.1) (λ ds p. tt)
    actuals_keep (Element ty a is and es) s j h =
        bind (AllByRecursion Has) Any (values f is) _ (values_have is h.0) (λ vs p.
        bind Any Any (element f a vs) _ (element_keeps f a vs p) (λ k q.
        bind Any Any (actuals f s (suc j) es) _ (actuals_keep es s (suc j) h.1) (λ ds r. tt)))
    actuals_keep (e and es) s j h = fresh_keeps s j (value f e) (actuals f s (suc j) es) (value_has e h.0) (actuals_keep es s (suc j) h.1)

  pub as_number_has : (v : Value) → Has v → Keeps IsWord64 (as_number v)
  as_number_has (Integer x) h = h
  as_number_has (Logical b) h = tt

  as_truth_any : (v : Value) → Keeps Any (as_truth v)
  as_truth_any (Integer x) = tt
  as_truth_any (Logical b) = tt

  pub number_has : (e : Term) → TermHas e → Keeps IsWord64 (number f e)
  number_has e h = bind Has IsWord64 (value f e) _ (value_has e h) as_number_has

  pub condition_keeps : (e : Term) → TermHas e → Keeps Any (condition f e)
  condition_keeps e h = bind Has Any (value f e) _ (value_has e h) (λ v p. as_truth_any v)

  pub target_keeps : (t : Term) → TermHas t → Keeps Any (target f t)
  target_keeps (Variable ty b) h = tt
  target_keeps (Element ty a es) h =
      bind (AllByRecursion Has) Any (values f es) _ (values_have es h) (λ vs p.
      bind Any Any (element f a vs) _ (element_keeps f a vs p) (λ k q. tt))
  target_keeps t h = tt
