-- The steps of a term don't look at those that follow.
use Rattle.std.proofs.Common.{◌≡◌, ℕ, suc, List, [], ◌∷◌, ◌++◌, refl, ap, ◌∙◌}
use Rattle.f77_semantics.specs.Program.{Term, Literal, Text, Variable, Element, Whole, Reference, Apply, Paren, Negative, Plus, Not, Binary, NoTerm, Terms, End, ◌and◌}
use Rattle.interp_code.specs.declared.step.Step.{Step}
use Rattle.interp_code.specs.declared.step.Step.TheVariants.{Compute, Deny, Hold, Keep, Load, Locate, Negate, Open, Operate, Pass, PassRest, PassWhole, Refer, Show, TakeIn}
use Rattle.interp_code.specs.Code.{code, codes, passes, aim, shows, reads}

mutual
  pub code-append : (t : Term) (xs cs : List Step) → code t (xs ++ cs) ≡ code t xs ++ cs
  code-append (Literal v) xs cs = refl
  code-append (Text bs) xs cs = refl
  code-append (Variable ty b) xs cs = refl
  code-append (Element ty a es) xs cs = ap (λ ys. Open ∷ ys) (codes-append es (Locate a ∷ Load ty ∷ xs) cs)
  code-append (Whole a) xs cs = refl
  code-append (Reference s es) xs cs = ap (λ ys. Open ∷ ys) (passes-append s 0 es (Refer s ∷ xs) cs)
  code-append (Apply i es) xs cs = ap (λ ys. Open ∷ ys) (codes-append es (Compute i ∷ xs) cs)
  code-append (Paren e) xs cs = code-append e xs cs
  code-append (Negative e) xs cs = code-append e (Negate ∷ xs) cs
  code-append (Plus e) xs cs = code-append e (Keep ∷ xs) cs
  code-append (Not e) xs cs = code-append e (Deny ∷ xs) cs
  code-append (Binary op a b) xs cs = ap (code a) (code-append b (Operate op ∷ xs) cs) ∙ code-append a (code b (Operate op ∷ xs)) cs
  code-append NoTerm xs cs = refl

  pub codes-append : (ts : Terms) (xs cs : List Step) → codes ts (xs ++ cs) ≡ codes ts xs ++ cs
  codes-append End xs cs = refl
  codes-append (e and es) xs cs = ap (code e) (codes-append es xs cs) ∙ code-append e (codes es xs) cs

  pub passes-append : (s j : ℕ) (ts : Terms) (xs cs : List Step) → passes s j ts (xs ++ cs) ≡ passes s j ts xs ++ cs
  passes-append s j End xs cs = refl
  passes-append s j (Variable ty b and es) xs cs = ap (λ ys. Pass b ∷ ys) (passes-append s (suc j) es xs cs)
  passes-append s j (Whole a and es) xs cs = ap (λ ys. PassWhole a ∷ ys) (passes-append s (suc j) es xs cs)
  passes-append s j (Element ty a subscripts and es) xs cs =
      ap (λ ys. Open ∷ codes subscripts (PassRest a ∷ ys)) (passes-append s (suc j) es xs cs)
      ∙ ap (λ ys. Open ∷ ys) (codes-append subscripts (PassRest a ∷ passes s (suc j) es xs) cs)
  passes-append s j (e and es) xs cs = ap (λ ys. code e (Hold s j ∷ ys)) (passes-append s (suc j) es xs cs) ∙ code-append e (Hold s j ∷ passes s (suc j) es xs) cs

pub aim-append : (t : Term) (xs cs : List Step) → aim t (xs ++ cs) ≡ aim t xs ++ cs
aim-append (Variable ty b) xs cs = refl
aim-append (Element ty a subscripts) xs cs = ap (λ ys. Open ∷ ys) (codes-append subscripts (Locate a ∷ xs) cs)
aim-append _ xs cs = refl

pub shows-append : (ts : Terms) (xs cs : List Step) → shows ts (xs ++ cs) ≡ shows ts xs ++ cs
shows-append End xs cs = refl
shows-append (Text bs and es) xs cs = ap (λ ys. Show bs ∷ ys) (shows-append es xs cs)
shows-append (e and es) xs cs = ap (code e) (shows-append es xs cs) ∙ code-append e (shows es xs) cs

pub reads-append : (ts : Terms) (xs cs : List Step) → reads ts (xs ++ cs) ≡ reads ts xs ++ cs
reads-append End xs cs = refl
reads-append (t and ts) xs cs = ap (λ ys. aim t (TakeIn ∷ ys)) (reads-append ts xs cs) ∙ aim-append t (TakeIn ∷ reads ts xs) cs

-- one actual argument before others
pub passes-next : (s j : ℕ) (t : Term) (ts : Terms) (cs : List Step) → passes s j (t and ts) cs ≡ passes s j (t and End) [] ++ passes s (suc j) ts cs
passes-next s j (Variable ty b) ts cs = refl
passes-next s j (Whole a) ts cs = refl
passes-next s j (Element ty a subscripts) ts cs = ap (λ ys. Open ∷ ys) (codes-append subscripts (PassRest a ∷ []) (passes s (suc j) ts cs))
passes-next s j t ts cs = code-append t (Hold s j ∷ []) (passes s (suc j) ts cs)

pub shows-next : (t : Term) (ts : Terms) (cs : List Step) → shows (t and ts) cs ≡ shows (t and End) [] ++ shows ts cs
shows-next (Text bs) ts cs = refl
shows-next t ts cs = code-append t [] (shows ts cs)
