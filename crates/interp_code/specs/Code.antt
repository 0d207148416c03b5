-- The steps of expressions, before those that follow.
use Rattle.std.specs.Prelude.{ℕ, suc, List, [], ◌∷◌}
use Rattle.f77_semantics.specs.Program.{Term, Literal, Text, Variable, Element, Whole, Reference, Apply, Paren, Negative, Plus, Not, Binary, NoTerm, Terms, End, ◌and◌}
use Rattle.interp_code.specs.Steps.{Step, Push, Show, Open, Fetch, Aim, Locate, Load, Pass, PassWhole, PassRest, Hold, Refer, Compute, Keep, Negate, Deny, Operate, TakeIn, Wrong}

abbrev mutual
  -- a value
  pub code : Term → List Step → List Step
  code (Literal v) cs = Push v ∷ cs
  code (Text bs) cs = Wrong ∷ cs
  code (Variable ty b) cs = Fetch ty b ∷ cs
  code (Element ty a subscripts) cs = Open ∷ codes subscripts (Locate a ∷ Load ty ∷ cs)
  code (Whole a) cs = Wrong ∷ cs
  code (Reference site es) cs = Open ∷ passes site 0 es (Refer site ∷ cs)
  code (Apply i es) cs = Open ∷ codes es (Compute i ∷ cs)
  code (Paren e) cs = code e cs
  code (Negative e) cs = code e (Negate ∷ cs)
  code (Plus e) cs = code e (Keep ∷ cs)
  code (Not e) cs = code e (Deny ∷ cs)
  code (Binary op a b) cs = code a (code b (Operate op ∷ cs))
  code NoTerm cs = Wrong ∷ cs

  -- values in their order
  pub codes : Terms → List Step → List Step
  codes End cs = cs
  codes (e and es) cs = code e (codes es cs)

  -- actual arguments in their order
  pub passes : (site position : ℕ) → Terms → List Step → List Step
  passes s j End cs = cs
  passes s j (Variable ty b and es) cs = Pass b ∷ passes s (suc j) es cs
  passes s j (Whole a and es) cs = PassWhole a ∷ passes s (suc j) es cs
  passes s j (Element ty a subscripts and es) cs = Open ∷ codes subscripts (PassRest a ∷ passes s (suc j) es cs)
  passes s j (e and es) cs = code e (Hold s j ∷ passes s (suc j) es cs)

-- the location that a target names
abbrev pub aim : Term → List Step → List Step
aim (Variable ty b) cs = Aim b ∷ cs
aim (Element ty a subscripts) cs = Open ∷ codes subscripts (Locate a ∷ cs)
aim _ cs = Wrong ∷ cs

-- the items of a PRINT
abbrev pub shows : Terms → List Step → List Step
shows End cs = cs
shows (Text bs and es) cs = Show bs ∷ shows es cs
shows (e and es) cs = code e (shows es cs)

-- the targets of a READ
abbrev pub reads : Terms → List Step → List Step
reads End cs = cs
reads (t and ts) cs = aim t (TakeIn ∷ reads ts cs)
