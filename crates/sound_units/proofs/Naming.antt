-- The unit of a name, among the units of a program.
use Rattle.std.proofs.Common.{◌≡◌, ℕ, zero, suc, ◌+◌, ◌⊎◌, inl, inr, Bool, true, false, cond, Some, List, [], ◌∷◌, map, find, slice_get, refl, sym, ap, ◌∙◌, subst, arith}
use Rattle.std.specs.Cmp.Lexicographic.{same_text}
use Rattle.std.proofs.lemmas.Cmp.{nat_list_eq_equiv}
use Rattle.f77_tree.specs.declared.unit.Unit.{Unit as SourceUnit}
use Rattle.f77_values.specs.Tables.{Name, name_eq}
use Rattle.f77_semantics.specs.Program.{Routine}
use Rattle.f77_semantics.specs.Units.{named}
use Rattle.f77_semantics.specs.Source.{is_main, main_of, routine}
use Rattle.prog_texts.specs.declared.signatures.Signature.{Signature}
use Rattle.prog_texts.specs.Signatures.{signature, named_from, signatures, unit_of}
use Rattle.sound_units.specs.Sites.{Each}
use Rattle.sound_units.specs.Accepted.{NamesDiffer}
use Rattle.sound_units.proofs.Tables.{some_is, told_each, what_each}

module _ (units : List SourceUnit) where
  -- the unit of a signature
  pub record HasUnit (pair : Name × Signature) : Type 0 where
    pub place : ℕ
    pub unit : SourceUnit
    pub stands : slice_get units place ≡ Some unit
    pub name_is : unit.name ≡ pair.0
    pub is : pair.1 ≡ signature unit place

  named_each : (us : List SourceUnit) (k : ℕ) → ((i : ℕ) (v : SourceUnit) → slice_get us i ≡ Some v → slice_get units (k + i) ≡ Some v) → Each HasUnit (named_from k us)
  named_each [] k h = tt
  named_each (u ∷ us) k h =
      let e : k ≡ k + 0 = omega arith in (
        record { place = k; unit = u; stands = ap (slice_get units) e ∙ h 0 u refl; name_is = refl; is = refl },
        named_each us (suc k) (λ i v s. let e : suc k + i ≡ k + suc i = omega arith in ap (slice_get units) e ∙ h (suc i) v s),
      )

  pub unit_known : (name : Name) (s : Signature) → unit_of (signatures units) name ≡ Some s → HasUnit (name, s)
  unit_known name s e = what_each HasUnit (signatures units) name s
      (told_each HasUnit (named_from 0 units) [] tt (named_each units 0 (λ i v s. let e : 0 + i ≡ i = omega arith in ap (slice_get units) e ∙ s))) e

-- ---- routines by name

record FoundIn (us : List SourceUnit) (other : Routine) (q : Name) : Type 0 where
  place : ℕ
  unit : SourceUnit
  stands : slice_get us place ≡ Some unit
  name_is : unit.name ≡ q
  named_is : named (map routine us) other q ≡ routine unit

record MissingIn (us : List SourceUnit) (other : Routine) (q : Name) : Type 0 where
  none : (p : ℕ) (v : SourceUnit) → slice_get us p ≡ Some v → v.name ≡ q → ⊥
  named_is : named (map routine us) other q ≡ other

look : (us : List SourceUnit) (other : Routine) (q : Name) → FoundIn us other q ⊎ MissingIn us other q
look [] other q = inr (record { none = λ p v s e. cc; named_is = refl })
look (u ∷ us) other q = go (name_eq u.name q) refl (look us other q)
  where
    found : name_eq u.name q ≡ true → FoundIn (u ∷ us) other q
    found e = record { place = 0; unit = u; stands = refl; name_is = same_text u.name q (sym e); named_is = ap (λ b. cond b (routine u) (named (map routine us) other q)) e }

    further : name_eq u.name q ≡ false → FoundIn us other q → FoundIn (u ∷ us) other q
    further e x = record { place = suc x.place; unit = x.unit; stands = x.stands; name_is = x.name_is; named_is = ap (λ b. cond b (routine u) (named (map routine us) other q)) e ∙ x.named_is }

    not_here : name_eq u.name q ≡ false → ((p : ℕ) (v : SourceUnit) → slice_get us p ≡ Some v → v.name ≡ q → ⊥) → (p : ℕ) (v : SourceUnit) → slice_get (u ∷ us) p ≡ Some v → v.name ≡ q → ⊥
    not_here e none zero v s n =
        let same : u ≡ v = some_is u v s in
        let name : u.name ≡ q = ap (λ u. u.name) same ∙ n in
        let yes : name_eq u.name q ≡ true = ap (name_eq u.name) (sym name) ∙ nat_list_eq_equiv.refl u.name in
        cc
    not_here e none (suc p) v s n = none p v s n

    go : (b : Bool) → name_eq u.name q ≡ b → FoundIn us other q ⊎ MissingIn us other q → FoundIn (u ∷ us) other q ⊎ MissingIn (u ∷ us) other q
    go true e rest = inl (found e)
    go false e (inl x) = inl (further e x)
    go false e (inr x) = inr (record { none = not_here e x.none; named_is = ap (λ b. cond b (routine u) (named (map routine us) other q)) e ∙ x.named_is })

-- the first of those that pass a test, with its place
pub record FirstOf {A : Type 0} (test : A → Bool) (xs : List A) (x : A) : Type 0 where
  pub place : ℕ
  pub stands : slice_get xs place ≡ Some x
  pub passes : test x ≡ true

pub first_of : {A : Type 0} (test : A → Bool) (xs : List A) (x : A) → find test xs ≡ Some x → FirstOf test xs x
first_of test [] x e = cc
first_of test (y ∷ ys) x e = go (test y) refl e (first_of test ys x)
  where
    go : (b : Bool) → test y ≡ b → cond b (Some y) (find test ys) ≡ Some x → (find test ys ≡ Some x → FirstOf test ys x) → FirstOf test (y ∷ ys) x
    go true t e rest = let same : y ≡ x = some_is y x e in record { place = 0; stands = e; passes = subst (λ x. test x ≡ true) same t }
    go false t e rest = let r = rest e in record { place = suc r.place; stands = r.stands; passes = r.passes }

-- The unit that stands for a name: the unit of this name, or the main program.
pub record Spot (units : List SourceUnit) (main : SourceUnit) (q : Name) : Type 0 where
  pub place : ℕ
  pub unit : SourceUnit
  pub stands : slice_get units place ≡ Some unit
  pub named_is : named (map routine units) (routine main) q ≡ routine unit
  pub known : (p : ℕ) (v : SourceUnit) → slice_get units p ≡ Some v → v.name ≡ q → p ≡ place

pub spot : (units : List SourceUnit) (main : SourceUnit) → main_of units ≡ Some main → NamesDiffer units → (q : Name) → Spot units main q
spot units main is differ q = go (look units (routine main) q)
  where
    go : FoundIn units (routine main) q ⊎ MissingIn units (routine main) q → Spot units main q
    go (inl x) = record { place = x.place; unit = x.unit; stands = x.stands; named_is = x.named_is; known = λ p v s e. differ p x.place v x.unit s x.stands (e ∙ sym x.name_is) }
    go (inr x) =
        let m : FirstOf (λ u. is_main u.kind) units main = first_of (λ u. is_main u.kind) units main is in
        record { place = m.place; unit = main; stands = m.stands; named_is = x.named_is; known = λ p v s e. absurd (x.none p v s e) }

pub same_unit : (units : List SourceUnit) (p q : ℕ) (u v : SourceUnit) → slice_get units p ≡ Some u → slice_get units q ≡ Some v → p ≡ q → u ≡ v
same_unit units p q u v s t e = some_is u v (sym s ∙ (ap (slice_get units) e ∙ t))
