-- Programs whose literals have 64 bits stay in 64 bits.
use Rattle.std.proofs.Common.{◌≡◌, ℕ, zero, suc, List, [], ◌∷◌, Option, Some, None, Bool, true, false, cond, ap, subst, map, length}
use Rattle.std.specs.List.{AllByRecursion, list_all}
use Rattle.run_model.specs.Storage as storage
use Rattle.run_model.specs.Storage.{Loc, Interval, loc_eq}
use Rattle.run_model.specs.Acts.{World, Outcome, Fine, Stop, Answer}
use Rattle.f77_tree.specs.declared.unit.Unit.{Unit as SourceUnit}
use Rattle.f77_tree.specs.declared.unit.Value.{Value}
use Rattle.f77_values.specs.Tables.{Name, name_eq}
use Rattle.f77_semantics.specs.Values.{stored}
use Rattle.f77_semantics.specs.declared.storage.Base.{Base}
use Rattle.f77_semantics.specs.Program.{Routine}
use Rattle.f77_semantics.specs.Expressions.{scalar}
use Rattle.f77_semantics.specs.Units.{Program, entered, run_unit, at_sites, meaning, callee, given_in, given, named, fresh_world}
use Rattle.f77_semantics.specs.Source.{is_main, main_of, routine, with_main}
use Rattle.word_laws.specs.Words.{HasWord64, InWord64, AnswersWord64, EndsInWord64, StaysInWord64, IsTheSource, ActivationsStayInWord64}
use Rattle.word_laws.specs.Literals.{unit_has_word64}
use Rattle.word_laws.proofs.Acts.{Ends}
use Rattle.word_laws.proofs.Terms.{Has, stored_has}
use Rattle.word_laws.proofs.Turns.{RoutineHas, unit_keeps}
use Rattle.word_laws.proofs.Constants.{both}
use Rattle.word_laws.proofs.Trees.{routine_fits}

so : (o : Outcome Answer) → Ends AnswersWord64 o → EndsInWord64 o
so (Fine r w) h = h
so (Stop r w) h = h

meaning_keeps : (units : Program) → ((q : Name) → RoutineHas (units q)) → (d : ℕ) (q : Name) (ds : List Interval) (w : World) → InWord64 w → EndsInWord64 (meaning units d q ds w)
meaning_keeps units each zero q ds w i = i
meaning_keeps units each (suc d) q ds w i = so (run_unit (at_sites (units q) (meaning units d)) (units q) ds w) (unit_keeps (at_sites (units q) (meaning units d)) (λ s ds w i. meaning_keeps units each d (callee (units q) s) ds w i) (units q) (each q) ds w i)

named_has : (units : List SourceUnit) (other : Routine) → list_all unit_has_word64 units ≡ true → RoutineHas other → (q : Name) → RoutineHas (named (map routine units) other q)
named_has [] other h o q = o
named_has (u ∷ us) other h o q = let b = both (unit_has_word64 u) (list_all unit_has_word64 us) h in go (name_eq u.name q) (routine_fits u b.0) (named_has us other b.1 o q)
  where
    go : (b : Bool) → RoutineHas (routine u) → RoutineHas (named (map routine us) other q) → RoutineHas (cond b (routine u) (named (map routine us) other q))
    go true r ih = r
    go false r ih = ih

-- The main program is one of the units.
main_has : (units : List SourceUnit) (main : SourceUnit) → list_all unit_has_word64 units ≡ true → main_of units ≡ Some main → unit_has_word64 main ≡ true
main_has [] main h is = let z : None ≡ Some main = is in cc
main_has (u ∷ us) main h is = let b = both (unit_has_word64 u) (list_all unit_has_word64 us) h in go (is_main u.kind) is b.0 (main_has us main b.1)
  where
    go : (b : Bool) → cond b (Some u) (main_of us) ≡ Some main → unit_has_word64 u ≡ true → (main_of us ≡ Some main → unit_has_word64 main ≡ true) → unit_has_word64 main ≡ true
    go true is k ih = let z : u ≡ main = cc in subst (λ m. unit_has_word64 m ≡ true) z k
    go false is k ih = ih is

all_have : (units : List SourceUnit) → list_all unit_has_word64 units ≡ true → (main : SourceUnit) → main_of units ≡ Some main → (q : Name) → RoutineHas (named (map routine units) (routine main) q)
all_have units h main is = named_has units (routine main) h (routine_fits main (main_has units main h is))

-- ---- the beginning

abbrev MayBe : Option Value → Type 0
MayBe None = Unit {0}
MayBe (Some v) = Has v

given_in_has : (u : Routine) (l : Loc) (gs : List (Base × Value)) → AllByRecursion (λ g. Has g.1) gs → MayBe (given_in u l gs)
given_in_has u l [] h = tt
given_in_has u l (g ∷ gs) h = go (loc_eq (scalar (entered u []) g.0) l) (given_in_has u l gs h.1)
  where
    go : (b : Bool) → MayBe (given_in u l gs) → MayBe (cond b (Some g.1) (given_in u l gs))
    go true ih = h.0
    go false ih = ih

given_has : (units : List SourceUnit) → list_all unit_has_word64 units ≡ true → (l : Loc) (v : storage.Value) → given (map routine units) l ≡ Some v → HasWord64 v
given_has [] h l v e = let z : None ≡ Some v = e in cc
given_has (u ∷ us) h l v e = let b = both (unit_has_word64 u) (list_all unit_has_word64 us) h in go (given_in (routine u) l (routine u).initial) (given_in_has (routine u) l (routine u).initial (routine_fits u b.0).initial) e (given_has us b.1 l v)
  where
    go : (o : Option Value) → MayBe o → elim o [ None ↦ given (map routine us) l | Some x ↦ Some (stored x) ] ≡ Some v → (given (map routine us) l ≡ Some v → HasWord64 v) → HasWord64 v
    go None m e ih = ih e
    go (Some x) m e ih = let z : stored x ≡ v = cc in subst HasWord64 z (stored_has x m)

pub stays : StaysInWord64
stays units h main is input words n = meaning_keeps (named (map routine units) (routine main)) (all_have units h main is) (length (map routine units)) main.name [] (fresh_world (map routine units) input n) (record { cells = given_has units h; input = words })

pub is_source : IsTheSource
is_source units main is input n = ap (λ o. with_main (map routine units) o input n) is

pub activations : ActivationsStayInWord64
activations units h main is depth q ds w i = meaning_keeps (named (map routine units) (routine main)) (all_have units h main is) depth q ds w i
