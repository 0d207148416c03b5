-- The first fault of a rule, by the flags of the statements.
use Rattle.std.proofs.Common.{◌≡◌, ℕ, zero, suc, Bool, true, List, [], ◌∷◌, Option, Some, map, take, fold, option_map, slice_get, refl, sym, ap, subst, ◌∙◌, ◌⊎◌, inl, inr}
use Rattle.std.proofs.lemmas.Option.{slice_get-map}
use Rattle.f77_tree.specs.declared.unit.Stmt.{Stmt}
use Rattle.f77_tree.specs.declared.unit.Unit.{Unit as SourceUnit}
use Rattle.f77_tree.specs.declared.unit.Value.{Value}
use Rattle.f77_names.specs.declared.facts.Facts.{Facts}
use Rattle.f77_values.specs.Constants.{with_statement}
use Rattle.f77_values.specs.Tables.{Told}
use Rattle.f77_names.specs.Roles.{facts}
use Rattle.fault_marks.specs.declared.marks.Mark.{Mark}
use Rattle.fault_marks.specs.Earliest.{first_of, Earliest}
use Rattle.fault_marks.specs.Places.{ShowsAt, Flagged}
use Rattle.fault_marks.proofs.Firsts.{mapped, either}
use Rattle.fault_marks.proofs.Deciding.{shows_same}
use Rattle.check_types.specs.declared.breaks.Rule.{Rule}
use Rattle.check_types.specs.declared.breaks.Rule.TheVariants.{Types, Subscripts, Scalars, Targets}
use Rattle.check_types.specs.Overreaching.{overreaches, overreaches_from}
use Rattle.check_types.specs.TypeFaults.{statement_breaks, BreaksAt, OverreachesAt, TypeFaults, wrong_type, wrong_subscripts, no_scalar, no_target, wrong_exponent}

-- ---- one rule

-- a condition that the flags tell
told : (statements : List Stmt) (flags : List Bool) (Holds : ℕ → Type 0) (number limit : ℕ) (a : Option Mark)
    → ((k : ℕ) → slice_get flags k ≡ Some true → Holds k) → ((k : ℕ) → Holds k → slice_get flags k ≡ Some true)
    → Earliest (Flagged statements flags number limit) a → Earliest (ShowsAt statements Holds number limit) a
told statements flags Holds number limit a to from =
    mapped (Flagged statements flags number limit) (ShowsAt statements Holds number limit) a
    (shows_same statements _ _ number limit (λ k s stands. to k))
    (shows_same statements _ _ number limit (λ k s stands. from k))

pub first_breaking : (f : Facts) (statements seen : List Stmt) (flags : List Bool) (rule : Rule) (number : ℕ) (a : Option Mark) → seen ≡ statements → flags ≡ map (statement_breaks f rule) statements
    → Earliest (Flagged seen flags number 0) a → Earliest (ShowsAt statements (BreaksAt f statements rule) number 0) a
first_breaking f statements seen flags rule number a is e h = told statements flags (BreaksAt f statements rule) number 0 a (λ k h. sym (same k) ∙ h) (λ k h. same k ∙ h) (subst (λ seen. Earliest (Flagged seen flags number 0) a) is h)
  where
    same : (k : ℕ) → slice_get flags k ≡ option_map (statement_breaks f rule) (slice_get statements k)
    same k = ap (λ flags. slice_get flags k) e ∙ slice_get-map (statement_breaks f rule) statements k

at_from : (f : Facts) (named : Told Value) (statements : List Stmt) (k : ℕ)
    → slice_get (overreaches_from f named statements) k ≡ option_map (overreaches f (fold with_statement named (take k statements))) (slice_get statements k)
at_from f named [] k = refl
at_from f named (s ∷ others) zero = refl
at_from f named (s ∷ others) (suc k) = at_from f (with_statement named s) others k

pub first_overreaching : (f : Facts) (statements seen : List Stmt) (flags : List Bool) (a : Option Mark) → seen ≡ statements → flags ≡ overreaches_from f [] statements
    → Earliest (Flagged seen flags 26 0) a → Earliest (ShowsAt statements (OverreachesAt f statements) 26 0) a
first_overreaching f statements seen flags a is e h = told statements flags (OverreachesAt f statements) 26 0 a (λ k h. sym (same k) ∙ h) (λ k h. same k ∙ h) (subst (λ seen. Earliest (Flagged seen flags 26 0) a) is h)
  where
    same : (k : ℕ) → slice_get flags k ≡ option_map (overreaches f (fold with_statement [] (take k statements))) (slice_get statements k)
    same k = ap (λ flags. slice_get flags k) e ∙ at_from f [] statements k

-- ---- all rules

abbrev Shows : SourceUnit → Rule → ℕ → Mark → Type 0
Shows u rule number = ShowsAt u.statements (BreaksAt (facts u) u.statements rule) number 0

abbrev Overreaches : SourceUnit → Mark → Type 0
Overreaches u = ShowsAt u.statements (OverreachesAt (facts u) u.statements) 26 0

abbrev Fourth : SourceUnit → Mark → Type 0
Fourth u m = Shows u Targets 25 m ⊎ Overreaches u m

abbrev Third : SourceUnit → Mark → Type 0
Third u m = Shows u Scalars 21 m ⊎ Fourth u m

abbrev Second : SourceUnit → Mark → Type 0
Second u m = Shows u Subscripts 20 m ⊎ Third u m

abbrev Any : SourceUnit → Mark → Type 0
Any u m = Shows u Types 19 m ⊎ Second u m

to : (u : SourceUnit) (m : Mark) → Any u m → TypeFaults u m
to u m (inl h) = wrong_type h
to u m (inr (inl h)) = wrong_subscripts h
to u m (inr (inr (inl h))) = no_scalar h
to u m (inr (inr (inr (inl h)))) = no_target h
to u m (inr (inr (inr (inr h)))) = wrong_exponent h

from : (u : SourceUnit) (m : Mark) → TypeFaults u m → Any u m
from u m (wrong_type h) = inl h
from u m (wrong_subscripts h) = inr (inl h)
from u m (no_scalar h) = inr (inr (inl h))
from u m (no_target h) = inr (inr (inr (inl h)))
from u m (wrong_exponent h) = inr (inr (inr (inr h)))

pub first_of_all : (u : SourceUnit) (a b c d e : Option Mark) → Earliest (Shows u Types 19) a → Earliest (Shows u Subscripts 20) b → Earliest (Shows u Scalars 21) c → Earliest (Shows u Targets 25) d → Earliest (Overreaches u) e
    → Earliest (TypeFaults u) (first_of a (first_of b (first_of c (first_of d e))))
first_of_all u a b c d e h i j k l =
    let four : Earliest (Fourth u) (first_of d e) = either (Shows u Targets 25) (Overreaches u) d e k l in
    let three : Earliest (Third u) (first_of c (first_of d e)) = either (Shows u Scalars 21) (Fourth u) c (first_of d e) j four in
    let two : Earliest (Second u) (first_of b (first_of c (first_of d e))) = either (Shows u Subscripts 20) (Third u) b (first_of c (first_of d e)) i three in
    mapped (Any u) (TypeFaults u) (first_of a (first_of b (first_of c (first_of d e)))) (to u) (from u)
    (either (Shows u Types 19) (Second u) a (first_of b (first_of c (first_of d e))) h two)

-- where the facts are those of the unit
pub all_found : (u : SourceUnit) (f : Facts) → f ≡ facts u → (a b c d e names others all : Option Mark)
    → Earliest (ShowsAt u.statements (BreaksAt f u.statements Types) 19 0) a → Earliest (ShowsAt u.statements (BreaksAt f u.statements Subscripts) 20 0) b
    → Earliest (ShowsAt u.statements (BreaksAt f u.statements Scalars) 21 0) c → Earliest (ShowsAt u.statements (BreaksAt f u.statements Targets) 25 0) d
    → Earliest (ShowsAt u.statements (OverreachesAt f u.statements) 26 0) e
    → names ≡ first_of c (first_of d e) → others ≡ first_of b names → all ≡ first_of a others → Earliest (TypeFaults u) all
all_found u f is a b c d e names others all h i j k l n o r =
    subst (Earliest (TypeFaults u)) (sym (r ∙ ap (first_of a) (o ∙ ap (first_of b) n)))
    (first_of_all u a b c d e
    (subst (λ f. Earliest (ShowsAt u.statements (BreaksAt f u.statements Types) 19 0) a) is h)
    (subst (λ f. Earliest (ShowsAt u.statements (BreaksAt f u.statements Subscripts) 20 0) b) is i)
    (subst (λ f. Earliest (ShowsAt u.statements (BreaksAt f u.statements Scalars) 21 0) c) is j)
    (subst (λ f. Earliest (ShowsAt u.statements (BreaksAt f u.statements Targets) 25 0) d) is k)
    (subst (λ f. Earliest (ShowsAt u.statements (OverreachesAt f u.statements) 26 0) e) is l))
