-- Entries one after another are unique where each is.
use Rattle.std.proofs.Common.{◌≡◌, ◌<◌, List, [], ◌∷◌, length, ap, sym, ◌∙◌, subst, refl, arith}
use Rattle.f77_expr.specs.Kinds.{Tokens}
use Rattle.form_parts.proofs.NextToken.{nil_of}
use Rattle.form_parts.specs.Listed.{Chained, none, some, behind_comma, Sequence}
use Rattle.form_parts.specs.Only.{Resumes, ended, resumed, OnlyEntry, NoEntry, OnlyChained, Sole, Never}

pub resumes : {A : Type 0} {Part : Tokens → A → Tokens → Type 0} {ts : Tokens} {all : List A} → Chained Part ts all → Resumes Part ts
resumes (none is empty) = ended is
resumes (some {s = s} {x = x} filled part rest is) = resumed x s filled part

only_none : {A : Type 0} {Part : Tokens → A → Tokens → Type 0} {ts : Tokens} {all : List A} → length ts ≡ 0 → Chained Part ts all → all ≡ []
only_none empty (none is nothing) = nothing
only_none empty (some filled part rest is) = absurd (omega (arith, empty, filled))

pub sole_none : {A : Type 0} {Part : Tokens → A → Tokens → Type 0} {ts : Tokens} → length ts ≡ 0 → Sole (Chained Part) ts []
sole_none empty = record { is = none (nil_of _ empty) refl; only = λ all c. only_none empty c }

only_some : {A : Type 0} {Part : Tokens → A → Tokens → Type 0} {ts s : Tokens} {x : A} {others all : List A} → 0 < length ts → OnlyEntry Part Part (behind_comma ts) x s → Sole (Chained Part) s others → Chained Part ts all → all ≡ x ∷ others
only_some filled entry rest (none is nothing) = absurd (omega (arith, filled, ap length is))
only_some {Part = Part} {x = x} filled entry rest (some {s = z} {x = y} {others = more} filled' part c is) =
    let same = entry.only y z part (resumes c) in
    is ∙ (ap (λ y. y ∷ more) same.0 ∙ ap (λ all. x ∷ all) (rest.only more (subst (λ w. Chained Part w more) same.1 c)))

pub sole_some : {A : Type 0} {Part : Tokens → A → Tokens → Type 0} {ts s : Tokens} {x : A} {others : List A} → 0 < length ts → OnlyEntry Part Part (behind_comma ts) x s → Sole (Chained Part) s others → Sole (Chained Part) ts (x ∷ others)
sole_some filled entry rest = record { is = some filled entry.part rest.is refl; only = λ all c. only_some filled entry rest c }

never_more : {A : Type 0} {Part : Tokens → A → Tokens → Type 0} {ts s : Tokens} {x : A} {all : List A} → 0 < length ts → OnlyEntry Part Part (behind_comma ts) x s → Never (Chained Part) s → Chained Part ts all → ⊥
never_more filled entry rest (none is nothing) = omega (arith, filled, ap length is)
never_more {Part = Part} filled entry rest (some {s = z} {x = y} {others = more} filled' part c is) =
    let same = entry.only y z part (resumes c) in
    rest.not more (subst (λ w. Chained Part w more) same.1 c)

pub never_some : {A : Type 0} {Part : Tokens → A → Tokens → Type 0} {ts s : Tokens} {x : A} → 0 < length ts → OnlyEntry Part Part (behind_comma ts) x s → Never (Chained Part) s → Never (Chained Part) ts
never_some filled entry rest = record { not = λ all c. never_more filled entry rest c }

never_entry : {A : Type 0} {Part : Tokens → A → Tokens → Type 0} {ts : Tokens} {all : List A} → 0 < length ts → NoEntry Part Part (behind_comma ts) → Chained Part ts all → ⊥
never_entry filled entry (none is nothing) = omega (arith, filled, ap length is)
never_entry filled entry (some {s = z} {x = y} filled' part c is) = entry.not y z part (resumes c)

pub never_begins : {A : Type 0} {Part : Tokens → A → Tokens → Type 0} {ts : Tokens} → 0 < length ts → NoEntry Part Part (behind_comma ts) → Never (Chained Part) ts
never_begins filled entry = record { not = λ all c. never_entry filled entry c }

-- ---- a first entry and others

only_sequence : {A : Type 0} {First Part : Tokens → A → Tokens → Type 0} {ts rest : Tokens} {x : A} {all others : List A} → OnlyEntry First Part ts x rest → OnlyChained Part x rest all → Sequence First Part ts others → others ≡ all
only_sequence {Part = Part} {x = x} entry rest q =
    let same = entry.only q.x q.rest q.first (resumes q.chained) in
    let more = rest.only q.others (subst (λ w. Chained Part w q.others) same.1 q.chained) in
    q.is ∙ (ap (λ y. y ∷ q.others) same.0 ∙ (ap (λ all. x ∷ all) more ∙ sym rest.is))

pub sole_sequence : {A : Type 0} {First Part : Tokens → A → Tokens → Type 0} {ts rest : Tokens} {x : A} {all : List A} → OnlyEntry First Part ts x rest → OnlyChained Part x rest all → Sole (Sequence First Part) ts all
sole_sequence {rest = rest} {x = x} entry chain = record {
  is = record { x = x; rest = rest; others = chain.others; first = entry.part; chained = chain.chained; is = chain.is };
  only = λ others q. only_sequence entry chain q;
}

pub never_first : {A : Type 0} {First Part : Tokens → A → Tokens → Type 0} {ts : Tokens} → NoEntry First Part ts → Never (Sequence First Part) ts
never_first entry = record { not = λ all q. entry.not q.x q.rest q.first (resumes q.chained) }

pub never_others : {A : Type 0} {First Part : Tokens → A → Tokens → Type 0} {ts rest : Tokens} {x : A} → OnlyEntry First Part ts x rest → Never (Chained Part) rest → Never (Sequence First Part) ts
never_others {Part = Part} entry rest = record { not = λ all q. let same = entry.only q.x q.rest q.first (resumes q.chained) in rest.not q.others (subst (λ w. Chained Part w q.others) same.1 q.chained) }
