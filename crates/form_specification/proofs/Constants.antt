-- The constants of PARAMETER are read in one way.
use Rattle.std.proofs.Common.{◌≡◌, ℕ, ◌<◌, false, List, [], length, ap, subst, arith}
use Rattle.f77_expr.specs.declared.token.Kind.TheVariants as k
use Rattle.f77_expr.specs.Kinds.{Tokens, IsNext}
use Rattle.form_parts.specs.Only.{NotNext, NoPart, OnlyFront, NoFront, Sole, Never}
use Rattle.form_parts.specs.Parts.{IsName}
use Rattle.form_specification.specs.Specifications.{IsConstant}
use Rattle.form_parts.proofs.NextToken.{nil_of}

pub no_equals : {ts rest : Tokens} {name : List ℕ} → OnlyFront IsName ts name rest → NotNext rest k.Equals → NoPart IsConstant false ts
no_equals n lacks = record { not = λ y z c f. let same = n.only y.0 c.rest c.name in lacks.not c.after (subst (λ w. IsNext w k.Equals c.after) same.1 c.equals) }

-- ---- a part that is all of the tokens

pub sole_front : {A : Type 0} {Part : Tokens → A → Tokens → Type 0} {ts rest : Tokens} {x : A} → OnlyFront Part ts x rest → length rest ≡ 0 → Sole (λ ts x. Part ts x []) ts x
sole_front {Part = Part} {ts = ts} {x = x} o empty = record {
  is = subst (λ w. Part ts x w) (nil_of _ empty) o.part;
  only = λ y p. (o.only y [] p).0;
}

pub never_front : {A : Type 0} {Part : Tokens → A → Tokens → Type 0} {ts : Tokens} → NoFront Part ts → Never (λ ts x. Part ts x []) ts
never_front o = record { not = λ y p. o.not y [] p }

pub more_than_front : {A : Type 0} {Part : Tokens → A → Tokens → Type 0} {ts rest : Tokens} {x : A} → OnlyFront Part ts x rest → 0 < length rest → Never (λ ts x. Part ts x []) ts
more_than_front o some = record { not = λ y p. let end = (o.only y [] p).1 in omega (arith, ap length end, some) }
