-- A part that ends at one place alone is one of a list.
use Rattle.std.proofs.Common.{◌≡◌, Bool}
use Rattle.f77_expr.specs.Kinds.{Tokens}
use Rattle.form_parts.specs.Only.{OnlyPart, NoPart, OnlyFront, NoFront}

pub part_of_front : {A : Type 0} {Part : Tokens → A → Tokens → Type 0} {slash : Bool} {ts s : Tokens} {x : A} → OnlyFront Part ts x s → OnlyPart Part slash ts x s
part_of_front o = record { part = o.part; shorter = o.shorter; only = λ y z p f. o.only y z p }

pub no_part_of_front : {A : Type 0} {Part : Tokens → A → Tokens → Type 0} {slash : Bool} {ts : Tokens} → NoFront Part ts → NoPart Part slash ts
no_part_of_front lacks = record { not = λ y z p f. lacks.not y z p }
