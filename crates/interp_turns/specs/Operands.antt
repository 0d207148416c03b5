-- The operands that the ends of statements take.
use Rattle.std.specs.Prelude.{[], ◌∷◌, ℤ, Bool}
use Rattle.run_model.specs.Storage.{Loc}
use Rattle.run_model.specs.Acts.{Act, Done, Fail, Stuck, and_then}
use Rattle.f77_tree.specs.declared.unit.Value.{Value}
use Rattle.f77_semantics.specs.Statements.{as_number, as_truth}
use Rattle.interp_code.specs.Steps.{Operands, with_some, item_on, place_on}

abbrev pub nothing : Operands → Act (Unit {0})
nothing [] = Done tt
nothing (o ∷ os) = Fail Stuck

-- a value over a location
abbrev pub assigned : Operands → Act (Value × Loc)
assigned os = with_some (item_on os) (λ p. with_some (place_on p.1) (λ q. and_then (nothing q.1) (λ _. Done (p.0, q.0))))

abbrev pub truth : Operands → Act Bool
truth os = with_some (item_on os) (λ p. and_then (nothing p.1) (λ _. as_truth p.0))

abbrev pub number : Operands → Act ℤ
number os = with_some (item_on os) (λ p. and_then (nothing p.1) (λ _. as_number p.0))

-- the number on top, and what stands below
abbrev pub number_on : Operands → Act (ℤ × Operands)
number_on os = with_some (item_on os) (λ p. and_then (as_number p.0) (λ n. Done (n, p.1)))

-- the first of three numbers stands lowest
abbrev pub three : Operands → Act (ℤ × ℤ × ℤ)
three os = and_then (number_on os) (λ p. and_then (number_on p.1) (λ q. and_then (number_on q.1) (λ r. and_then (nothing r.1) (λ _. Done (r.0, q.0, p.0)))))
