-- Results behind others.
use Rattle.std.specs.Prelude.{List, ◌∷◌, ◌++◌}
use Rattle.run_model.specs.Acts.{Act, Done, and_then}

-- one, and then the others
abbrev pub before : {A : Type 0} → Act A → Act (List A) → Act (List A)
before first others = and_then first (λ x. and_then others (λ xs. Done (x ∷ xs)))

-- behind these
abbrev pub behind : {A : Type 0} → List A → Act (List A) → Act (List A)
behind all others = and_then others (λ xs. Done (all ++ xs))
