-- Nothing is of a kind.
pub record Lacks {A : Type 0} (P : A → Type 0) : Type 0 where
  pub not : (a : A) → P a → ⊥
