-- What is told of a run, and how a run with more steps goes on.
use Rattle.std.specs.Prelude.{◌≡◌, ℕ, ◌-◌, List, [], ◌++◌, ◌⊎◌}
use Rattle.run_model.specs.Acts.{Spent, Ended, Undefined, Stuck, Outcome, Fine, Stop}

-- A run that was stopped before a further step began, one that ended, one that met an undefined action in this step, or none.
pub data Run : Type 0 where
  Going : (out : List ℕ) → Run
  Finished : (status : ℕ) → (out : List ℕ) → Run
  UndefinedAt : (step cause : ℕ) → (out : List ℕ) → Run
  Wrong : Run

-- what n steps came to
abbrev pub answer : {A : Type 0} → ℕ → Outcome A → Run
answer n (Fine r w) = Wrong
answer n (Stop Spent w) = Going w.out
answer n (Stop (Ended k) w) = Finished k w.out
answer n (Stop (Undefined c) w) = UndefinedAt (n - w.left) c w.out
answer n (Stop Stuck w) = Wrong

abbrev pub text_of : Run → List ℕ
text_of (Going o) = o
text_of (Finished k o) = o
text_of (UndefinedAt s c o) = o
text_of Wrong = []

pub record Begins (out longer : List ℕ) : Type 0 where
  pub more : List ℕ
  pub whole : longer ≡ out ++ more

-- what a run says at more steps
abbrev pub RunExtends : Run → Run → Type 0
RunExtends (Going o) r = (r ≡ Wrong) ⊎ Begins o (text_of r)
RunExtends (Finished k o) r = r ≡ Finished k o
RunExtends (UndefinedAt s c o) r = r ≡ UndefinedAt s c o
RunExtends Wrong r = r ≡ Wrong
