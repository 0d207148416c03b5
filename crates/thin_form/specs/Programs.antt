-- Thin programs as lists of statements.
use Rattle.std.specs.Prelude.{◌≡◌, ◌^◌, ℕ, ◌+◌, ◌*◌, ◌≤◌, ◌<◌, ⊤, pos, List, [], ◌∷◌, ◌++◌, length, sum_by}
use Rattle.std.specs.List.{All}
use Rattle.thin_form.specs.declared.statement.Term.{Term}
use Rattle.thin_form.specs.declared.statement.Term.TheVariants.{Variable, Integer}
use Rattle.thin_form.specs.declared.statement.Item.{Item}
use Rattle.thin_form.specs.declared.statement.Item.TheVariants.{Value, Text}
use Rattle.thin_form.specs.declared.statement.Statement.{Statement}
use Rattle.thin_form.specs.declared.statement.Statement.TheVariants.{Assign, Print, End}

-- The tokens of a statement's text: names, integers, literals, and the signs `=`, `+`, `-`, `*` and `,`.
abbrev pub tokens_of : Statement → ℕ
tokens_of (Assign target first more) = 3 + 2 * length more
tokens_of (Print items) = 2 + 2 * length items
tokens_of End = 1

-- A number of bytes that each spelling of a part has at least.
abbrev pub term_size : Term → ℕ
term_size (Variable name) = length name
term_size (Integer value) = 1

abbrev pub item_size : Item → ℕ
item_size (Value term) = term_size term
item_size (Text bytes) = 2 + length bytes

abbrev pub size_of : Statement → ℕ
size_of (Assign target first more) = length target + (1 + term_size first) + sum_by (λ a. 1 + term_size a.term) more
size_of (Print items) = 6 + sum_by (λ i. 1 + item_size i) items
size_of End = 1

-- A name has a character at least, and an integer has no sign.
abbrev pub IsTerm : Term → Type 0
IsTerm (Variable name) = 0 < length name
IsTerm (Integer value) = (n : ℕ) × ((n < 2 ^ 63) × (value ≡ pos n))

abbrev pub IsItem : Item → Type 0
IsItem (Value term) = IsTerm term
IsItem (Text bytes) = All (λ b. b < 256) bytes

-- a statement that isn't END, of parts as the text has them
abbrev pub IsPlain : Statement → Type 0
IsPlain (Assign target first more) = (0 < length target) × (IsTerm first × All (λ a. IsTerm a.term) more)
IsPlain (Print items) = All IsItem items
IsPlain End = ⊥

-- the same, or END
abbrev pub IsPlainOrEnd : Statement → Type 0
IsPlainOrEnd (Assign target first more) = IsPlain (Assign target first more)
IsPlainOrEnd (Print items) = IsPlain (Print items)
IsPlainOrEnd End = ⊤

-- A program is statements with END as the last and nowhere before.
pub record IsProgram (body : List Statement) : Type 0 where
  pub front : List Statement
  pub ends : body ≡ front ++ End ∷ []
  pub plain : All IsPlain front

-- it can stand on twenty lines, in columns 7 to 72
abbrev pub IsShort : Statement → Type 0
IsShort statement = size_of statement ≤ 1320

-- A program has at most 20,000 statements, and each an initial line with at most 19 continuation lines.
pub record IsSmall (body : List Statement) : Type 0 where
  pub few : length body ≤ 20000
  pub short : All IsShort body
