-- What the code of a statement makes of the memory, and what it prints.
use Rattle.std.proofs.Common.{ℕ, ◌+◌, ◌-◌, ◌%◌, ◌^◌, ◌<◌, List, [], ◌∷◌, ◌++◌, length}
use Rattle.std.specs.List.{All}
use Rattle.std.specs.Fmt.{signed_decimal}
use Rattle.run_model.specs.Storage.{Name}
use Rattle.thin_form.specs.declared.statement.Term.{Term}
use Rattle.thin_form.specs.declared.statement.Term.TheVariants.{Variable, Integer}
use Rattle.thin_form.specs.declared.statement.Sign.{Sign}
use Rattle.thin_form.specs.declared.statement.Sign.TheVariants.{Plus, Minus}
use Rattle.thin_form.specs.declared.statement.Addend.{Addend}
use Rattle.thin_form.specs.declared.statement.Item.{Item}
use Rattle.thin_form.specs.declared.statement.Item.TheVariants.{Value, Text}
use Rattle.thin_form.specs.declared.statement.Statement.{Statement}
use Rattle.thin_form.specs.declared.statement.Statement.TheVariants.{Assign, Print, End}
use Rattle.thin_form.specs.Programs.{IsTerm}
use Rattle.rv_machine.specs.Memory.{Memory, read, write}
use Rattle.rv_machine.specs.Machine.{bits_of, number_of, plus}
use Rattle.thin_code.specs.Layout.{offset_of}
use Rattle.thin_code.specs.Code.{Frame, address_of}

abbrev pub word_of : Frame → Memory → Term → ℕ
word_of f m (Variable name) = read 8 m (address_of f name)
word_of f m (Integer value) = bits_of value

abbrev pub joined_words : Sign → ℕ → ℕ → ℕ
joined_words Plus x y = plus x y
joined_words Minus x y = (x + (2 ^ 64 - y)) % 2 ^ 64

abbrev pub sum_of : Frame → Memory → ℕ → List Addend → ℕ
sum_of f m x [] = x
sum_of f m x (a ∷ more) = sum_of f m (joined_words a.sign x (word_of f m a.term)) more

abbrev pub memory_after : Frame → Memory → Statement → Memory
memory_after f m (Assign target first more) = write 8 (address_of f target) (sum_of f m (word_of f m first) more) m
memory_after f m (Print items) = m
memory_after f m End = m

abbrev pub item_text : Frame → Memory → Item → List ℕ
item_text f m (Text bytes) = 32 ∷ bytes
item_text f m (Value term) = 32 ∷ signed_decimal (number_of (word_of f m term))

abbrev pub items_text : Frame → Memory → List Item → List ℕ
items_text f m [] = []
items_text f m (i ∷ items) = item_text f m i ++ items_text f m items

abbrev pub record_text : Frame → Memory → List Item → List ℕ
record_text f m [] = 32 ∷ []
record_text f m (i ∷ items) = items_text f m (i ∷ items)

abbrev pub statement_text : Frame → Memory → Statement → List ℕ
statement_text f m (Assign target first more) = []
statement_text f m (Print items) = record_text f m items ++ 10 ∷ []
statement_text f m End = []

-- ---- statements whose names have their units, and whose integers and bytes are in range

abbrev pub IsPlaced : Frame → Name → Type 0
IsPlaced f name = offset_of f.names name < length f.names

abbrev pub IsSoundTerm : Frame → Term → Type 0
IsSoundTerm f (Variable name) = IsPlaced f name
IsSoundTerm f (Integer value) = IsTerm (Integer value)

abbrev pub IsSoundItem : Frame → Item → Type 0
IsSoundItem f (Value term) = IsSoundTerm f term
IsSoundItem f (Text bytes) = All (λ b. b < 256) bytes

pub record IsSoundSum (f : Frame) (target : Name) (first : Term) (more : List Addend) : Type 0 where
  pub placed : IsPlaced f target
  pub begins : IsSoundTerm f first
  pub goes_on : All (λ a. IsSoundTerm f a.term) more

abbrev pub IsSound : Frame → Statement → Type 0
IsSound f (Assign target first more) = IsSoundSum f target first more
IsSound f (Print items) = All (IsSoundItem f) items
IsSound f End = Unit {0}
