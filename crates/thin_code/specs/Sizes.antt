-- The two numbers that a program's text fixes for its executable.
use Rattle.std.specs.Prelude.{ℕ, ◌+◌, ◌*◌, List, length, sum_by}
use Rattle.thin_form.specs.declared.statement.Item.{Item}
use Rattle.thin_form.specs.declared.statement.Item.TheVariants.{Value, Text}
use Rattle.thin_form.specs.declared.statement.Statement.{Statement}
use Rattle.thin_form.specs.declared.statement.Statement.TheVariants.{Assign, Print, End}

-- A literal weighs one more than the bytes that it prints, every other item one.
abbrev pub item_weight : Item → ℕ
item_weight (Value term) = 1
item_weight (Text bytes) = 1 + length bytes

-- The weight of a statement counts it, and the names, integers, literals and operators in it.
abbrev pub weight_of : Statement → ℕ
weight_of (Assign target first more) = 3 + 2 * length more
weight_of (Print items) = 1 + sum_by item_weight items
weight_of End = 1

-- one more than the executable statements
abbrev pub steps_each : List Statement → ℕ
steps_each body = 1 + length body

-- 2, and 256 for each unit of weight of the one procedure and 1,024 besides
abbrev pub words_each : List Statement → ℕ
words_each body = 2 + (256 * sum_by weight_of body + 1024)
