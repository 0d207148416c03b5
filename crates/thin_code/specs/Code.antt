-- The code of a thin program.
use Rattle.std.specs.Prelude.{◌≡◌, ℕ, ◌+◌, ◌*◌, List, [], ◌∷◌, ◌++◌, length, flat_map}
use Rattle.run_model.specs.Storage.{Name}
use Rattle.thin_form.specs.declared.statement.Term.{Term}
use Rattle.thin_form.specs.declared.statement.Term.TheVariants.{Variable, Integer}
use Rattle.thin_form.specs.declared.statement.Sign.{Sign}
use Rattle.thin_form.specs.declared.statement.Sign.TheVariants.{Plus, Minus}
use Rattle.thin_form.specs.declared.statement.Addend.{Addend}
use Rattle.thin_form.specs.declared.statement.Item.{Item}
use Rattle.thin_form.specs.declared.statement.Item.TheVariants.{Value, Text}
use Rattle.thin_form.specs.declared.statement.Statement.{Statement}
use Rattle.thin_form.specs.declared.statement.Statement.TheVariants.{Assign, Print, End}
use Rattle.rv_isa.specs.declared.inst.Inst.{Inst}
use Rattle.rv_isa.specs.declared.inst.RegOp.{RegOp}
use Rattle.rv_isa.specs.declared.inst.RegOp.TheVariants.{Add, Sub}
use Rattle.rv_isa.specs.Table.{InRange, encode_word}
use Rattle.rv_machine.specs.Machine.{bits_of}
use Rattle.rv_code.specs.Line.{constant}
use Rattle.rv_code.specs.Pieces.{load_code, save_code, operation_code, byte_code, show_code, line_code, halt_code, jump_code}
use Rattle.elf_file.specs.Numbers.{le}
use Rattle.elf_file.specs.Shape.{data_at, file_bytes}
use Rattle.thin_code.specs.Layout.{names_of, offset_of}

-- Where the code of a program finds its data: the variables, and the address of their area.
pub record Frame : Type 0 where
  pub names : List Name
  pub data_at : ℕ

abbrev pub address_of : Frame → Name → ℕ
address_of f name = f.data_at + 8 * offset_of f.names name

-- a term into a register
abbrev pub term_code : Frame → (d from : ℕ) → Term → List Inst
term_code f d from (Variable name) = load_code from (address_of f name) d
term_code f d from (Integer value) = constant d (bits_of value)

abbrev pub operation : Sign → RegOp
operation Plus = Add
operation Minus = Sub

-- a term onto the sum in register 5
abbrev pub addend_code : Frame → ℕ → Addend → List Inst
addend_code f from a = term_code f 7 from a.term ++ operation_code (operation a.sign) 5 5 7

abbrev pub addends_code : Frame → ℕ → List Addend → List Inst
addends_code f from [] = []
addends_code f from (a ∷ more) = addend_code f from a ++ addends_code f (from + 4 * length (addend_code f from a)) more

-- an item, with a blank before it
abbrev pub item_code : Frame → ℕ → Item → List Inst
item_code f from (Text bytes) = byte_code 32 ++ flat_map byte_code bytes
item_code f from (Value term) = byte_code 32 ++ (term_code f 10 (from + 12) term ++ show_code)

abbrev pub items_code : Frame → ℕ → List Item → List Inst
items_code f from [] = []
items_code f from (i ∷ items) = item_code f from i ++ items_code f (from + 4 * length (item_code f from i)) items

abbrev pub record_code : Frame → ℕ → List Item → List Inst
record_code f from [] = byte_code 32
record_code f from (i ∷ items) = items_code f from (i ∷ items)

abbrev pub sum_code : Frame → ℕ → Term → List Addend → List Inst
sum_code f from first more = term_code f 5 from first ++ addends_code f (from + 4 * length (term_code f 5 from first)) more

abbrev pub statement_code : Frame → ℕ → Statement → List Inst
statement_code f from (Assign target first more) =
    sum_code f from first more ++ save_code (from + 4 * length (sum_code f from first more)) (address_of f target) 5
statement_code f from (Print items) = record_code f from items ++ line_code
statement_code f from End = halt_code

abbrev pub body_code : Frame → ℕ → List Statement → List Inst
body_code f from [] = []
body_code f from (s ∷ body) = statement_code f from s ++ body_code f (from + 4 * length (statement_code f from s)) body

-- A call pair to the main program stands first, and the main program behind it.
abbrev pub program_code : Frame → List Statement → List Inst
program_code f body = jump_code 65536 65544 ++ body_code f 65544 body

-- words as bytes, the lowest first
abbrev pub bytes_of : List Inst → List ℕ
bytes_of code = flat_map (λ i. le 4 (encode_word i)) code

-- each has a word
abbrev pub InRanges : List Inst → Type 0
InRanges [] = Unit {0}
InRanges (i ∷ is) = InRange i × InRanges is

-- The new bytes are the old ones, and then code that was written for where it stands.
pub record Emits (old new : List ℕ) (code : ℕ → List Inst) : Type 0 where
  pub bytes : new ≡ old ++ bytes_of (code (65536 + length old))

-- the frame of a program: how long its code is doesn't depend on where the data are
abbrev pub frame_of : List Statement → Frame
frame_of body = record { names = names_of body; data_at = data_at (4 * length (program_code (record { names = names_of body; data_at = 0 }) body)) }

unfoldable pub file_of : List Statement → List ℕ
file_of body = file_bytes (bytes_of (program_code (frame_of body) body)) [] (8 * length (names_of body))
