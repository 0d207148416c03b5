-- Every instruction of a program's code has a word.
use Rattle.std.proofs.Common.{ℕ, suc, ◌+◌, ◌*◌, ◌/◌, ◌%◌, ◌^◌, ◌<◌, List, [], ◌∷◌, ◌++◌, length, arith, lit<}
use Rattle.std.specs.Prelude.{flat_map}
use Rattle.std.specs.List.{All}
use Rattle.rv_isa.specs.declared.inst.Inst.{Inst}
use Rattle.rv_isa.specs.Layout.{InSigned}
use Rattle.rv_isa.proofs.Layouts.{reads}
use Rattle.thin_form.specs.declared.statement.Term.{Term}
use Rattle.thin_form.specs.declared.statement.Term.TheVariants.{Variable, Integer}
use Rattle.thin_form.specs.declared.statement.Sign.{Sign}
use Rattle.thin_form.specs.declared.statement.Addend.{Addend}
use Rattle.thin_form.specs.declared.statement.Item.{Item}
use Rattle.thin_form.specs.declared.statement.Item.TheVariants.{Value, Text}
use Rattle.thin_form.specs.declared.statement.Statement.{Statement}
use Rattle.thin_form.specs.declared.statement.Statement.TheVariants.{Assign, Print, End}
use Rattle.rv_machine.specs.Machine.{bits_of}
use Rattle.rv_code.specs.Line.{upper, lower, distance, constant}
use Rattle.rv_code.specs.Pieces.{load_code, save_code, operation_code, byte_code, show_code, line_code, halt_code, jump_code}
use Rattle.thin_code.specs.Code.{InRanges, Frame, address_of, term_code, operation, addend_code, addends_code, item_code, items_code, record_code, sum_code, statement_code, body_code, program_code}
use Rattle.thin_code.proofs.Effects.{IsSoundItem, IsSound}

both : (is js : List Inst) → InRanges is → InRanges js → InRanges (is ++ js)
both [] js a b = b
both (i ∷ is) js a b = (a.0, both is js a.1 b)

upper_fits : (h : ℕ) → InSigned (2 ^ 19) (upper h)
upper_fits h = (reads (2 ^ 19) ((h + 2048) / 4096 % 2 ^ 20) (omega arith)).range

lower_fits : (h : ℕ) → InSigned 2048 (lower h)
lower_fits h = (reads 2048 (h % 4096) (omega arith)).range

pub constant_fits : (d c : ℕ) → d < 32 → InRanges (constant d c)
constant_fits d c h =
    let a : c / 2 ^ 21 % 2 ^ 11 < 2048 = omega arith in
    let b : c / 2 ^ 10 % 2 ^ 11 < 2048 = omega arith in
    let e : c % 2 ^ 10 < 2048 = omega arith in
    ((h, upper_fits (c / 2 ^ 32)), ((h, h, lower_fits (c / 2 ^ 32)), ((h, h, lit< tt), ((h, h, a), ((h, h, lit< tt), ((h, h, b), ((h, h, lit< tt), ((h, h, e), tt))))))))

pub load_fits : (from to d : ℕ) → d < 32 → InRanges (load_code from to d)
load_fits from to d h = ((h, upper_fits (distance from to)), ((h, h, lower_fits (distance from to)), ((h, h, lit< tt), tt)))

pub save_fits : (from to : ℕ) → InRanges (save_code from to 5)
save_fits from to = ((lit< tt, upper_fits (distance from to)), ((lit< tt, lit< tt, lower_fits (distance from to)), ((lit< tt, lit< tt, lit< tt), tt)))

pub jump_fits : (from to : ℕ) → InRanges (jump_code from to)
jump_fits from to = ((lit< tt, upper_fits (distance from to)), ((lit< tt, lit< tt, lower_fits (distance from to)), tt))

pub show_fits : InRanges show_code
show_fits = ((lit< tt, lit< tt, lit< tt), (tt, tt))

pub line_fits : InRanges line_code
line_fits = ((lit< tt, lit< tt, lit< tt), (tt, tt))

pub halt_fits : InRanges halt_code
halt_fits = ((lit< tt, lit< tt, lit< tt), ((lit< tt, lit< tt, lit< tt), (tt, tt)))

pub byte_fits : (b : ℕ) → b < 256 → InRanges (byte_code b)
byte_fits b h = let k : b < 2048 = omega (arith, h) in ((lit< tt, lit< tt, k), ((lit< tt, lit< tt, lit< tt), (tt, tt)))

term_fits : (f : Frame) (d p : ℕ) (t : Term) → d < 32 → InRanges (term_code f d p t)
term_fits f d p (Variable name) h = load_fits p (address_of f name) d h
term_fits f d p (Integer value) h = constant_fits d (bits_of value) h

pub operation_fits : (sign : Sign) → InRanges (operation_code (operation sign) 5 5 7)
operation_fits sign = ((lit< tt, lit< tt, lit< tt), tt)

addends_fit : (f : Frame) (p : ℕ) (more : List Addend) → InRanges (addends_code f p more)
addends_fit f p [] = tt
addends_fit f p (a ∷ more) =
    both (addend_code f p a) _ (both (term_code f 7 p a.term) _ (term_fits f 7 p a.term (lit< tt)) (operation_fits a.sign)) (addends_fit f (p + 4 * length (addend_code f p a)) more)

bytes_fit : (bytes : List ℕ) → All (λ b. b < 256) bytes → InRanges (flat_map byte_code bytes)
bytes_fit [] h = tt
bytes_fit (b ∷ bytes) h = both (byte_code b) _ (byte_fits b (h 0 b (omega arith))) (bytes_fit bytes (λ k d l. h (suc k) d (omega arith)))

item_fits : (f : Frame) (p : ℕ) (i : Item) → IsSoundItem f i → InRanges (item_code f p i)
item_fits f p (Text bytes) h = both (byte_code 32) _ (byte_fits 32 (lit< tt)) (bytes_fit bytes h)
item_fits f p (Value term) h = both (byte_code 32) _ (byte_fits 32 (lit< tt)) (both (term_code f 10 (p + 12) term) _ (term_fits f 10 (p + 12) term (lit< tt)) show_fits)

items_fit : (f : Frame) (p : ℕ) (items : List Item) → All (IsSoundItem f) items → InRanges (items_code f p items)
items_fit f p [] h = tt
items_fit f p (i ∷ items) h = both (item_code f p i) _ (item_fits f p i (h 0 i (omega arith))) (items_fit f (p + 4 * length (item_code f p i)) items (λ k d l. h (suc k) d (omega arith)))

record_fits : (f : Frame) (p : ℕ) (items : List Item) → All (IsSoundItem f) items → InRanges (record_code f p items)
record_fits f p [] h = byte_fits 32 (lit< tt)
record_fits f p (i ∷ items) h = items_fit f p (i ∷ items) h

statement_fits : (f : Frame) (p : ℕ) (x : Statement) → IsSound f x → InRanges (statement_code f p x)
statement_fits f p (Assign target first more) h =
    both (sum_code f p first more) _ (both (term_code f 5 p first) _ (term_fits f 5 p first (lit< tt)) (addends_fit f (p + 4 * length (term_code f 5 p first)) more)) (save_fits (p + 4 * length (sum_code f p first more)) (address_of f target))
statement_fits f p (Print items) h = both (record_code f p items) _ (record_fits f p items h) line_fits
statement_fits f p End h = halt_fits

body_fits : (f : Frame) (p : ℕ) (xs : List Statement) → All (IsSound f) xs → InRanges (body_code f p xs)
body_fits f p [] h = tt
body_fits f p (x ∷ xs) h = both (statement_code f p x) _ (statement_fits f p x (h 0 x (omega arith))) (body_fits f (p + 4 * length (statement_code f p x)) xs (λ k d l. h (suc k) d (omega arith)))

pub program_fits : (f : Frame) (xs : List Statement) → All (IsSound f) xs → InRanges (program_code f xs)
program_fits f xs h = both (jump_code 65536 65544) _ (jump_fits 65536 65544) (body_fits f 65544 xs h)
