-- How many words the code of a program has.
use Rattle.std.proofs.Common.{◌≡◌, ℕ, ◌+◌, ◌*◌, ◌≤◌, List, [], ◌∷◌, ◌++◌, length, refl, ap, ◌∙◌, arith, length-append}
use Rattle.std.specs.Prelude.{sum_by, flat_map}
use Rattle.std.proofs.lemmas.List.Sums.{sum_by-cons}
use Rattle.thin_form.specs.declared.statement.Term.{Term}
use Rattle.thin_form.specs.declared.statement.Term.TheVariants.{Variable, Integer}
use Rattle.thin_form.specs.declared.statement.Addend.{Addend}
use Rattle.thin_form.specs.declared.statement.Item.{Item}
use Rattle.thin_form.specs.declared.statement.Item.TheVariants.{Value, Text}
use Rattle.thin_form.specs.declared.statement.Statement.{Statement}
use Rattle.thin_form.specs.declared.statement.Statement.TheVariants.{Assign, Print, End}
use Rattle.thin_form.specs.Programs.{tokens_of, term_size, item_size, size_of}
use Rattle.rv_code.specs.Pieces.{byte_code, show_code, line_code, operation_code}
use Rattle.thin_code.specs.Sizes.{item_weight, weight_of}
use Rattle.thin_code.specs.Code.{Frame, term_code, operation, addend_code, addends_code, item_code, items_code, record_code, sum_code, statement_code, body_code}

abbrev pub term_words : Term → ℕ
term_words (Variable name) = 3
term_words (Integer value) = 8

abbrev pub addends_words : List Addend → ℕ
addends_words [] = 0
addends_words (a ∷ more) = (term_words a.term + 1) + addends_words more

abbrev pub item_words : Item → ℕ
item_words (Text bytes) = 3 + 3 * length bytes
item_words (Value term) = 3 + (term_words term + 2)

abbrev pub items_words : List Item → ℕ
items_words [] = 0
items_words (i ∷ items) = item_words i + items_words items

abbrev pub record_words : List Item → ℕ
record_words [] = 3
record_words (i ∷ items) = items_words (i ∷ items)

abbrev pub statement_words : Statement → ℕ
statement_words (Assign target first more) = (term_words first + addends_words more) + 3
statement_words (Print items) = record_words items + 2
statement_words End = 3

abbrev pub body_words : List Statement → ℕ
body_words [] = 0
body_words (x ∷ xs) = statement_words x + body_words xs

-- ---- these are the lengths of the code

length-term : (f : Frame) (d p : ℕ) (t : Term) → length (term_code f d p t) ≡ term_words t
length-term f d p (Variable name) = refl
length-term f d p (Integer value) = refl

length-addends : (f : Frame) (p : ℕ) (more : List Addend) → length (addends_code f p more) ≡ addends_words more
length-addends f p [] = refl
length-addends f p (a ∷ more) =
    let A = addend_code f p a in
    let one : length A ≡ term_words a.term + 1 = length-append (term_code f 7 p a.term) (operation_code (operation a.sign) 5 5 7) ∙ ap (λ n. n + 1) (length-term f 7 p a.term) in
    length-append A (addends_code f (p + 4 * length A) more) ∙ (λ i. one i + length-addends f (p + 4 * length A) more i)

length-bytes : (bytes : List ℕ) → length (flat_map byte_code bytes) ≡ 3 * length bytes
length-bytes [] = refl
length-bytes (b ∷ bytes) = length-append (byte_code b) (flat_map byte_code bytes) ∙ omega (arith, length-bytes bytes)

length-item : (f : Frame) (p : ℕ) (i : Item) → length (item_code f p i) ≡ item_words i
length-item f p (Text bytes) = length-append (byte_code 32) (flat_map byte_code bytes) ∙ ap (λ n. 3 + n) (length-bytes bytes)
length-item f p (Value term) =
    let T = term_code f 10 (p + 12) term in
    length-append (byte_code 32) (T ++ show_code) ∙ ap (λ n. 3 + n) (length-append T show_code ∙ ap (λ n. n + 2) (length-term f 10 (p + 12) term))

length-items : (f : Frame) (p : ℕ) (items : List Item) → length (items_code f p items) ≡ items_words items
length-items f p [] = refl
length-items f p (i ∷ items) =
    let A = item_code f p i in
    length-append A (items_code f (p + 4 * length A) items) ∙ (λ j. length-item f p i j + length-items f (p + 4 * length A) items j)

length-record : (f : Frame) (p : ℕ) (items : List Item) → length (record_code f p items) ≡ record_words items
length-record f p [] = refl
length-record f p (i ∷ items) = length-items f p (i ∷ items)

pub length-statement : (f : Frame) (p : ℕ) (x : Statement) → length (statement_code f p x) ≡ statement_words x
length-statement f p (Assign target first more) =
    let T = term_code f 5 p first in
    let S = sum_code f p first more in
    let s : length S ≡ term_words first + addends_words more = length-append T (addends_code f (p + 4 * length T) more) ∙ (λ i. length-term f 5 p first i + length-addends f (p + 4 * length T) more i) in
    length-append S _ ∙ ap (λ n. n + 3) s
length-statement f p (Print items) = length-append (record_code f p items) line_code ∙ ap (λ n. n + 2) (length-record f p items)
length-statement f p End = refl

pub length-body : (f : Frame) (p : ℕ) (xs : List Statement) → length (body_code f p xs) ≡ body_words xs
length-body f p [] = refl
length-body f p (x ∷ xs) =
    let A = statement_code f p x in
    length-append A (body_code f (p + 4 * length A) xs) ∙ (λ i. length-statement f p x i + length-body f (p + 4 * length A) xs i)

-- ---- and these are their bounds

term_few : (t : Term) → term_words t ≤ 8
term_few (Variable name) = omega arith
term_few (Integer value) = omega arith

addends_weight : (more : List Addend) → addends_words more ≤ 9 * length more
addends_weight [] = omega arith
addends_weight (a ∷ more) = omega (arith, term_few a.term, addends_weight more)

items_weight : (items : List Item) → items_words items ≤ 13 * sum_by item_weight items
items_weight [] = omega arith
items_weight (Text bytes ∷ items) = rw (sum_by-cons item_weight (Text bytes) items) (omega (arith, items_weight items))
items_weight (Value term ∷ items) = rw (sum_by-cons item_weight (Value term) items) (omega (arith, term_few term, items_weight items))

statement_weight : (x : Statement) → statement_words x ≤ 256 * weight_of x
statement_weight (Assign target first more) = omega (arith, term_few first, addends_weight more)
statement_weight (Print []) = omega arith
statement_weight (Print (i ∷ items)) = omega (arith, items_weight (i ∷ items))
statement_weight End = omega arith

pub body_weight : (xs : List Statement) → body_words xs ≤ 256 * sum_by weight_of xs
body_weight [] = omega arith
body_weight (x ∷ xs) = rw (sum_by-cons weight_of x xs) (omega (arith, statement_weight x, body_weight xs))

addends_size : (more : List Addend) → addends_words more ≤ 32 * sum_by (λ a. 1 + term_size a.term) more
addends_size [] = omega arith
addends_size (a ∷ more) = rw (sum_by-cons (λ a. 1 + term_size a.term) a more) (omega (arith, term_few a.term, addends_size more))

items_size : (items : List Item) → items_words items ≤ 32 * sum_by (λ i. 1 + item_size i) items
items_size [] = omega arith
items_size (Text bytes ∷ items) = rw (sum_by-cons (λ i. 1 + item_size i) (Text bytes) items) (omega (arith, items_size items))
items_size (Value term ∷ items) = rw (sum_by-cons (λ i. 1 + item_size i) (Value term) items) (omega (arith, term_few term, items_size items))

statement_size : (x : Statement) → statement_words x ≤ 32 * size_of x
statement_size (Assign target first more) = omega (arith, term_few first, addends_size more)
statement_size (Print []) = omega arith
statement_size (Print (i ∷ items)) = omega (arith, items_size (i ∷ items))
statement_size End = omega arith

pub body_size : (xs : List Statement) → body_words xs ≤ 32 * sum_by size_of xs
body_size [] = omega arith
body_size (x ∷ xs) = rw (sum_by-cons size_of x xs) (omega (arith, statement_size x, body_size xs))

-- ---- and by the bytes

items_bytes : (items : List Item) → items_words items ≤ 8 * sum_by (λ i. 1 + item_size i) items
items_bytes [] = omega arith
items_bytes (Text bytes ∷ items) = rw (sum_by-cons (λ i. 1 + item_size i) (Text bytes) items) (omega (arith, items_bytes items))
items_bytes (Value (Variable name) ∷ items) = rw (sum_by-cons (λ i. 1 + item_size i) (Value (Variable name)) items) (omega (arith, items_bytes items))
items_bytes (Value (Integer value) ∷ items) = rw (sum_by-cons (λ i. 1 + item_size i) (Value (Integer value)) items) (omega (arith, items_bytes items))

term_bytes : (t : Term) → term_words t + 1 ≤ 8 * (1 + term_size t)
term_bytes (Variable name) = omega arith
term_bytes (Integer value) = omega arith

term_first : (t : Term) → term_words t ≤ 5 + 8 * term_size t
term_first (Variable name) = omega arith
term_first (Integer value) = omega arith

addends_bytes : (more : List Addend) → addends_words more ≤ 8 * sum_by (λ a. 1 + term_size a.term) more
addends_bytes [] = omega arith
addends_bytes (a ∷ more) = rw (sum_by-cons (λ a. 1 + term_size a.term) a more) (omega (arith, term_bytes a.term, addends_bytes more))

statement_bytes : (x : Statement) → statement_words x ≤ 8 * size_of x
statement_bytes (Assign target first more) = omega (arith, term_first first, addends_bytes more)
statement_bytes (Print []) = omega arith
statement_bytes (Print (i ∷ items)) = omega (arith, items_bytes (i ∷ items))
statement_bytes End = omega arith

pub body_bytes : (xs : List Statement) → body_words xs ≤ 8 * sum_by size_of xs
body_bytes [] = omega arith
body_bytes (x ∷ xs) = rw (sum_by-cons size_of x xs) (omega (arith, statement_bytes x, body_bytes xs))

addends_tokens : (more : List Addend) → length more ≤ sum_by (λ a. 1 + term_size a.term) more
addends_tokens [] = omega arith
addends_tokens (a ∷ more) = rw (sum_by-cons (λ a. 1 + term_size a.term) a more) (omega (arith, addends_tokens more))

items_tokens : (items : List Item) → length items ≤ sum_by (λ i. 1 + item_size i) items
items_tokens [] = omega arith
items_tokens (i ∷ items) = rw (sum_by-cons (λ i. 1 + item_size i) i items) (omega (arith, items_tokens items))

statement_tokens : (x : Statement) → tokens_of x ≤ 2 + 2 * size_of x
statement_tokens (Assign target first more) = omega (arith, addends_tokens more)
statement_tokens (Print items) = omega (arith, items_tokens items)
statement_tokens End = omega arith

pub body_tokens : (xs : List Statement) → sum_by tokens_of xs ≤ 2 * length xs + 2 * sum_by size_of xs
body_tokens [] = omega arith
body_tokens (x ∷ xs) = rw (sum_by-cons tokens_of x xs, sum_by-cons size_of x xs) (omega (arith, statement_tokens x, body_tokens xs))
