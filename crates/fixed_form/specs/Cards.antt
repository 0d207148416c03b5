-- Lines by their columns. Columns are numbered from 1 in the comments, and from 0 in lists.
use Rattle.std.specs.Prelude.{ℕ, ◌+◌, ◌-◌, ◌*◌, Bool, false, not, ◌||◌, ◌&&◌, [], ◌∷◌, ◌++◌, if◌then◌else◌, ◌==◌, nat_le, nat_lt, slice_index, fold, take, drop, replicate, codes}
use Rattle.std.specs.List.{list_all, list_any}
use Rattle.std.specs.Str.{bytes_eq}
use Rattle.fixed_form.specs.declared.card.LineKind.{LineKind}
use Rattle.fixed_form.specs.declared.card.LineKind.TheVariants as kind
use Rattle.fixed_form.specs.Lines.{Text}

-- columns 1 to 72 of a line, which is filled with blanks where it is shorter
unfoldable pub columns : Text → Text
columns line = take 72 (line ++ replicate 72 32)

unfoldable pub is_blank : Text → Bool
is_blank = list_all (λ b. b == 32)

-- a comment line has C, c or * in column 1, or blanks in all columns
unfoldable pub is_comment : Text → Bool
is_comment card = slice_index card 0 == 67 || slice_index card 0 == 99 || slice_index card 0 == 42 || is_blank card

-- columns 1 to 5, and columns 7 to 72
abbrev pub label_field : Text → Text
label_field card = take 5 card

abbrev pub text_field : Text → Text
text_field card = drop 6 card

abbrev pub is_digit : ℕ → Bool
is_digit b = nat_le 48 b && nat_le b 57

abbrev pub with_digit : ℕ → ℕ → ℕ
with_digit n b = if is_digit b then 10 * n + (b - 48) else n

-- the value of the digits
abbrev pub value_of : Text → ℕ
value_of = fold with_digit 0

-- what a byte leaves: outside literals nothing of a blank and its capital of a small letter, else itself
abbrev pub kept : Bool → ℕ → Text
kept inside b = if inside then b ∷ [] else (if b == 32 then [] else (if nat_le 97 b && nat_le b 122 then (b - 32) ∷ [] else b ∷ []))

-- Whether the place behind a byte is inside a literal. An apostrophe begins a literal or ends it; a doubled one does both.
abbrev pub inside_after : Bool → ℕ → Bool
inside_after inside b = if b == 39 then not inside else inside

-- whether the place behind these columns is inside a literal: whether the number of apostrophes is odd
unfoldable pub inside_from : Bool → Text → Bool
inside_from = fold inside_after

-- what these columns leave, where their first is inside a literal or outside
unfoldable pub text_from : Bool → Text → Text
text_from inside [] = []
text_from inside (b ∷ bs) = kept inside b ++ text_from (inside_after inside b) bs

-- the statement text of columns 7 to 72, those of all lines of the statement joined
abbrev pub statement_text : Text → Text
statement_text = text_from false

-- a byte that stands in literals and comment lines alone
abbrev pub is_strange : ℕ → Bool
is_strange b = nat_lt b 32 || nat_le 127 b

-- whether such a byte stands outside the literals of these columns, the first of which is inside a literal or not
unfoldable pub has_strange : Bool → Text → Bool
has_strange inside [] = false
has_strange inside (b ∷ bs) = (not inside && is_strange b) || has_strange (inside_after inside b) bs

-- columns 1 to 6 are outside
abbrev pub card_strange : Bool → Text → Bool
card_strange inside card = list_any is_strange (take 6 card) || has_strange inside (text_field card)

-- digits and blanks, and no 0 written as a label
unfoldable pub is_label : Text → Bool
is_label field = list_all (λ b. is_digit b || b == 32) field && (is_blank field || nat_lt 0 (value_of field))

unfoldable pub is_end : Text → Bool
is_end field = bytes_eq (statement_text field) (codes "END")

-- column 6
abbrev pub is_initial : ℕ → Bool
is_initial mark = mark == 32 || mark == 48

-- what a line is that is no comment line
unfoldable pub statement_kind : Text → LineKind
statement_kind card =
    if is_initial (slice_index card 5) then (if is_label (label_field card) then (if is_end (text_field card) then kind.End else kind.Initial) else kind.BadLabel)
    else (if is_blank (label_field card) then kind.Continuation else kind.LabelledContinuation)

unfoldable pub kind_of : Text → LineKind
kind_of card = if is_comment card then kind.Comment else statement_kind card
