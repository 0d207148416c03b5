-- The kind of a statement, by its text alone: the first of three that holds.
use Rattle.std.specs.Prelude.{◌≡◌, ℕ, ◌<◌, ◌≤◌, true, false, ◌==◌, if◌then◌else◌, [], ◌∷◌, ◌++◌, length, take, slice_index, codes}
use Rattle.std.specs.List.{list_all}
use Rattle.std.specs.Str.{bytes_eq}
use Rattle.f77_tree.specs.Names.{is_name}
use Rattle.f77_expr.specs.Spelling.{Text, AreDigits, is_digit, value_of}
use Rattle.fixed_form.specs.Heads.{Lacks}
use Rattle.form_kinds.specs.declared.statement_kinds.StatementKind.{StatementKind}
use Rattle.form_kinds.specs.declared.statement_kinds.StatementKind.TheVariants as kind
use Rattle.form_kinds.specs.Scans.{FirstOutside, NoneOutside}

-- ---- texts that begin with IF(

-- the condition up to the matching parenthesis, and what stands behind it
pub record IsIf (text condition behind : Text) : Type 0 where
  pub inside : Text
  pub cut : text ≡ codes "IF(" ++ inside
  pub closed : FirstOutside 41 inside condition behind

pub record NoIf (text : Text) : Type 0 where
  pub not : (condition behind : Text) → IsIf text condition behind → ⊥

-- `=` makes it an assignment to an element of an array IF
abbrev pub kind_behind : Text → StatementKind
kind_behind [] = kind.LogicalIf
kind_behind (b ∷ rest) =
    if b == 61 then kind.Assignment else (if bytes_eq (b ∷ rest) (codes "THEN") then kind.BlockIf else (if is_digit b then kind.ArithmeticIf else kind.LogicalIf))

-- ---- runs of digits

-- the first n bytes are digits, and the next is none
pub record IsDigitRun (text : Text) (n : ℕ) : Type 0 where
  pub within : n ≤ length text
  pub each : list_all is_digit (take n text) ≡ true
  pub stops : n < length text → is_digit (slice_index text n) ≡ false

-- ---- texts with = outside literals and parentheses

-- a comma, or nothing
pub data IsOptionalComma (mark : Text) : Type 0 where
  absent : mark ≡ [] → IsOptionalComma mark
  comma : mark ≡ 44 ∷ [] → IsOptionalComma mark

-- the optional comma at the front, and what stands behind it
pub record SkipsMark (text rest : Text) : Type 0 where
  pub mark : Text
  pub cut : text ≡ mark ++ rest
  pub optional : IsOptionalComma mark
  pub maximal : (more : Text) → text ≡ 44 ∷ more → mark ≡ 44 ∷ []

-- DO, a label, an optional comma and a name
pub record IsDoHead (text : Text) (label : ℕ) (name : Text) : Type 0 where
  pub digits : Text
  pub mark : Text
  pub cut : text ≡ codes "DO" ++ (digits ++ (mark ++ name))
  pub are_digits : AreDigits digits
  pub few : length digits ≤ 5
  pub optional : IsOptionalComma mark
  pub named : is_name name ≡ true
  pub value : label ≡ value_of digits

pub record NoDoHead (text : Text) : Type 0 where
  pub not : (label : ℕ) (name : Text) → IsDoHead text label name → ⊥

-- what stands before the = of a DO and behind it
pub record IsDo (before behind : Text) (label : ℕ) (name : Text) : Type 0 where
  pub head : IsDoHead before label name
  pub limit : Text
  pub more : Text
  pub comma : FirstOutside 44 behind limit more

pub record SomeDo (before behind : Text) : Type 0 where
  pub label : ℕ
  pub name : Text
  pub is : IsDo before behind label name

pub record NoDo (before behind : Text) : Type 0 where
  pub not : (label : ℕ) (name : Text) → IsDo before behind label name → ⊥

-- the kind by what stands before the first = and behind it
pub data IsKindAround (before behind : Text) (k : StatementKind) : Type 0 where
  loop : (label : ℕ) (name : Text) → IsDo before behind label name → k ≡ kind.Do → IsKindAround before behind k
  assigned : NoDo before behind → k ≡ kind.Assignment → IsKindAround before behind k

-- ---- all texts

-- each text has exactly one kind
pub data IsKind (text : Text) (k : StatementKind) : Type 0 where
  closed_if : (condition behind : Text) → IsIf text condition behind → k ≡ kind_behind behind → IsKind text k
  -- no statement stands behind a parenthesis that isn't closed
  open_if : (inside : Text) → text ≡ codes "IF(" ++ inside → NoneOutside 41 inside → k ≡ kind.LogicalIf → IsKind text k
  equated : (before behind : Text) → Lacks text (codes "IF(") → FirstOutside 61 text before behind → IsKindAround before behind k → IsKind text k
  worded : Lacks text (codes "IF(") → NoneOutside 61 text → k ≡ kind.Worded → IsKind text k
